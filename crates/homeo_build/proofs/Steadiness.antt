-- Forms that are steady, as the code sees them.
use Rattle.homeo_meaning.specs.Key.{definitions as meaning_definitions}
use Rattle.homeo_plan.specs.Key.{definitions as plan_definitions}
use Rattle.homeo_syntax.specs.Key.{definitions as syntax_definitions}
use Rattle.homeo_follow.specs.Key.{definitions}
use Rattle.std.proofs.Common.{◌≡◌, ◌≤ℤ◌, ℕ, ◌+◌, ◌<◌, ◌≤◌, true, false, ◌&&◌, List, [], ◌∷◌, ◌++◌, map, length, take, get_or, ℤ, int_le, sym, ap, ◌∙◌, subst, true≢false, arith}
use Rattle.std.proofs.lemmas.Int.{ints}
use Rattle.std.proofs.lemmas.List.{take_more}
use Rattle.homeo_syntax.specs.declared.phrase.Compare.TheVariants.{LessEqual}
use Rattle.homeo_syntax.specs.Low.{Literal, Test, Comparison, Command, NoTest, MoreTest}
use Rattle.homeo_syntax.specs.LowView.{low_tests, low_commands, plain_lexpr, plain_ltest, plain_lcond}
use Rattle.homeo_syntax.specs.declared.low.LExpr.{LExpr}
use Rattle.homeo_syntax.specs.declared.low.LTest.{LTest, Compare}
use Rattle.homeo_syntax.specs.declared.phrase.Compare.{Compare as Comparing}
use Rattle.homeo_syntax.specs.declared.low.LCond.{LCond, out-LCond}
use Rattle.homeo_syntax.proofs.LowViews.{low_Compare, low_conjunction}
use Rattle.homeo_plan.specs.Linear.{form}
use Rattle.homeo_follow.specs.Steady.{IsSteadyTest, IsSteadyCond, IsSteady, AreSteady}
use Rattle.homeo_build.specs.inner.Bounding.{AreBounds}

pub none_steady : IsSteadyCond NoTest
unfolding definitions
none_steady = tt

pub one_steady : (t : Test) → IsSteadyTest t → IsSteadyCond (MoreTest t NoTest)
unfolding definitions
one_steady t h = (h, tt, λ f e. absurd (true≢false e))

-- a value that is above its bounds isn't below them
above : (low high n : ℤ) → low ≤ℤ high → (int_le n high && true) ≡ false → int_le low n ≡ true
above low high n order h = grind (arith, ints, order, h)

pub two_steady : (t u : Test) → AreBounds t u → IsSteadyCond (MoreTest t (MoreTest u NoTest))
unfolding definitions plan_definitions meaning_definitions
two_steady t u h =
    subst (λ (z : Test). IsSteadyCond (MoreTest z (MoreTest u NoTest))) (sym h.first)
    (subst (λ (z : Test). IsSteadyCond (MoreTest (Comparison LessEqual (Literal h.low) h.value) (MoreTest z NoTest))) (sym h.second)
    (tt, (tt, tt, λ f e. absurd (true≢false e)), λ f e. above h.low h.high (form f h.value).constant h.order e))

-- two tests of whether a value is within bounds
pub bounds_seen :
    (above below : LTest) (op other : Comparing) (left value same right : LExpr) (low high : ℤ) → above ≡ Compare op left value → op ≡ LessEqual →
    plain_lexpr left ≡ Literal low → below ≡ Compare other same right → other ≡ LessEqual → plain_lexpr right ≡ Literal high →
    plain_lexpr value ≡ plain_lexpr same → low ≤ℤ high → AreBounds (plain_ltest above) (plain_ltest below)
bounds_seen above below op other left value same right low high is op_is left_is below_is other_is right_is equal order =
    record {
      low = low;
      high = high;
      value = plain_lexpr value;
      first = ap plain_ltest is ∙ low_Compare op left value ∙ (λ i. Comparison (op_is i) (left_is i) (plain_lexpr value));
      second = ap plain_ltest below_is ∙ low_Compare other same right ∙ (λ i. Comparison (other_is i) (sym equal i) (right_is i));
      order = order;
    }

-- ---- of the tests of a condition
module _ (c : LCond) (ts : List LTest) (is : ts ≡ (out-LCond c).tests.items) where
  there : low_tests (map plain_ltest ts) ≡ plain_lcond c
  there = ap (λ l. low_tests (map plain_ltest l)) is ∙ sym (low_conjunction c)

  pub seen_none : length ts ≡ 0 → IsSteadyCond (plain_lcond c)
  unfolding syntax_definitions
  seen_none n = subst IsSteadyCond there (go ts n)
    where
      go : (xs : List LTest) → length xs ≡ 0 → IsSteadyCond (low_tests (map plain_ltest xs))
      go [] n = none_steady
      go (x ∷ xs) n = absurd (omega (arith, n))

  pub seen_one : (t : LTest) → length ts ≡ 1 → t ≡ get_or ts 0 t → IsSteadyTest (plain_ltest t) → IsSteadyCond (plain_lcond c)
  unfolding syntax_definitions
  seen_one t n first h = subst IsSteadyCond there (go ts n first)
    where
      go : (xs : List LTest) → length xs ≡ 1 → t ≡ get_or xs 0 t → IsSteadyCond (low_tests (map plain_ltest xs))
      go [] n p = absurd (omega (arith, n))
      go (x ∷ []) n p = one_steady (plain_ltest x) (subst (λ y. IsSteadyTest (plain_ltest y)) p h)
      go (x ∷ y ∷ xs) n p = absurd (omega (arith, n))

  pub seen_two :
      (t u : LTest) → length ts ≡ 2 → t ≡ get_or ts 0 t → u ≡ get_or ts 1 u → AreBounds (plain_ltest t) (plain_ltest u) →
      IsSteadyCond (plain_lcond c)
  unfolding syntax_definitions
  seen_two t u n first second h = subst IsSteadyCond there (go ts n first second)
    where
      go : (xs : List LTest) → length xs ≡ 2 → t ≡ get_or xs 0 t → u ≡ get_or xs 1 u → IsSteadyCond (low_tests (map plain_ltest xs))
      go [] n p q = absurd (omega (arith, n))
      go (x ∷ []) n p q = absurd (omega (arith, n))
      go (x ∷ y ∷ []) n p q = two_steady (plain_ltest x) (plain_ltest y) (subst (λ z. AreBounds (plain_ltest z) (plain_ltest y)) p (subst (λ z. AreBounds (plain_ltest t) (plain_ltest z)) q h))
      go (x ∷ y ∷ z ∷ xs) n p q = absurd (omega (arith, n))

-- ---- one command after another
pub steady_first : {X : Type 0} (view : X → Command) → AreSteady (low_commands (map view []))
unfolding definitions syntax_definitions
steady_first view = tt

steady_append :
    {X : Type 0} (view : X → Command) (cs : List X) (c : X) → AreSteady (low_commands (map view cs)) → IsSteady (view c) →
    AreSteady (low_commands (map view (cs ++ c ∷ [])))
unfolding definitions syntax_definitions
steady_append view [] c so_far h = (h, tt)
steady_append view (x ∷ cs) c so_far h = (so_far.0, steady_append view cs c so_far.1 h)

pub steady_more :
    {X : Type 0} (view : X → Command) (cs : List X) (i : ℕ) (c : X) → i < length cs → c ≡ get_or cs i c → IsSteady (view c) →
    AreSteady (low_commands (map view (take i cs))) → AreSteady (low_commands (map view (take (i + 1) cs)))
steady_more view cs i c within is h so_far =
    subst (λ l. AreSteady (low_commands (map view l))) (sym (take_more cs i c within))
    (steady_append view (take i cs) (get_or cs i c) so_far (subst (λ z. IsSteady (view z)) is h))
