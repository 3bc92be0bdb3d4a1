-- Conditions whose tests are compared one after another.
use Rattle.std.proofs.Common.{◌≡◌, ℕ, ◌+◌, ◌<◌, ◌≤◌, Bool, true, false, not, cond, ◌&&◌, List, [], ◌∷◌, ◌++◌, map, drop, get_or, length, refl, sym, ap, ap₂, ◌∙◌, subst, true≢false, append-nil, append_assoc}
use Rattle.std.specs.List.{flat_map}
use Rattle.std.proofs.lemmas.List.Concat.{flat_map-append}
use Rattle.homeo_lemmas.proofs.Lists.{map_drop_past}
use Rattle.homeo_syntax.specs.Key.{definitions as syntax_definitions}
use Rattle.homeo_syntax.specs.declared.phrase.Compare.{Compare}
use Rattle.homeo_syntax.specs.declared.low.LTest.{LTest}
use Rattle.homeo_syntax.specs.Low.{Expr, Test, Cond, True, Not, Comparison, NoTest, MoreTest}
use Rattle.homeo_syntax.specs.LowView.{low_tests, plain_ltest}
use Rattle.homeo_meaning.specs.Key.{definitions as meaning_definitions}
use Rattle.homeo_meaning.specs.Meaning.{compared}
use Rattle.homeo_meaning.specs.LowMeaning.{passes, holds}
use Rattle.homeo_meaning.proofs.Steps.{drop_next}
use Rattle.homeo_plan.specs.Key.{definitions as plan_definitions}
use Rattle.homeo_plan.specs.Each.{Each}
use Rattle.homeo_plan.specs.Linear.{Linear, Forms, form}
use Rattle.homeo_plan.proofs.Atoms.{append_each}
use Rattle.homeo_certificate.specs.Key.{definitions}
use Rattle.homeo_verify.specs.declared.stop.Stop.{Stop}
use Rattle.homeo_verify.specs.declared.conditions.Compared.{Compared}
use Rattle.homeo_certificate.specs.Met.{at_zero, met_in_test, met_in_cond}
use Rattle.homeo_certificate.specs.Kept.{Atom, kept_true, kept_false, true_test, true_cond, false_test, false_cond, kept}
use Rattle.homeo_certificate.specs.Followed.{too_large}
use Rattle.homeo_verify.specs.inner.Compares.{atoms_of, AreSmall, Give, kept_in_test}
use Rattle.homeo_verify.specs.inner.Stops.{StopsAt}
use Rattle.homeo_certificate.proofs.Constants.{constant_is}
use Rattle.homeo_verify.proofs.LargeNumbers.{large_behind, none_large, large_in_front}

module _ (f : Forms) where
  -- what keeps a condition whose first tests pass, and have these atoms
  abbrev kept_from : List Atom → Cond → List Atom
  kept_from ys c = cond (holds c (at_zero f)) (ys ++ true_cond f c) (false_cond f c)

  kept_more : (ys : List Atom) (t : Test) (c : Cond) → true ≡ passes t (at_zero f) → kept_from (ys ++ kept_in_test f t) c ≡ kept_from ys (MoreTest t c)
  unfolding definitions meaning_definitions
  kept_more ys t c h = go (passes t (at_zero f)) h
    where
      go : (v : Bool) → true ≡ v →
          cond (holds c (at_zero f)) ((ys ++ cond v (true_test f t) (false_test f t)) ++ true_cond f c) (false_cond f c)
          ≡ cond (v && holds c (at_zero f)) (ys ++ (true_test f t ++ true_cond f c)) (cond v (false_cond f c) (false_test f t))
      go true e = ap (λ xs. cond (holds c (at_zero f)) xs (false_cond f c)) (append_assoc ys (true_test f t) (true_cond f c))
      go false e = absurd (true≢false e)

  kept_stop : (ys : List Atom) (t : Test) (c : Cond) → false ≡ passes t (at_zero f) → kept_in_test f t ≡ kept_from ys (MoreTest t c)
  unfolding definitions meaning_definitions
  kept_stop ys t c h = go (passes t (at_zero f)) h
    where
      go : (v : Bool) → false ≡ v →
          cond v (true_test f t) (false_test f t)
          ≡ cond (v && holds c (at_zero f)) (ys ++ (true_test f t ++ true_cond f c)) (cond v (false_cond f c) (false_test f t))
      go true e = absurd (true≢false (sym e))
      go false e = refl

  met_more : (t : Test) (c : Cond) → true ≡ passes t (at_zero f) → met_in_cond f (MoreTest t c) ≡ met_in_test f t ++ met_in_cond f c
  unfolding definitions
  met_more t c h = ap (λ v. met_in_test f t ++ cond v (met_in_cond f c) []) (sym h)

  met_stop : (t : Test) (c : Cond) → false ≡ passes t (at_zero f) → met_in_cond f (MoreTest t c) ≡ met_in_test f t ++ []
  unfolding definitions
  met_stop t c h = ap (λ v. met_in_test f t ++ cond v (met_in_cond f c) []) (sym h)

  -- the tests so far pass; the comparisons keep them, and none of their numbers is too large
  pub record TestsSoFar (cs : List Compared) (left all : Cond) : Type 0 where
    pub small : too_large (met_in_cond f left) ≡ too_large (met_in_cond f all)
    pub holds : holds left (at_zero f) ≡ holds all (at_zero f)
    pub atoms : kept_from (flat_map atoms_of cs) left ≡ kept f all
    pub each : Each AreSmall cs

  pub tests_start : (cs : List Compared) (all : Cond) → cs ≡ [] → TestsSoFar cs all all
  unfolding definitions plan_definitions
  tests_start cs all e = subst (λ l. TestsSoFar l all all) (sym e) (record { small = refl; holds = refl; atoms = refl; each = tt })

  module _ (cs : List Compared) (t : Test) (c all : Cond) (s : TestsSoFar cs (MoreTest t c) all) where
    pub test_stops : (e : Stop) → StopsAt (too_large (met_in_test f t)) e → StopsAt (too_large (met_in_cond f all)) e
    unfolding definitions
    test_stops e h =
        subst (λ l. StopsAt l e) s.small (large_in_front (met_in_test f t) (cond (passes t (at_zero f)) (met_in_cond f c) []) e h)

    module _ (v : Bool) (more : List Compared) (none : too_large (met_in_test f t) ≡ []) (is : v ≡ passes t (at_zero f)) (give : Give more (kept_in_test f t)) where
      pub test_goes_on : v ≡ true → (new : List Compared) → new ≡ cs ++ more → TestsSoFar new c all
      unfolding meaning_definitions
      test_goes_on h new e =
          let p : true ≡ passes t (at_zero f) = sym h ∙ is in
          subst (λ l. TestsSoFar l c all) (sym e) (record {
            small = sym (large_behind (met_in_test f t) (met_in_cond f c) none) ∙ ap too_large (sym (met_more t c p)) ∙ s.small;
            holds = ap (λ w. w && holds c (at_zero f)) p ∙ s.holds;
            atoms =
                ap (λ ys. kept_from ys c) (flat_map-append atoms_of cs more ∙ ap (λ ys. flat_map atoms_of cs ++ ys) give.atoms)
                ∙ kept_more (flat_map atoms_of cs) t c p ∙ s.atoms;
            each = append_each AreSmall cs more s.each give.small;
          })

      module _ (fails : v ≡ false) where
        was : false ≡ passes t (at_zero f)
        was = sym fails ∙ is

        pub fails_small : too_large (met_in_cond f all) ≡ []
        unfolding definitions
        fails_small = sym s.small ∙ ap too_large (met_stop t c was) ∙ none_large (met_in_test f t) [] none refl

        pub fails_holds : v ≡ holds all (at_zero f)
        unfolding meaning_definitions
        fails_holds = fails ∙ ap (λ w. w && holds c (at_zero f)) was ∙ s.holds

        pub fails_give : Give more (kept f all)
        fails_give = record { atoms = give.atoms ∙ kept_stop (flat_map atoms_of cs) t c was ∙ s.atoms; small = give.small }

  module _ (cs : List Compared) (all : Cond) (s : TestsSoFar cs NoTest all) where
    pub tests_small : too_large (met_in_cond f all) ≡ []
    unfolding definitions
    tests_small = sym s.small

    pub tests_hold : true ≡ holds all (at_zero f)
    unfolding meaning_definitions
    tests_hold = s.holds

    pub tests_give : Give cs (kept f all)
    unfolding definitions meaning_definitions
    tests_give = record { atoms = sym (append-nil (flat_map atoms_of cs)) ∙ s.atoms; small = s.each }

  -- the tests of a list, as far as they were looked at
  pub next_test : (cs : List Compared) (ts : List LTest) (i : ℕ) (t : LTest) (all : Cond) → i < length ts → t ≡ get_or ts i t →
      TestsSoFar cs (low_tests (map plain_ltest (drop i ts))) all → TestsSoFar cs (MoreTest (plain_ltest t) (low_tests (map plain_ltest (drop (i + 1) ts)))) all
  unfolding syntax_definitions
  next_test cs ts i t all l e s = subst (λ c. TestsSoFar cs (low_tests c) all) (drop_next plain_ltest ts i t l e) s

  pub last_test : (cs : List Compared) (ts : List LTest) (i : ℕ) (all : Cond) → length ts ≤ i → TestsSoFar cs (low_tests (map plain_ltest (drop i ts))) all →
      TestsSoFar cs NoTest all
  unfolding syntax_definitions
  last_test cs ts i all l s = subst (λ c. TestsSoFar cs (low_tests c) all) (map_drop_past plain_ltest ts i l) s

  -- ---- each kind of test
  pub true_gives : (cs : List Compared) → cs ≡ [] → Give cs (kept_in_test f True)
  unfolding definitions meaning_definitions plan_definitions
  true_gives cs e = subst (λ l. Give l (kept_in_test f True)) (sym e) (record { atoms = refl; small = tt })

  pub not_gives : (cs : List Compared) (c : Cond) → Give cs (kept f c) → Give cs (kept_in_test f (Not c))
  unfolding definitions meaning_definitions
  not_gives cs c g = record { atoms = g.atoms ∙ swap (holds c (at_zero f)) (true_cond f c) (false_cond f c); small = g.small }
    where
      swap : (v : Bool) (xs ys : List Atom) → cond v xs ys ≡ cond (not v) ys xs
      swap true xs ys = refl
      swap false xs ys = refl

  module _ (op : Compare) (a b : Expr) where
    pub comparison_passes : (m n : Linear) → m ≡ form f a → n ≡ form f b → compared op m.constant n.constant ≡ passes (Comparison op a b) (at_zero f)
    unfolding meaning_definitions
    comparison_passes m n p q =
        ap₂ (λ (x y : Linear). compared op x.constant y.constant) p q ∙ ap₂ (compared op) (constant_is f a) (constant_is f b)

    pub comparison_gives : (c : Compared) (cs : List Compared) → cs ≡ c ∷ [] → c.op ≡ op → c.left ≡ form f a → c.right ≡ form f b →
        c.holds ≡ passes (Comparison op a b) (at_zero f) → AreSmall c → Give cs (kept_in_test f (Comparison op a b))
    unfolding definitions meaning_definitions plan_definitions
    comparison_gives c cs e o p q h small =
        let all : atoms_of c ≡ kept_in_test f (Comparison op a b) =
        ap₂ (λ v x. cond v (kept_true x c.left c.right) (kept_false x c.left c.right)) h o
        ∙ ap₂ (λ x y. cond (passes (Comparison op a b) (at_zero f)) (kept_true op x y) (kept_false op x y)) p q in
        subst (λ l. Give l (kept_in_test f (Comparison op a b))) (sym e) (record { atoms = append-nil (atoms_of c) ∙ all; small = (small, tt) })
