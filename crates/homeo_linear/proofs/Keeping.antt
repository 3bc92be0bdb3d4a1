-- Conditions that are kept, one test after another.
use Rattle.std.proofs.Common.{◌≡◌, ℕ, ◌+◌, ◌<◌, ◌≤◌, Bool, true, false, not, cond, ◌&&◌, List, [], ◌∷◌, ◌++◌, drop, get_or, length, refl, sym, ap, ◌∙◌, subst, true≢false, append-nil, arith}
use Rattle.std.proofs.lemmas.List.{append_assoc, get_or_default}
use Rattle.homeo_syntax.specs.Key.{definitions as syntax_definitions}
use Rattle.homeo_syntax.specs.declared.phrase.Compare.{Compare as Comparing}
use Rattle.homeo_syntax.specs.Low as l
use Rattle.homeo_syntax.specs.LowView.{low_tests, plain_lexpr, plain_ltest, plain_lcond}
use Rattle.homeo_syntax.specs.declared.low.LExpr.{LExpr}
use Rattle.homeo_syntax.specs.declared.low.LTest.{LTest, True, Not, Compare}
use Rattle.homeo_syntax.specs.declared.low.LCond.{LCond}
use Rattle.homeo_syntax.proofs.LowViews.{low_True, low_Not, low_Compare}
use Rattle.homeo_meaning.specs.Meaning.{compared}
use Rattle.homeo_meaning.specs.LowMeaning.{holds}
use Rattle.homeo_meaning.specs.Small.{IsSmall}
use Rattle.homeo_lemmas.proofs.Lists.{map_drop_past}
use Rattle.homeo_meaning.proofs.Steps.{drop_next}
use Rattle.homeo_plan.specs.Key.{definitions as plan_definitions}
use Rattle.homeo_plan.specs.FormSizes.{CanTest, CanCond}
use Rattle.homeo_plan.specs.Linear.{Linear, Forms, form}
use Rattle.homeo_follow.specs.Key.{definitions}
use Rattle.homeo_follow.specs.Follow.{passes_by, holds_by, passed_test, failed_test, passed, failed}
use Rattle.homeo_plan.specs.Limit.{form_limit}
use Rattle.homeo_linear.specs.inner.Kept.{AreSides, Decides, cond_of, kept_comparison, kept_test, kept_cond}
use Rattle.homeo_plan.proofs.FormNumbers.{small_form}
use Rattle.homeo_linear.proofs.Comparing.{are_apart}

-- ---- the first of the tests that are left
pub record TestStep (fs : Forms) (ts : List LTest) (i : ℕ) (t : LTest) : Type 0 where
  pub first : CanTest (IsSmall form_limit) fs (plain_ltest t)
  pub rest : CanCond (IsSmall form_limit) fs (cond_of (drop (i + 1) ts))
  pub held : holds_by fs (cond_of (drop i ts)) ≡ (passes_by fs (plain_ltest t) && holds_by fs (cond_of (drop (i + 1) ts)))
  pub asked : passed fs (cond_of (drop i ts)) ≡ passed_test fs (plain_ltest t) ++ passed fs (cond_of (drop (i + 1) ts))
  pub missed : failed fs (cond_of (drop i ts)) ≡ cond (passes_by fs (plain_ltest t)) (failed fs (cond_of (drop (i + 1) ts))) (failed_test fs (plain_ltest t))

pub test_step :
    {fs : Forms} (ts : List LTest) (i : ℕ) (t : LTest) → i < length ts → t ≡ get_or ts i t →
    CanCond (IsSmall form_limit) fs (cond_of (drop i ts)) → TestStep fs ts i t
unfolding definitions plan_definitions syntax_definitions
test_step {fs} ts i t h p can =
    let next = drop_next plain_ltest ts i t h p in
    let k = subst (λ l. CanCond (IsSmall form_limit) fs (low_tests l)) next can in
    record {
      first = k.0;
      rest = k.1;
      held = ap (λ l. holds_by fs (low_tests l)) next;
      asked = ap (λ l. passed fs (low_tests l)) next;
      missed = ap (λ l. failed fs (low_tests l)) next;
    }

-- ---- each kind of test
module _ (fs : Forms) (t : LTest) where
  pub not_can : (c : LCond) → t ≡ Not c → CanTest (IsSmall form_limit) (fs) (plain_ltest t) → CanCond (IsSmall form_limit) (fs) (plain_lcond c)
  unfolding plan_definitions
  not_can c p h = subst (CanTest (IsSmall form_limit) (fs)) (ap plain_ltest p ∙ low_Not c) h

  pub sides_can : (op : Comparing) (x y : LExpr) → t ≡ Compare op x y → CanTest (IsSmall form_limit) (fs) (plain_ltest t) → AreSides fs (plain_lexpr x) (plain_lexpr y)
  unfolding plan_definitions
  sides_can op x y p h =
      let k : CanTest (IsSmall form_limit) (fs) (l.Comparison op (plain_lexpr x) (plain_lexpr y)) =
      subst (CanTest (IsSmall form_limit) (fs)) (ap plain_ltest p ∙ low_Compare op x y) h in
      let m = small_form (IsSmall form_limit) (fs) (plain_lexpr x) k.0 in
      let n = small_form (IsSmall form_limit) (fs) (plain_lexpr y) k.1 in
      record { left = k.0; right = k.1; there = are_apart _ _ m n k.2; back = are_apart _ _ n m k.3 }

  pub true_passes : t ≡ True → true ≡ passes_by fs (plain_ltest t)
  unfolding definitions
  true_passes p = sym (ap (λ x. passes_by fs (plain_ltest x)) p ∙ ap (λ x. passes_by fs x) low_True)

  pub true_kept : (ys : List Linear) → t ≡ True → ys ≡ ys ++ kept_test fs (plain_ltest t)
  unfolding definitions plan_definitions
  true_kept ys p = sym (ap (λ x. ys ++ kept_test fs (plain_ltest x)) p ∙ ap (λ x. ys ++ kept_test fs x) low_True ∙ append-nil ys)

  pub not_passes : (c : LCond) (v : Bool) → t ≡ Not c → v ≡ holds_by fs (plain_lcond c) → not v ≡ passes_by fs (plain_ltest t)
  unfolding definitions
  not_passes c v p q =
      ap not q ∙ sym (ap (λ x. passes_by fs (plain_ltest x)) p ∙ ap (λ x. passes_by fs x) (low_Not c))

  pub not_kept : (c : LCond) → t ≡ Not c → kept_cond fs (plain_lcond c) ≡ kept_test fs (plain_ltest t)
  unfolding definitions plan_definitions
  not_kept c p =
      swap (holds_by fs (plain_lcond c)) (passed fs (plain_lcond c)) (failed fs (plain_lcond c))
      ∙ sym (ap (λ x. kept_test fs (plain_ltest x)) p ∙ ap (kept_test fs) (low_Not c))
    where
      swap : (v : Bool) (xs zs : List Linear) → cond v xs zs ≡ cond (not v) zs xs
      swap true xs zs = refl
      swap false xs zs = refl

  pub comparison_passes :
      (op : Comparing) (x y : LExpr) → t ≡ Compare op x y → compared op (form fs (plain_lexpr x)).constant (form fs (plain_lexpr y)).constant ≡ passes_by fs (plain_ltest t)
  unfolding definitions
  comparison_passes op x y p = sym (ap (λ z. passes_by fs (plain_ltest z)) p ∙ ap (λ z. passes_by fs z) (low_Compare op x y))

  pub comparison_kept :
      (op : Comparing) (x y : LExpr) → t ≡ Compare op x y → kept_comparison op (form fs (plain_lexpr x)) (form fs (plain_lexpr y)) ≡ kept_test fs (plain_ltest t)
  unfolding definitions plan_definitions
  comparison_kept op x y p = sym (ap (λ z. kept_test fs (plain_ltest z)) p ∙ ap (kept_test fs) (low_Compare op x y))

-- ---- tests that pass, one after another
-- the first tests pass: with those that are left they are the whole condition
pub record PassedSoFar (fs : Forms) (ts : List LTest) (i : ℕ) : Type 0 where
  pub small : CanCond (IsSmall form_limit) fs (cond_of (drop i ts))
  pub held : holds_by fs (cond_of (drop i ts)) ≡ holds_by fs (cond_of ts)
  pub missed : failed fs (cond_of (drop i ts)) ≡ failed fs (cond_of ts)

pub none_passed : (fs : Forms) (ts : List LTest) → CanCond (IsSmall form_limit) fs (cond_of ts) → PassedSoFar fs ts 0
none_passed fs ts h = record { small = h; held = refl; missed = refl }

pub one_more_passed :
    {fs : Forms} {ts : List LTest} {i : ℕ} {t : LTest} → TestStep fs ts i t → PassedSoFar fs ts i → (v : Bool) → v ≡ true → v ≡ passes_by fs (plain_ltest t) →
    PassedSoFar fs ts (i + 1)
one_more_passed {fs} {ts} {i} {t} k s v n q =
    let more = cond_of (drop (i + 1) ts) in
    let yes = sym n ∙ q in
    record {
      small = k.rest;
      held = ap (λ u. u && holds_by fs more) yes ∙ sym k.held ∙ s.held;
      missed = ap (λ u. cond u (failed fs more) (failed_test fs (plain_ltest t))) yes ∙ sym k.missed ∙ s.missed;
    }

pub all_passed : {fs : Forms} {ts : List LTest} {i : ℕ} → length ts ≤ i → PassedSoFar fs ts i → holds_by fs (cond_of ts) ≡ true
unfolding definitions syntax_definitions
all_passed {fs} {ts} {i} h s = sym s.held ∙ ap (λ l. holds_by fs (low_tests l)) (map_drop_past plain_ltest ts i h)

-- ---- the test that decides
module _ {fs : Forms} {ts : List LTest} {i : ℕ} {t : LTest} (k : TestStep fs ts i t) (s : PassedSoFar fs ts i) (v : Bool) (n : v ≡ false)
    (q : v ≡ passes_by fs (plain_ltest t)) where
  no : false ≡ passes_by fs (plain_ltest t)
  no = sym n ∙ q

  pub first_fails : false ≡ holds_by fs (cond_of ts)
  first_fails = ap (λ u. u && holds_by fs (cond_of (drop (i + 1) ts))) no ∙ sym k.held ∙ s.held

  first_kept : kept_test fs (plain_ltest t) ≡ kept_cond fs (cond_of ts)
  first_kept =
      sym (ap (λ u. cond u (passed_test fs (plain_ltest t)) (failed_test fs (plain_ltest t))) no)
      ∙ ap (λ u. cond u (failed fs (cond_of (drop (i + 1) ts))) (failed_test fs (plain_ltest t))) no ∙ sym k.missed ∙ s.missed
      ∙ ap (λ u. cond u (passed fs (cond_of ts)) (failed fs (cond_of ts))) first_fails

  pub first_decides : i < length ts → t ≡ get_or ts i t → Decides fs ts i
  first_decides h p = record {
    within = h;
    small = λ u e. subst (λ x. CanTest (IsSmall form_limit) fs (plain_ltest x)) (same u e) k.first;
    holds = λ u e. ap (λ x. passes_by fs (plain_ltest x)) (sym (same u e)) ∙ sym no ∙ first_fails;
    kept = λ u e. ap (λ x. kept_test fs (plain_ltest x)) (sym (same u e)) ∙ first_kept;
  }
    where
      same : (u : LTest) → u ≡ get_or ts i u → t ≡ u
      same u e = p ∙ get_or_default ts i t u h ∙ sym e

pub only_decides : (fs : Forms) (ts : List LTest) → length ts ≡ 1 → CanCond (IsSmall form_limit) fs (cond_of ts) → Decides fs ts 0
unfolding definitions plan_definitions syntax_definitions
only_decides fs [] n h = absurd (omega (arith, n))
only_decides fs (t ∷ u ∷ us) n h = absurd (omega (arith, n))
only_decides fs (t ∷ []) n h = record {
  within = omega arith;
  small = λ u e. subst (λ x. CanTest (IsSmall form_limit) fs (plain_ltest x)) (sym e) h.0;
  holds = λ u e. ap (λ x. passes_by fs (plain_ltest x)) e ∙ sym (alone_holds (passes_by fs (plain_ltest t)));
  kept = λ u e.
      ap (λ x. kept_test fs (plain_ltest x)) e ∙ alone_kept (passes_by fs (plain_ltest t)) (passed_test fs (plain_ltest t)) (failed_test fs (plain_ltest t));
}
  where
    alone_holds : (v : Bool) → (v && true) ≡ v
    alone_holds true = refl
    alone_holds false = refl

    alone_kept : (v : Bool) (xs ys : List Linear) → cond v xs ys ≡ cond (v && true) (xs ++ []) (cond v [] ys)
    alone_kept true xs ys = sym (append-nil xs)
    alone_kept false xs ys = refl

-- ---- atoms behind others
-- tests pass, as far as they were asked, and their atoms stand behind others
pub record AskedSoFar (fs : Forms) (ts : List LTest) (i : ℕ) (others atoms : List Linear) : Type 0 where
  pub small : CanCond (IsSmall form_limit) fs (cond_of (drop i ts))
  pub held : holds_by fs (cond_of (drop i ts)) ≡ true
  pub behind : atoms ++ passed fs (cond_of (drop i ts)) ≡ others ++ passed fs (cond_of ts)

pub none_asked :
    (fs : Forms) (ts : List LTest) (others : List Linear) → CanCond (IsSmall form_limit) fs (cond_of ts) → holds_by fs (cond_of ts) ≡ true → AskedSoFar fs ts 0 others others
none_asked fs ts others h p = record { small = h; held = p; behind = refl }

pub one_more_asked :
    {fs : Forms} {ts : List LTest} {i : ℕ} {t : LTest} {xs ys zs : List Linear} → TestStep fs ts i t → AskedSoFar fs ts i xs ys →
    zs ≡ ys ++ kept_test fs (plain_ltest t) → AskedSoFar fs ts (i + 1) xs zs
one_more_asked {fs} {ts} {i} {t} {xs} {ys} {zs} k s h =
    let more = cond_of (drop (i + 1) ts) in
    let both = parts (passes_by fs (plain_ltest t)) (holds_by fs more) (sym k.held ∙ s.held) in
    record {
      small = k.rest;
      held = both.1;
      behind =
          ap (λ l. l ++ passed fs more) (h ∙ ap (λ u. ys ++ cond u (passed_test fs (plain_ltest t)) (failed_test fs (plain_ltest t))) both.0)
          ∙ append_assoc ys (passed_test fs (plain_ltest t)) (passed fs more) ∙ ap (λ l. ys ++ l) (sym k.asked) ∙ s.behind;
    }
  where
    parts : (v w : Bool) → (v && w) ≡ true → (v ≡ true) × (w ≡ true)
    parts true w e = (refl, e)
    parts false w e = absurd (true≢false (sym e))

pub all_asked : {fs : Forms} {ts : List LTest} {i : ℕ} {xs ys : List Linear} → length ts ≤ i → AskedSoFar fs ts i xs ys → ys ≡ xs ++ passed fs (cond_of ts)
unfolding definitions syntax_definitions
all_asked {fs} {ts} {i} {xs} {ys} h s =
    sym (append-nil ys) ∙ sym (ap (λ l. ys ++ passed fs (low_tests l)) (map_drop_past plain_ltest ts i h)) ∙ s.behind

-- of a condition that holds all tests' atoms keep it
pub held_kept : (fs : Forms) (ts : List LTest) → holds_by fs (cond_of ts) ≡ true → passed fs (cond_of ts) ≡ kept_cond fs (cond_of ts)
held_kept fs ts h = sym (ap (λ u. cond u (passed fs (cond_of ts)) (failed fs (cond_of ts))) h)
