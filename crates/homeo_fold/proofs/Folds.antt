-- The fold of an object, one site after another, and of a database, one object after another.
use Rattle.std.proofs.Common.{◌≡◌, ℕ, zero, suc, ◌+◌, ◌<◌, ◌≤◌, [], ◌∷◌, ◌++◌, map, length, get_or, ℤ, pos, ◌+ℤ◌, FitsSigned, w64, to_z, of_z, refl, sym, ap, ap₂, ◌∙◌, subst, arith}
use Rattle.std.proofs.lemmas.Int.{ints, to_z-of_z}
use Rattle.std.proofs.lemmas.List.{get_or-map, get_or_past}
use mathlib.Core.Path.{fun_ext}
use Rattle.homeo_syntax.specs.Listed.{Listed}
use Rattle.homeo_meaning.specs.Key.{definitions as meaning_definitions}
use Rattle.homeo_meaning.specs.LowMeaning.{Location, TempAt, BaseAt, DeltaAt, whole}
use Rattle.homeo_meaning.specs.Serial.{values_of, values_from}
use Rattle.homeo_plan.specs.Key.{definitions}
use Rattle.homeo_plan.specs.Split.{sum_from, fold_state}
use Rattle.homeo_plan.proofs.Sums.{sum_same, sum_zero}
use Rattle.homeo_split.specs.Key.{definitions as split_definitions}
use Rattle.homeo_split.specs.States.{state_of}
use Rattle.homeo_split.specs.declared.split.Split.{Split}
use Rattle.homeo_delta.proofs.ValuesFrom.{values_are}
use Rattle.homeo_fold.specs.Folding.{folded_of, folded_at, folded, SumsFit, HasNoOtherDeltas}

sum_last : (j n : ℕ) (f : ℕ → ℤ) → sum_from j (suc n) f ≡ sum_from j n f +ℤ f (j + n)
unfolding definitions
sum_last j zero f = let here : j + 0 ≡ j = omega arith in omega (arith, ints, ap f here)
sum_last j (suc n) f =
    let here : suc j + n ≡ j + suc n = omega arith in
    omega (arith, ints, sum_last (suc j) n f, ap f here)

-- ---- an object
regrouped : (a b c d : ℤ) → c ≡ d → a +ℤ (b +ℤ c) ≡ (a +ℤ b) +ℤ d
regrouped a b c d e = omega (arith, ints, e)

one_more_site :
    (s : Split) (k x : ℕ) (d : Listed ℤ) → d ≡ get_or s.deltas.items k d → k < length s.deltas.items →
    folded_of s (k + 1) x ≡ folded_of s k x +ℤ get_or d.items x (pos 0)
unfolding definitions split_definitions
one_more_site s k x d is lt =
    let on : k + 1 ≡ suc k = omega arith in
    let here : 0 + k ≡ k = omega arith in
    let f = λ (j : ℕ). state_of s (DeltaAt x j) in
    let list_is : get_or (map (λ l. l.items) s.deltas.items) k [] ≡ d.items =
    get_or-map (λ l. l.items) s.deltas.items k d [] lt ∙ ap (λ l. l.items) (sym is) in
    let delta_is : f (0 + k) ≡ get_or d.items x (pos 0) = ap f here ∙ ap (λ l. get_or l x (pos 0)) list_is in
    ap (λ n. folded_of s n x) on ∙ ap (λ v. state_of s (BaseAt x) +ℤ v) (sum_last 0 k f)
    ∙ regrouped (state_of s (BaseAt x)) (sum_from 0 k f) (f (0 + k)) _ delta_is

no_site : (s : Split) (x : ℕ) → get_or s.base.items x (pos 0) ≡ folded_of s 0 x
unfolding definitions split_definitions
no_site s x = omega (arith, ints)

-- what the code's numbers are
pub first_sum : (s : Split) (x : ℕ) → SumsFit s → x < length s.base.items → to_z w64 (of_z w64 (get_or s.base.items x (pos 0))) ≡ folded_of s 0 x
first_sum s x fits lt =
    let fit : FitsSigned w64 (get_or s.base.items x (pos 0)) = subst (FitsSigned w64) (sym (no_site s x)) (fits 0 x (omega arith) lt) in
    to_z-of_z w64 _ fit ∙ no_site s x

module _
    (s : Split) (k x : ℕ) (d : Listed ℤ) (sum delta : ℤ) (fits : SumsFit s) (is : d ≡ get_or s.deltas.items k d)
    (site : k < length s.deltas.items) (object : x < length s.base.items) (sum_is : sum ≡ folded_of s k x)
    (delta_is : delta ≡ get_or d.items x (pos 0))
  where
    sum_more : sum +ℤ delta ≡ folded_of s (k + 1) x
    sum_more = ap₂ ◌+ℤ◌ sum_is delta_is ∙ sym (one_more_site s k x d is site)

    pub next_fits : FitsSigned w64 (sum +ℤ delta)
    next_fits = subst (FitsSigned w64) (sym sum_more) (fits (k + 1) x (omega arith) object)

    pub next_sum : to_z w64 (of_z w64 (sum +ℤ delta)) ≡ folded_of s (k + 1) x
    next_sum = to_z-of_z w64 _ next_fits ∙ sum_more

-- ---- a database
values_last : (k n : ℕ) (f : ℕ → ℤ) → values_from k (suc n) f ≡ values_from k n f ++ f (k + n) ∷ []
values_last k zero f = let here : k ≡ k + 0 = omega arith in ap (λ m. f m ∷ []) here
values_last k (suc n) f =
    let here : suc k + n ≡ k + suc n = omega arith in
    ap (λ vs. f k ∷ vs) (values_last (suc k) n f ∙ ap (λ m. values_from (suc k) n f ++ f m ∷ []) here)

pub one_more_object : (n : ℕ) (f : ℕ → ℤ) → values_from 0 (n + 1) f ≡ values_from 0 n f ++ f n ∷ []
one_more_object n f =
    let on : n + 1 ≡ suc n = omega arith in
    let here : 0 + n ≡ n = omega arith in
    ap (λ m. values_from 0 m f) on ∙ values_last 0 n f ∙ ap (λ m. values_from 0 n f ++ f m ∷ []) here

pub all_objects : (s : Split) → folded s ≡ values_from 0 (length s.base.items) (folded_at s)
unfolding meaning_definitions
all_objects s = refl

nothing_past : (s : Split) → HasNoOtherDeltas s → (x : ℕ) → length s.base.items ≤ x → folded_at s x ≡ pos 0
unfolding definitions split_definitions
nothing_past s none x le =
    let k = length s.deltas.items in
    let deltas : sum_from 0 k (λ j. state_of s (DeltaAt x j)) ≡ pos 0 = sum_same 0 k _ _ (λ j. none x j le) ∙ sum_zero 0 k in
    omega (arith, ints, get_or_past s.base.items x (pos 0) le, deltas)

-- as a state
pub whole_fold : (s : Split) → HasNoOtherDeltas s → whole (values_of (folded s)) ≡ fold_state (length s.deltas.items) (state_of s)
unfolding definitions meaning_definitions split_definitions
whole_fold s none = fun_ext at
  where
    value_at : (x : ℕ) → get_or (values_from 0 (length s.base.items) (folded_at s)) x (pos 0) ≡ folded_at s x
    value_at x =
        let same : (y : ℕ) → 0 + y ≡ y = λ y. omega arith in
        values_are 0 (length s.base.items) x (folded_at s) (λ y le. ap (folded_at s) (same y) ∙ nothing_past s none y le)
        ∙ ap (folded_at s) (same x)

    at : (p : Location) → whole (values_of (folded s)) p ≡ fold_state (length s.deltas.items) (state_of s) p
    at (TempAt t) = refl
    at (BaseAt x) = value_at x
    at (DeltaAt x j) = refl
