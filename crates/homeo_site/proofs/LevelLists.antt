-- A list is brought level with another of its length, one place after another.
use Rattle.std.proofs.Common.{◌≡◌, ℕ, suc, ◌+◌, ◌<◌, ◌≤◌, ◌==◌, Bool, true, false, cond, List, set, drop, length, get_or, ℤ, pos, refl, sym, ap, ◌∙◌, arith}
use Rattle.std.specs.Prelude.{◌||◌}
use Rattle.std.proofs.Math.Seq.{drop-cons}
use Rattle.std.proofs.lemmas.Bool.Decides.{nat_tests}
use Rattle.std.proofs.lemmas.List.{drop_all, ext_get_or, get_or_past}
use Rattle.homeo_meaning.specs.Serial.{values_of}
use Rattle.homeo_meaning.proofs.AbsentItems.{padded_set}
use Rattle.homeo_outline.specs.Numbers.{has}

-- they differ at no other places than these
abbrev pub IsLevelBut : List ℕ → List ℤ → List ℤ → Type 0
IsLevelBut places other list = (n : ℕ) → has n places ≡ false → values_of other n ≡ values_of list n

module _ (places : List ℕ) (k : ℕ) (other list : List ℤ) (below : k < length places) (level : IsLevelBut (drop k places) other list) where
  at_others : (n : ℕ) → (get_or places k 0 == n) ≡ false → has n (drop (k + 1) places) ≡ false → values_of other n ≡ values_of list n
  at_others n differs none =
      let one_more : k + 1 ≡ suc k = omega arith in
      let next : drop (k + 1) places ≡ drop (suc k) places = ap (λ m. drop m places) one_more in
      let here : (n == get_or places k 0) ≡ false = grind (arith, nat_tests, differs) in
      level n (ap (has n) (drop-cons places k 0 below) ∙ (λ i. here i || has n (drop (suc k) places)) ∙ sym (ap (has n) next) ∙ none)

  pub place_brought :
      get_or places k 0 < length list →
      IsLevelBut (drop (k + 1) places) other (set list (get_or places k 0) (values_of other (get_or places k 0)))
  place_brought there n none = go (get_or places k 0 == n) refl ∙ sym (padded_set list (get_or places k 0) _ (pos 0) n there)
    where
      go : (b : Bool) → (get_or places k 0 == n) ≡ b → values_of other n ≡ cond b (values_of other (get_or places k 0)) (values_of list n)
      go true e = ap (values_of other) (grind (arith, nat_tests, e))
      go false e = at_others n e none

  pub place_skipped : length list ≡ length other → length other ≤ get_or places k 0 → IsLevelBut (drop (k + 1) places) other list
  place_skipped count past n none = go (get_or places k 0 == n) refl
    where
      go : (b : Bool) → (get_or places k 0 == n) ≡ b → values_of other n ≡ values_of list n
      go true e =
          let same : get_or places k 0 ≡ n = grind (arith, nat_tests, e) in
          get_or_past other n (pos 0) (omega (arith, same, past)) ∙ sym (get_or_past list n (pos 0) (omega (arith, same, past, count)))
      go false e = at_others n e none

-- with no places left they are the same
pub all_brought :
    (places : List ℕ) (k : ℕ) (other list : List ℤ) → length places ≤ k → length list ≡ length other →
    IsLevelBut (drop k places) other list → list ≡ other
all_brought places k other list past count level =
    ext_get_or (pos 0) list other count (λ n lt. sym (level n (ap (has n) (drop_all k places past))))
