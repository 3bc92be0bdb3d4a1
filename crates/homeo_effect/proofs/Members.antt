-- Lists of numbers that have the same members.
use Rattle.std.proofs.Common.{◌≡◌, ℕ, ◌==◌, ◌+◌, ◌<◌, ◌≤◌, Bool, true, false, List, [], ◌∷◌, length, take, get_or, refl, sym, ap, ◌∙◌}
use Rattle.std.specs.Prelude.{◌||◌}
use Rattle.std.specs.List.{list_any}
use Rattle.std.proofs.lemmas.List.Folds.{list_any_more}
use Rattle.std.proofs.lemmas.Bool.{or_left, or_right}
use Rattle.homeo_lemmas.proofs.Lists.{take_past}
use Rattle.homeo_lemmas.proofs.Naturals.{nat_is, nat_itself}
use Rattle.homeo_outline.specs.Numbers.{has}

false_not : {A : Type 0} → false ≡ true → A
false_not e = let no : ⊥ = cc in absurd no

same_truth : (a b : Bool) → (a ≡ true → b ≡ true) → (b ≡ true → a ≡ true) → a ≡ b
same_truth true b h k = sym (h refl)
same_truth false true h k = k refl
same_truth false false h k = refl

either : (a b : Bool) (C : Type 0) → (a || b) ≡ true → (a ≡ true → C) → (b ≡ true → C) → C
either true b C h p q = p refl
either false b C h p q = q h

-- one that passes is a member that passes
passing : (P : ℕ → Bool) (xs : List ℕ) → list_any P xs ≡ true → (x : ℕ) × (has x xs ≡ true) × (P x ≡ true)
passing P [] h = false_not h
passing P (y ∷ ys) h =
    either (P y) (list_any P ys) ((x : ℕ) × (has x (y ∷ ys) ≡ true) × (P x ≡ true)) h
    (λ p. (y, or_left (y == y) (has y ys) (nat_itself y), p))
    (λ q. let m = passing P ys q in (m.0, or_right (m.0 == y) (has m.0 ys) m.1, m.2))

member_passes : (P : ℕ → Bool) (xs : List ℕ) (x : ℕ) → has x xs ≡ true → P x ≡ true → list_any P xs ≡ true
member_passes P [] x h p = false_not h
member_passes P (y ∷ ys) x h p =
    either (x == y) (has x ys) (list_any P (y ∷ ys) ≡ true) h
    (λ e. or_left (P y) (list_any P ys) (sym (ap P (nat_is x y e)) ∙ p))
    (λ q. or_right (P y) (list_any P ys) (member_passes P ys x q p))

same_members : (P : ℕ → Bool) (xs ys : List ℕ) → ((x : ℕ) → has x xs ≡ has x ys) → list_any P xs ≡ list_any P ys
same_members P xs ys h =
    same_truth (list_any P xs) (list_any P ys)
    (λ p. let m = passing P xs p in member_passes P ys m.0 (sym (h m.0) ∙ m.1) m.2)
    (λ p. let m = passing P ys p in member_passes P xs m.0 (h m.0 ∙ m.1) m.2)

-- ---- members that are looked up one after another
module _ (P : ℕ → Bool) (xs : List ℕ) (k : ℕ) where
  pub one_found : k < length xs → (found : Bool) → found ≡ list_any P (take k xs) → (found || P (get_or xs k 0)) ≡ list_any P (take (k + 1) xs)
  one_found lt found so_far = ap (λ v. v || P (get_or xs k 0)) so_far ∙ sym (list_any_more P xs k 0 lt)

  pub all_found :
      length xs ≤ k → (held : List ℕ) → xs ≡ held → (ys : List ℕ) → ((x : ℕ) → has x held ≡ has x ys) → list_any P (take k xs) ≡ list_any P ys
  all_found past held e ys same = ap (list_any P) (take_past xs k past ∙ e) ∙ same_members P held ys same
