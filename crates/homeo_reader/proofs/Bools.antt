-- Tests, and sets of classes.
use Rattle.std.proofs.Common.{◌≡◌, ℕ, Bool, true, false, ◌||◌, ◌&&◌, not, List, [], ◌∷◌, ◌++◌, refl, ◌⊎◌, inl, inr, sym, subst}
use Rattle.std.proofs.lemmas.Bool.{eqb-true, and_parts, or_left, or_right, or_cases}
use Rattle.std.specs.Prelude.{◌==◌, if◌then◌else◌}
use Rattle.homeo_lemmas.proofs.Bools.{never_both}
use Rattle.homeo_syntax.specs.Grammar.{has}
use Rattle.homeo_reader.specs.inner.Engine.{apart, within, where_empty}

pub has_left : (xs ys : List ℕ) (n : ℕ) → has xs n ≡ true → has (xs ++ ys) n ≡ true
has_left [] ys n h = cc
has_left (x ∷ xs) ys n h =
    elim (or_cases (n == x) (has xs n) h) [ inl e ↦ or_left _ _ e | inr e ↦ or_right (n == x) _ (has_left xs ys n e) ]

pub has_right : (xs ys : List ℕ) (n : ℕ) → has ys n ≡ true → has (xs ++ ys) n ≡ true
has_right [] ys n h = h
has_right (x ∷ xs) ys n h = or_right (n == x) _ (has_right xs ys n h)

pub has_where : (b : Bool) (xs : List ℕ) (n : ℕ) → b ≡ true → has xs n ≡ true → has (where_empty b xs) n ≡ true
has_where true xs n e h = h
has_where false xs n e h = cc

pub has_apart : (xs ys : List ℕ) (n : ℕ) → apart xs ys ≡ true → has xs n ≡ true → has ys n ≡ true → ⊥
has_apart [] ys n a h k = cc
has_apart (x ∷ xs) ys n a h k =
    let s = and_parts (not (has ys x)) (apart xs ys) a in
    elim (or_cases (n == x) (has xs n) h) [
      | inl e ↦ never_both (has ys x) s.0 (subst (λ (m : ℕ). has ys m ≡ true) (eqb-true n x e) k)
      | inr e ↦ has_apart xs ys n s.1 e k
    ]

pub has_within : (xs ys : List ℕ) (n : ℕ) → within xs ys ≡ true → has xs n ≡ true → has ys n ≡ true
has_within [] ys n w h = cc
has_within (x ∷ xs) ys n w h =
    let s = and_parts (has ys x) (within xs ys) w in
    elim (or_cases (n == x) (has xs n) h) [
      | inl e ↦ subst (λ (m : ℕ). has ys m ≡ true) (sym (eqb-true n x e)) s.0
      | inr e ↦ has_within xs ys n s.1 e
    ]

-- which way a choice went
pub chosen : {A : Type 0} → (b : Bool) (x y : A) → ((b ≡ true) × ((if b then x else y) ≡ x)) ⊎ ((b ≡ false) × ((if b then x else y) ≡ y))
chosen true x y = inl (refl, refl)
chosen false x y = inr (refl, refl)

pub if_true : {A : Type 0} → (b : Bool) (x y : A) → b ≡ true → (if b then x else y) ≡ x
if_true true x y h = refl
if_true false x y h = cc

pub if_false : {A : Type 0} → (b : Bool) (x y : A) → b ≡ false → (if b then x else y) ≡ y
if_false true x y h = cc
if_false false x y h = refl

pub not_both : (a b c : Bool) → a ≡ false → ((a && b) || (false && c)) ≡ false
not_both true b c h = cc
not_both false b c h = refl
