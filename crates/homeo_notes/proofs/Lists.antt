-- Lists by line number.
use Rattle.std.proofs.Common.{◌≡◌, ◌≢◌, ◌⊎◌, inl, inr, ⊎_elim, ℕ, zero, suc, ◌+◌, Bool, true, false, cond, List, [], ◌∷◌, ◌++◌, length, set, get_or, Some, None, refl, sym, ap, ◌∙◌, arith}
use Rattle.std.specs.declared.option.Option.{Option}
use mathlib.Core.Option.{some, some-ne-none, some-injective}
use lib.ListN.{get_elem?}
use Rattle.std.proofs.lemmas.Bool.Decides.{nat_tests}
use Rattle.homeo_lemmas.proofs.Bools.{cond_same}
use Rattle.homeo_notes.specs.Lines.{Entries, put, pick, longer, longest, or_empty, all_or_empty}

module _ {A : Type 0} where
  pub get_or-put_same : (d : A) (xs : List A) (i : ℕ) (a : A) → get_or (put d xs i a) i d ≡ a
  get_or-put_same d [] zero a = refl
  get_or-put_same d [] (suc i) a = get_or-put_same d [] i a
  get_or-put_same d (x ∷ xs) zero a = refl
  get_or-put_same d (x ∷ xs) (suc i) a = get_or-put_same d xs i a

  pub get_or-put_other : (d : A) (xs : List A) (i j : ℕ) (a : A) → j ≢ i → get_or (put d xs i a) j d ≡ get_or xs j d
  get_or-put_other d [] zero zero a ne = absurd (ne refl)
  get_or-put_other d [] zero (suc j) a ne = refl
  get_or-put_other d [] (suc i) zero a ne = refl
  get_or-put_other d [] (suc i) (suc j) a ne = get_or-put_other d [] i j a (λ e. ne (ap suc e))
  get_or-put_other d (x ∷ xs) zero zero a ne = absurd (ne refl)
  get_or-put_other d (x ∷ xs) zero (suc j) a ne = refl
  get_or-put_other d (x ∷ xs) (suc i) zero a ne = refl
  get_or-put_other d (x ∷ xs) (suc i) (suc j) a ne = get_or-put_other d xs i j a (λ e. ne (ap suc e))

  pub get_or-pick : (d : A) (p : ℕ → Bool) (n : ℕ) (xs : List A) (i : ℕ) → get_or (pick d p n xs) i d ≡ cond (p (n + i)) (get_or xs i d) d
  get_or-pick d p n [] i = sym (cond_same (p (n + i)) d)
  get_or-pick d p n (x ∷ xs) zero = let e : n ≡ n + 0 = omega arith in ap (λ k. cond (p k) x d) e
  get_or-pick d p n (x ∷ xs) (suc i) = let e : suc n + i ≡ n + suc i = omega arith in get_or-pick d p (suc n) xs i ∙ ap (λ k. cond (p k) (get_or xs i d) d) e

  pub set_there : (l : List A) (i : ℕ) (a b : A) → get_elem? l i ≡ some a → get_elem? (set l i b) i ≡ some b
  set_there [] i a b e = absurd (some-ne-none a (sym e))
  set_there (x ∷ xs) zero a b e = refl
  set_there (x ∷ xs) (suc i) a b e = set_there xs i a b e

  -- where an element of a longer list stands
  pub at_snoc_or_last : (l : List A) (a b : A) (j : ℕ) → get_elem? (l ++ a ∷ []) j ≡ some b → (get_elem? l j ≡ some b) ⊎ ((a ≡ b) × (j ≡ length l))
  at_snoc_or_last [] a b zero e = inr (some-injective a b e, refl)
  at_snoc_or_last [] a b (suc j) e = absurd (some-ne-none b (sym e))
  at_snoc_or_last (x ∷ xs) a b zero e = inl e
  at_snoc_or_last (x ∷ xs) a b (suc j) e = ⊎_elim inl (λ t. inr (t.0, ap suc t.1)) (at_snoc_or_last xs a b j e)

  pub cond_some : (t : Bool) (o : Option A) (x : A) → cond t o None ≡ Some x → (t ≡ true) × (o ≡ Some x)
  cond_some true o x e = (refl, e)
  cond_some false o x e = absurd (cc (e))

longer_nil : (ys : Entries) → longer [] ys ≡ ys
longer_nil [] = refl
longer_nil (y ∷ ys) = grind (arith, nat_tests)

pub get_or-longest : (xs ys : List Entries) (i : ℕ) → get_or (longest xs ys) i [] ≡ longer (get_or xs i []) (get_or ys i [])
get_or-longest [] ys i = sym (longer_nil (get_or ys i []))
get_or-longest (x ∷ xs) [] zero = grind (arith, nat_tests)
get_or-longest (x ∷ xs) [] (suc i) = grind (arith, nat_tests)
get_or-longest (x ∷ xs) (y ∷ ys) zero = refl
get_or-longest (x ∷ xs) (y ∷ ys) (suc i) = get_or-longest xs ys i

pub get_or-all_or_empty : (xs : List (Option Entries)) (i : ℕ) → get_or (all_or_empty xs) i [] ≡ or_empty (get_or xs i None)
get_or-all_or_empty [] i = refl
get_or-all_or_empty (x ∷ xs) zero = refl
get_or-all_or_empty (x ∷ xs) (suc i) = get_or-all_or_empty xs i
