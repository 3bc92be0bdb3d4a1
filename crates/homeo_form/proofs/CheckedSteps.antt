-- Forms that are made as far as their numbers are small, one part after another.
use Rattle.std.proofs.Common.{◌≡◌, ℕ, zero, suc, ◌+◌, ◌<◌, ◌≤◌, Option, Some, None, List, [], ◌∷◌, take, slice_index_or, length, ℤ, negsuc, sym, ap, ◌∙◌, subst, arith}
use Rattle.homeo_syntax.specs.Low as l
use Rattle.homeo_meaning.specs.Small.{IsSmall}
use Rattle.homeo_plan.specs.Key.{definitions as plan_definitions}
use Rattle.homeo_plan.specs.Each.{Each}
use Rattle.homeo_plan.specs.FormSizes.{Numbers, CanForm}
use Rattle.homeo_plan.specs.Linear.{Linear, Forms, constant_form, scale_form, form}
use Rattle.homeo_plan.specs.Limit.{form_limit}
use Rattle.homeo_form.specs.Checked.{Kept, Checked}
use Rattle.homeo_plan.proofs.FormNumbers.{small_form}

-- ---- each of a list, as far as it was looked at
module _ {X : Type 0} (P : X → Type 0) where
  each_next : (xs : List X) (i : ℕ) (d : X) → i < length xs → Each P (take i xs) → P (slice_index_or xs i d) → Each P (take (suc i) xs)
  unfolding plan_definitions
  each_next [] i d l h k = absurd (omega (arith, l))
  each_next (x ∷ xs) zero d l h k = (k, tt)
  each_next (x ∷ xs) (suc i) d l h k = (h.0, each_next xs i d (omega (arith, l)) h.1 k)

  pub each_more : (xs : List X) (i : ℕ) (d : X) → i < length xs → Each P (take i xs) → P (slice_index_or xs i d) → Each P (take (i + 1) xs)
  each_more xs i d l h k = let e : suc i ≡ i + 1 = omega arith in subst (λ n. Each P (take n xs)) e (each_next xs i d l h k)

  pub each_here : (xs : List X) (i : ℕ) (d : X) → i < length xs → Each P xs → P (slice_index_or xs i d)
  unfolding plan_definitions
  each_here [] i d l h = absurd (omega (arith, l))
  each_here (x ∷ xs) zero d l h = h.0
  each_here (x ∷ xs) (suc i) d l h = each_here xs i d (omega (arith, l)) h.1

  pub each_all : (xs : List X) (i : ℕ) → length xs ≤ i → Each P (take i xs) → Each P xs
  unfolding plan_definitions
  each_all [] i l h = tt
  each_all (x ∷ xs) zero l h = absurd (omega (arith, l))
  each_all (x ∷ xs) (suc i) l h = (h.0, each_all xs i (omega (arith, l)) h.1)

pub number_is_small : (n : ℤ) → IsSmall form_limit n → Numbers (IsSmall form_limit) (constant_form n)
unfolding plan_definitions
number_is_small n h = record { constant = h; factors = tt }

-- ---- what was made, or not
pub made : (a b : Linear) (o : Option Linear) → o ≡ Some b → Kept a o → Numbers (IsSmall form_limit) a × (b ≡ a)
made a b o e h = subst (Kept a) e h

pub not_made : (a : Linear) (o : Option Linear) → o ≡ None → Kept a o → Numbers (IsSmall form_limit) a → ⊥
not_made a o e h = subst (Kept a) e h

module _ (f : Forms) where
  pub got : (x : l.Expr) (o : Option Linear) (a : Linear) → o ≡ Some a → Checked f x o → CanForm (IsSmall form_limit) f x × (a ≡ form f x)
  got x o a e h = subst (Checked f x) e h

  pub got_small : (x : l.Expr) (o : Option Linear) (a : Linear) → o ≡ Some a → Checked f x o → Numbers (IsSmall form_limit) a
  got_small x o a e h =
      let g = got x o a e h in
      subst (Numbers (IsSmall form_limit)) (sym g.1) (small_form (IsSmall form_limit) f x g.0)

  pub gone : (x : l.Expr) (o : Option Linear) → o ≡ None → Checked f x o → CanForm (IsSmall form_limit) f x → ⊥
  gone x o e h = subst (Checked f x) e h

  -- an expression whose form stands, or is a number
  pub leaf : (x y : l.Expr) (a : Linear) (o : Option Linear) → x ≡ y → a ≡ form f y → ((b : Linear) → b ≡ form f y → Kept b o → Checked f y o) → Kept a o → Checked f x o
  leaf x y a o e q g k = subst (λ z. Checked f z o) (sym e) (g a q k)

  pub literal_checked : (x : l.Expr) (n : ℤ) (a : Linear) (o : Option Linear) → x ≡ l.Literal n → a ≡ constant_form n → Kept a o → Checked f x o
  unfolding plan_definitions
  literal_checked x n a o e q k =
      let j : Kept (constant_form n) o = subst (λ b. Kept b o) q k in
      let g : Checked f (l.Literal n) o = j in
      subst (λ z. Checked f z o) (sym e) g

  pub stands_checked : (x y : l.Expr) (a b : Linear) (o : Option Linear) → x ≡ y → a ≡ b → (Kept b o → Checked f y o) → Kept a o → Checked f x o
  stands_checked x y a b o e q g k = subst (λ z. Checked f z o) (sym e) (g (subst (λ c. Kept c o) q k))

  pub neg_checked : (x y : l.Expr) (a b : Linear) (o : Option Linear) → y ≡ l.Neg x → CanForm (IsSmall form_limit) f x → a ≡ form f x → b ≡ scale_form (negsuc 0) a → Kept b o → Checked f y o
  unfolding plan_definitions
  neg_checked x y a b o e can q r k =
      let s : b ≡ scale_form (negsuc 0) (form f x) = r ∙ ap (scale_form (negsuc 0)) q in
      subst (λ z. Checked f z o) (sym e) (go o (subst (λ c. Kept c o) s k))
    where
      go : (o : Option Linear) → Kept (scale_form (negsuc 0) (form f x)) o → Checked f (l.Neg x) o
      go None k = λ h. k h.1
      go (Some c) k = ((can, k.0), k.1)

  pub neg_gone : (x y : l.Expr) → y ≡ l.Neg x → (CanForm (IsSmall form_limit) f x → ⊥) → CanForm (IsSmall form_limit) f y → ⊥
  unfolding plan_definitions
  neg_gone x y e k h = let j : CanForm (IsSmall form_limit) f (l.Neg x) = subst (CanForm (IsSmall form_limit) f) e h in k j.0
