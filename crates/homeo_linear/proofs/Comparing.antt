-- Comparisons that are kept, and the numbers met in differences.
use Rattle.std.proofs.Common.{◌≡◌, Bool, true, false, not, cond, List, [], ◌∷◌, ◌++◌, map, ℤ, pos, negsuc, ◌+ℤ◌, ◌*ℤ◌, int_lt, int_le, refl, sym, ap, ◌∙◌, subst, arith}
use Rattle.std.proofs.Math.IntN.{+ℤ_idl}
use Rattle.std.specs.Ordering.{int_eq}
use Rattle.std.proofs.lemmas.Bool.Decides.{same_from_decides, Decides-like, Decides-int_eq}
use Rattle.std.proofs.lemmas.Int.{ints}
use Rattle.std.proofs.lemmas.List.{append_assoc, map_push}
use Rattle.homeo_syntax.specs.declared.phrase.Compare.{Compare}
use Rattle.homeo_syntax.specs.declared.phrase.Compare.TheVariants.{Less, LessEqual, Equal}
use Rattle.homeo_meaning.specs.Key.{definitions as meaning_definitions}
use Rattle.homeo_meaning.specs.Meaning.{compared}
use Rattle.homeo_meaning.specs.Small.{IsSmall}
use Rattle.homeo_plan.specs.Key.{definitions as plan_definitions}
use Rattle.homeo_plan.specs.Atoms.{difference, true_comparison, false_comparison}
use Rattle.homeo_plan.specs.FormSizes.{Numbers, CanSubtract}
use Rattle.homeo_plan.specs.Linear.{Linear, constant_form, add_forms, scale_form}
use Rattle.homeo_plan.specs.PlanView.{plain_atom}
use Rattle.homeo_plan.specs.declared.forms.Atom.{Atom}
use Rattle.homeo_plan.specs.Limit.{form_limit}
use Rattle.homeo_linear.specs.inner.Kept.{AreApart, kept_comparison}

pub one_small : IsSmall form_limit (pos 1)
unfolding meaning_definitions
one_small = omega arith

pub apart_constant : (x y a : Linear) → a ≡ add_forms x (scale_form (negsuc 0) y) → AreApart x y → IsSmall form_limit a.constant
apart_constant x y a p h = subst (λ (b : Linear). IsSmall form_limit b.constant) (sym p) h.apart.constant

-- a difference to which nothing is added
pub difference_alone : (x y a : Linear) → a ≡ add_forms x (scale_form (negsuc 0) y) → a ≡ difference x y (pos 0)
unfolding plan_definitions
difference_alone x y a p = alone a ∙ ap (add_forms (constant_form (pos 0))) p
  where
    alone : (b : Linear) → b ≡ add_forms (constant_form (pos 0)) b
    alone b = λ i. record { constant = sym (+ℤ_idl b.constant) i; terms = b.terms; mixed = b.mixed }

pub difference_is :
    (x y a d : Linear) (n : ℤ) → a ≡ add_forms x (scale_form (negsuc 0) y) → d ≡ add_forms (constant_form n) a → d ≡ difference x y n
unfolding plan_definitions
difference_is x y a d n p q = q ∙ ap (add_forms (constant_form n)) p

pub are_apart : (a b : Linear) → Numbers (IsSmall form_limit) a → Numbers (IsSmall form_limit) b → CanSubtract (IsSmall form_limit) a b → AreApart a b
are_apart a b h k s = record { left = h; right = k; negated = s.negated; apart = s.apart }

-- ---- the constant of the difference tells how the constants compare
apart_lt : (m n : ℤ) → int_lt (m +ℤ (negsuc 0 *ℤ n)) (pos 0) ≡ int_lt m n
apart_lt m n = at (int_lt m n) refl
  where
    at : (b : Bool) → int_lt m n ≡ b → int_lt (m +ℤ (negsuc 0 *ℤ n)) (pos 0) ≡ b
    at true e = let k : true ≡ int_lt (m +ℤ (negsuc 0 *ℤ n)) (pos 0) = omega (arith, ints, e) in sym k
    at false e = let k : false ≡ int_lt (m +ℤ (negsuc 0 *ℤ n)) (pos 0) = omega (arith, ints, e) in sym k

apart_eq : (m n : ℤ) → int_eq (m +ℤ (negsuc 0 *ℤ n)) (pos 0) ≡ int_eq m n
apart_eq m n =
    same_from_decides (int_eq (m +ℤ (negsuc 0 *ℤ n)) (pos 0)) (int_eq m n)
    (Decides-like (int_eq (m +ℤ (negsuc 0 *ℤ n)) (pos 0)) (λ e. omega (arith, ints, e)) (λ e. omega (arith, ints, e)) (Decides-int_eq (m +ℤ (negsuc 0 *ℤ n)) (pos 0)))
    (Decides-int_eq m n)

module _ (x y a : Linear) (p : a ≡ add_forms x (scale_form (negsuc 0) y)) where
  pub less_apart : int_lt a.constant (pos 0) ≡ int_lt x.constant y.constant
  unfolding plan_definitions
  less_apart = ap (λ (b : Linear). int_lt b.constant (pos 0)) p ∙ apart_lt x.constant y.constant

  pub equal_apart : int_eq a.constant (pos 0) ≡ int_eq x.constant y.constant
  unfolding plan_definitions
  equal_apart = ap (λ (b : Linear). int_eq b.constant (pos 0)) p ∙ apart_eq x.constant y.constant

pub less_unequal : (m n : ℤ) → true ≡ int_lt m n → false ≡ int_eq m n
less_unequal m n h = at (int_eq m n) refl
  where
    at : (b : Bool) → int_eq m n ≡ b → false ≡ b
    at true e = let k : m ≡ n = (Decides-int_eq m n).0 e in absurd (omega (arith, ints, h, k))
    at false e = refl

-- ---- sides that are turned
at_most_turned : (m n : ℤ) → int_le m n ≡ not (int_lt n m)
at_most_turned m n = at (int_lt n m) refl
  where
    at : (b : Bool) → int_lt n m ≡ b → int_le m n ≡ not b
    at true e = let k : false ≡ int_le m n = omega (arith, ints, e) in sym k
    at false e = let k : true ≡ int_le m n = omega (arith, ints, e) in sym k

pub turned_holds : (l r : Linear) (b : Bool) → b ≡ compared Less r.constant l.constant → not b ≡ compared LessEqual l.constant r.constant
unfolding meaning_definitions
turned_holds l r b p = ap not p ∙ sym (at_most_turned l.constant r.constant)

pub turned_kept : (l r : Linear) → kept_comparison Less r l ≡ kept_comparison LessEqual l r
unfolding meaning_definitions plan_definitions
turned_kept l r =
    turned (int_lt r.constant l.constant) (difference r l (pos 1) ∷ []) (difference l r (pos 0) ∷ [])
    ∙ ap (λ v. cond v (difference l r (pos 0) ∷ []) (difference r l (pos 1) ∷ [])) (sym (at_most_turned l.constant r.constant))
  where
    turned : (v : Bool) (xs ys : List Linear) → cond v xs ys ≡ cond (not v) ys xs
    turned true xs ys = refl
    turned false xs ys = refl

-- ---- the atoms of a comparison that holds, and of one that doesn't
pub kept_true : (op : Compare) (l r : Linear) → true ≡ compared op l.constant r.constant → true_comparison op l r ≡ kept_comparison op l r
kept_true op l r h = ap (λ v. cond v (true_comparison op l r) (false_comparison op (int_lt l.constant r.constant) l r)) h

pub kept_false :
    (op : Compare) (l r : Linear) → false ≡ compared op l.constant r.constant → false_comparison op (int_lt l.constant r.constant) l r ≡ kept_comparison op l r
kept_false op l r h = ap (λ v. cond v (true_comparison op l r) (false_comparison op (int_lt l.constant r.constant) l r)) h

-- they stand behind others
pub one_behind :
    (old new : List Atom) (x : Atom) (a : Linear) (bs : List Linear) → new ≡ old ++ x ∷ [] → plain_atom x ≡ a → a ∷ [] ≡ bs → map plain_atom new ≡ map plain_atom old ++ bs
one_behind old new x a bs p q r =
    ap (map plain_atom) p ∙ map_push plain_atom old x ∙ ap (λ b. map plain_atom old ++ b ∷ []) q ∙ ap (λ l. map plain_atom old ++ l) r

pub two_behind :
    (old one new : List Atom) (x y : Atom) (a b : Linear) (bs : List Linear) → one ≡ old ++ x ∷ [] → new ≡ one ++ y ∷ [] → plain_atom x ≡ a → plain_atom y ≡ b →
    a ∷ b ∷ [] ≡ bs → map plain_atom new ≡ map plain_atom old ++ bs
two_behind old one new x y a b bs p q r s t =
    one_behind one new y b (b ∷ []) q s refl ∙ ap (λ l. l ++ b ∷ []) (one_behind old one x a (a ∷ []) p r refl)
    ∙ append_assoc (map plain_atom old) (a ∷ []) (b ∷ []) ∙ ap (λ l. map plain_atom old ++ l) t

pub apart_less : (l r : Linear) → true ≡ int_lt l.constant r.constant → difference l r (pos 1) ∷ [] ≡ false_comparison Equal (int_lt l.constant r.constant) l r
unfolding plan_definitions
apart_less l r h = ap (λ v. cond v (difference l r (pos 1)) (difference r l (pos 1)) ∷ []) h

pub apart_more : (l r : Linear) → false ≡ int_lt l.constant r.constant → difference r l (pos 1) ∷ [] ≡ false_comparison Equal (int_lt l.constant r.constant) l r
unfolding plan_definitions
apart_more l r h = ap (λ v. cond v (difference l r (pos 1)) (difference r l (pos 1)) ∷ []) h
