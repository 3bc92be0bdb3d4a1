-- The form of a transformed expression: its numbers on the way are small, and it is within the expression's weight.
use Rattle.homeo_plan.specs.Key.{definitions}
use Rattle.homeo_meaning.specs.Key.{definitions as meaning_definitions}
use Rattle.std.proofs.Common.{◌≡◌, ℕ, ◌+◌, ◌*◌, ◌<◌, ◌≤◌, [], ℤ, pos, ◌+ℤ◌, ap, ◌∙◌, arith}
use Rattle.std.specs.Int.RustNames.{unsigned_abs}
use Rattle.std.proofs.lemmas.Int.{ints}
use Rattle.homeo_lemmas.proofs.Naturals.{product_positive, factor_le}
use Rattle.homeo_syntax.specs.declared.low.SplitName.TheVariants as split
use Rattle.homeo_syntax.specs.Low.{Expr, Exprs, Literal, OfTemp, Read, Sum, Product, Neg, NoExpr, MoreExpr}
use Rattle.homeo_meaning.specs.LowMeaning.{Location, TempAt, BaseAt, DeltaAt}
use Rattle.homeo_meaning.specs.LowWeights.{weight, sum_weight, product_weight}
use Rattle.homeo_meaning.specs.Small.{IsSmall}
use Rattle.homeo_meaning.proofs.Parts.{IsWholeExpr, AreWholeExprs}
use Rattle.homeo_plan.specs.Split.{shift_read, shift_expr, shift_exprs}
use Rattle.homeo_plan.specs.declared.forms.Delta.{Delta}
use Rattle.homeo_plan.specs.Linear.{Linear, add_terms, constant_form, add_forms, multiply_forms, Forms, form, sum_form, product_form}
use Rattle.homeo_plan.specs.FormSizes.{Numbers, CanForm, CanSum, CanProduct}
use Rattle.homeo_plan.proofs.Factors.{factor, add_terms_factor}
use Rattle.homeo_plan.proofs.Order.{sorted_adds}
use Rattle.homeo_lform.proofs.Weights.{one_weight, one_product}
use Rattle.homeo_plan.proofs.Sizes.{Within, numbers, wider, within_constant, within_add, within_negated, within_multiply}
use Rattle.homeo_plan.proofs.Others.{others_from, IsBit, others_bit, shape_within}
use Rattle.homeo_plan.proofs.WholeReads.{Own, Holds, Part, before_own}

-- the numbers of the way, and the form within n
pub record Made (Can : Type 0) (n : ℕ) (a : Linear) : Type 0 where
  pub can : Can
  pub within : Within n a

bit_size : (z : ℤ) → IsBit z → unsigned_abs z ≤ 1
bit_size z t = grind (arith, ints, t.low, t.high)

own_size : (a c : ℤ) (n b : ℕ) → unsigned_abs (a +ℤ c) ≤ n → unsigned_abs a ≤ b → unsigned_abs c ≤ n + b
own_size a c n b h k = grind (arith, ints, h, k)

pub own_within : (k i : ℕ) (base : ℕ → ℤ) (x n b : ℕ) (a : Linear) → 1 ≤ b → unsigned_abs (base x) ≤ b → Own k i base x n a → Within (n + b) a
own_within k i base x n b a one h o =
    record {
      constant = own_size (base x) a.constant n b o.constant h;
      factors = λ d.
          own_size (others_from i x 0 k d) (factor d a.terms) n b (o.factors d)
          (omega (arith, one, bit_size (others_from i x 0 k d) (others_bit i x 0 k d)));
      sorted = o.sorted;
    }

module _ (b k i : ℕ) (base : ℕ → ℤ) (inside : i < k) (small : (x : ℕ) → unsigned_abs (base x) ≤ b) (v : Location → ℕ) (f : Forms) (h : Holds k i base v f) where
  read_made :
      (x : ℕ) → v (BaseAt x) ≤ b →
      Made (CanForm (IsSmall (2 * b + 1)) f (shift_read k (split.Whole x))) (v (BaseAt x)) (form f (shift_read k (split.Whole x)))
  unfolding definitions meaning_definitions
  read_made x l =
      let one = h.ones (BaseAt x) in
      let o = h.own x in
      let z = h.bases x in
      let zero_numbers : Numbers (IsSmall (2 * b + 1)) (constant_form (pos 0)) =
      numbers (2 * b + 1) 0 (constant_form (pos 0)) (omega arith) (within_constant 0 (pos 0) (omega arith)) in
      let base_numbers : Numbers (IsSmall (2 * b + 1)) (f (BaseAt x)) =
      numbers (2 * b + 1) b (f (BaseAt x)) (omega arith) (shape_within b (base x) (λ d. pos 0) (f (BaseAt x)) z (small x) (λ d. omega arith)) in
      let own_numbers : Numbers (IsSmall (2 * b + 1)) (f (DeltaAt x i)) =
      numbers (2 * b + 1) (v (BaseAt x) + b) (f (DeltaAt x i)) (omega (arith, l))
      (own_within k i base x (v (BaseAt x)) b (f (DeltaAt x i)) (omega (arith, l, one)) (small x) o) in
      let first : Part k i (2 * b + 1) f x (base x) (others_from i x 0 k) 0 k (add_forms (f (BaseAt x)) (constant_form (pos 0))) =
      record {
        constant = start_constant (base x) (f (BaseAt x)).constant z.constant;
        factors = λ d. start_factor d;
        sorted = sorted_adds (f (BaseAt x)).terms [] tt;
      } in
      let s =
      before_own k i (2 * b + 1) f x (v (BaseAt x)) (base x) (others_from i x 0 k) (omega (arith, l, one))
      (omega (arith, small x)) (λ d. omega (arith, one, bit_size (others_from i x 0 k d) (others_bit i x 0 k d)))
      (omega (arith, l, o.constant)) o.factors (h.deltas x) own_numbers o.sorted k 0
      (add_forms (f (BaseAt x)) (constant_form (pos 0))) (omega arith) (omega (arith, inside)) first in
      record { can = (zero_numbers, base_numbers, s.can); within = shape_within (v (BaseAt x)) _ _ _ s.shape o.constant o.factors }
    where
      start_constant : (y c : ℤ) → c ≡ y → c +ℤ pos 0 ≡ y
      start_constant y c e = omega (arith, ints, e)

      start_factor : (d : Delta) → factor d (add_terms (f (BaseAt x)).terms []) +ℤ others_from i x 0 k d ≡ others_from i x 0 k d
      start_factor d =
          ap (λ g. g +ℤ others_from i x 0 k d) (add_terms_factor (f (BaseAt x)).terms [] d)
          ∙ omega (arith, ints, (h.bases x).factors d)

  mutual
    unfolding definitions meaning_definitions

    pub make : (e : Expr) → IsWholeExpr e → weight e v ≤ b → Made (CanForm (IsSmall (2 * b + 1)) f (shift_expr k e)) (weight e v) (form f (shift_expr k e))
    make (Literal n) t l =
        let w = within_constant (weight (Literal n) v) n (omega arith) in
        record { can = numbers (2 * b + 1) (weight (Literal n) v) (constant_form n) (omega (arith, l)) w; within = w }
    make (OfTemp u) t l =
        let w = h.temps u in
        record { can = numbers (2 * b + 1) (v (TempAt u)) (f (TempAt u)) (omega (arith, l)) w; within = w }
    make (Read (split.Whole x)) t l = let r = read_made x l in record { can = r.can; within = r.within }
    make (Read (split.Base x)) t l = absurd t
    make (Read (split.Delta x j)) t l = absurd t
    make (Sum es) t l =
        let r = sum_make es t (constant_form (pos 0)) 0 (within_constant 0 (pos 0) (omega arith)) (omega (arith, l)) in
        record { can = r.can; within = wider (weight (Sum es) v) (0 + sum_weight es v) _ (omega arith) r.within }
    make (Product es) t l =
        let r = product_make es t (constant_form (pos 1)) 1 (within_constant 1 (pos 1) (omega arith)) (omega arith) (omega (arith, l)) in
        record { can = r.can; within = wider (product_weight es v) (1 * product_weight es v) _ (omega arith) r.within }
    make (Neg e) t l =
        let r = make e t l in
        let w = within_negated (weight e v) (form f (shift_expr k e)) r.within in
        record { can = (r.can, numbers (2 * b + 1) (weight e v) _ (omega (arith, l)) w); within = w }

    sum_make :
        (es : Exprs) → AreWholeExprs es → (a : Linear) (m : ℕ) → Within m a → m + sum_weight es v ≤ b →
        Made (CanSum (IsSmall (2 * b + 1)) f a (shift_exprs k es)) (m + sum_weight es v) (sum_form f a (shift_exprs k es))
    sum_make NoExpr t a m w l =
        record { can = numbers (2 * b + 1) m a (omega (arith, l)) w; within = wider (m + 0) m a (omega arith) w }
    sum_make (MoreExpr e es) t a m w l =
        let x = make e t.0 (omega (arith, l)) in
        let r =
        sum_make es t.1 (add_forms (form f (shift_expr k e)) a) (weight e v + m)
        (within_add (weight e v) m (form f (shift_expr k e)) a x.within w) (omega (arith, l)) in
        record {
          can = (numbers (2 * b + 1) m a (omega (arith, l)) w, x.can, r.can);
          within = wider (m + (weight e v + sum_weight es v)) (weight e v + m + sum_weight es v) _ (omega arith) r.within;
        }

    product_make :
        (es : Exprs) → AreWholeExprs es → (a : Linear) (m : ℕ) → Within m a → 1 ≤ m → m * product_weight es v ≤ b →
        Made (CanProduct (IsSmall (2 * b + 1)) f a (shift_exprs k es)) (m * product_weight es v) (product_form f a (shift_exprs k es))
    product_make NoExpr t a m w one l =
        record { can = numbers (2 * b + 1) m a (omega (arith, l)) w; within = wider (m * 1) m a (omega arith) w }
    product_make (MoreExpr e es) t a m w one l =
        let we = weight e v in
        let rest = product_weight es v in
        let one_rest = one_product v h.ones es in
        let one_e = one_weight v h.ones e in
        let whole_le : we ≤ we * (m * rest) = factor_le we (m * rest) (product_positive m rest one one_rest) in
        let part : m ≤ m * (we * rest) = factor_le m (we * rest) (product_positive we rest one_e one_rest) in
        let x = make e t.0 (omega (arith, l, whole_le)) in
        let same : (m * we) * rest ≡ m * (we * rest) = omega arith in
        let r =
        product_make es t.1 (multiply_forms a (form f (shift_expr k e))) (m * we)
        (within_multiply m we a (form f (shift_expr k e)) w x.within) (product_positive m we one one_e) (omega (arith, l, same)) in
        record {
          can = (numbers (2 * b + 1) m a (omega (arith, l, part)) w, x.can, r.can);
          within = wider (m * (we * rest)) ((m * we) * rest) _ (omega (arith, same)) r.within;
        }
