-- How large the numbers of sums, negations and products of forms are.
use Rattle.homeo_plan.specs.Key.{definitions}
use Rattle.homeo_meaning.specs.Key.{definitions as meaning_definitions}
use Rattle.std.proofs.Common.{◌≡◌, ℕ, ◌+◌, ◌*◌, ◌≤◌, Bool, true, false, cond, List, [], ◌∷◌, ℤ, negsuc, ◌*ℤ◌, sym, subst, arith}
use Rattle.std.specs.Int.RustNames.{unsigned_abs}
use Rattle.std.proofs.lemmas.Int.{ints, unsigned_abs-mul}
use Rattle.std.proofs.lemmas.Nat.{mul-le}
use Rattle.homeo_lemmas.proofs.Integers.{abs_add}
use Rattle.homeo_meaning.specs.Small.{IsSmall}
use Rattle.homeo_plan.specs.Each.{Each}
use Rattle.homeo_plan.specs.declared.forms.Delta.{Delta}
use Rattle.homeo_plan.specs.declared.forms.Term.{Term}
use Rattle.homeo_plan.specs.Linear.{Linear, constant_form, add_forms, scale_form, is_pure, mix_forms, multiply_forms}
use Rattle.homeo_plan.specs.FormSizes.{Numbers}
use Rattle.homeo_plan.proofs.Factors.{factor, add_terms_factor, scale_terms_factor}
use Rattle.homeo_plan.proofs.Order.{Sorted, sorted_adds, sorted_scale, small_terms}

-- the constant and each factor are at most n in size
pub record Within (n : ℕ) (a : Linear) : Type 0 where
  pub constant : unsigned_abs a.constant ≤ n
  pub factors : (d : Delta) → unsigned_abs (factor d a.terms) ≤ n
  pub sorted : Sorted a.terms

each_small : (m n : ℕ) (ts : List Term) → n ≤ m → Each (λ t. unsigned_abs t.factor ≤ n) ts → Each (λ t. IsSmall m t.factor) ts
unfolding definitions meaning_definitions
each_small m n [] l h = tt
each_small m n (t ∷ ts) l h = (omega (arith, l, h.0), each_small m n ts l h.1)

pub numbers : (m n : ℕ) (a : Linear) → n ≤ m → Within n a → Numbers (IsSmall m) a
unfolding meaning_definitions
numbers m n a l w =
    record { constant = omega (arith, l, w.constant); factors = each_small m n a.terms l (small_terms n a.terms w.sorted w.factors) }

pub wider : (m n : ℕ) (a : Linear) → n ≤ m → Within n a → Within m a
wider m n a l w =
    record { constant = omega (arith, l, w.constant); factors = λ d. omega (arith, l, w.factors d); sorted = w.sorted }

pub within_constant : (n : ℕ) (z : ℤ) → unsigned_abs z ≤ n → Within n (constant_form z)
unfolding definitions
within_constant n z h = record { constant = h; factors = λ d. omega arith; sorted = tt }

pub within_add : (m n : ℕ) (a b : Linear) → Within m a → Within n b → Within (m + n) (add_forms a b)
unfolding definitions
within_add m n a b v w =
    record {
      constant = omega (arith, abs_add a.constant b.constant, v.constant, w.constant);
      factors = λ d. size d;
      sorted = sorted_adds a.terms b.terms w.sorted;
    }
  where
    size : (d : Delta) → unsigned_abs (factor d (add_forms a b).terms) ≤ m + n
    size d =
        subst (λ z. unsigned_abs z ≤ m + n) (sym (add_terms_factor a.terms b.terms d))
        (omega (arith, abs_add (factor d a.terms) (factor d b.terms), v.factors d, w.factors d))

size_mul : (m n : ℕ) (x y : ℤ) → unsigned_abs x ≤ m → unsigned_abs y ≤ n → unsigned_abs (x *ℤ y) ≤ m * n
size_mul m n x y h k =
    omega (arith, unsigned_abs-mul x y, mul-le (unsigned_abs x) (unsigned_abs y) m n h k)

pub within_scale : (m n : ℕ) (z : ℤ) (a : Linear) → unsigned_abs z ≤ m → Within n a → Within (m * n) (scale_form z a)
unfolding definitions
within_scale m n z a h w =
    record { constant = size_mul m n z a.constant h w.constant; factors = λ d. size d; sorted = sorted_scale z a.terms w.sorted }
  where
    size : (d : Delta) → unsigned_abs (factor d (scale_form z a).terms) ≤ m * n
    size d =
        subst (λ x. unsigned_abs x ≤ m * n) (sym (scale_terms_factor z a.terms d)) (size_mul m n z (factor d a.terms) h (w.factors d))

pub within_negated : (n : ℕ) (a : Linear) → Within n a → Within n (scale_form (negsuc 0) a)
within_negated n a w =
    subst (λ m. Within m (scale_form (negsuc 0) a)) one_times (within_scale 1 n (negsuc 0) a (omega (arith, ints)) w)
  where
    one_times : 1 * n ≡ n
    one_times = omega arith

within_mixed : (m n : ℕ) (a b : Linear) → Within m a → Within n b → Within (m * n) (mix_forms a b)
unfolding definitions
within_mixed m n a b v w =
    record { constant = size_mul m n a.constant b.constant v.constant w.constant; factors = λ d. omega arith; sorted = tt }

pub within_multiply : (m n : ℕ) (a b : Linear) → Within m a → Within n b → Within (m * n) (multiply_forms a b)
unfolding definitions
within_multiply m n a b v w = go (is_pure a) (is_pure b)
  where
    swapped : n * m ≡ m * n
    swapped = omega arith

    go : (p q : Bool) → Within (m * n) (cond p (scale_form a.constant b) (cond q (scale_form b.constant a) (mix_forms a b)))
    go true q = within_scale m n a.constant b v.constant w
    go false true =
        subst (λ k. Within k (scale_form b.constant a)) swapped (within_scale n m b.constant a w.constant v)
    go false false = within_mixed m n a b v w
