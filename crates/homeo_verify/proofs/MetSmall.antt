-- Where none of the numbers that are met in a form is too large, the numbers of the form are small as homeo_plan says it.
use Rattle.std.proofs.Common.{◌≡◌, ◌≤◌, Bool, true, false, cond, List, [], ◌∷◌, ◌++◌, map, ℤ, pos, negsuc, neg_ℤ, ◌*ℤ◌, refl, sym, subst, arith}
use Rattle.std.specs.Int.RustNames.{unsigned_abs}
use Rattle.std.specs.Ordering.{int_eq}
use Rattle.std.specs.List.{list_all}
use Rattle.std.proofs.lemmas.Int.{ints}
use Rattle.std.proofs.lemmas.Bool.{and_parts, and_from}
use Rattle.std.proofs.lemmas.Bool.Decides.{nat_tests}
use Rattle.homeo_syntax.specs.Low.{Expr, Exprs, Literal, OfTemp, Read, Sum, Product, Neg, NoExpr, MoreExpr}
use Rattle.homeo_meaning.specs.Key.{definitions as meaning_definitions}
use Rattle.homeo_meaning.specs.LowMeaning.{TempAt, location_of}
use Rattle.homeo_meaning.specs.Small.{IsSmall, is_small}
use Rattle.homeo_plan.specs.Key.{definitions as plan_definitions}
use Rattle.homeo_plan.specs.declared.forms.Term.{Term}
use Rattle.homeo_plan.specs.Each.{Each}
use Rattle.homeo_plan.specs.Limit.{form_limit}
use Rattle.homeo_plan.specs.Linear.{Linear, constant_form, scale_terms, scale_form, add_forms, multiply_forms, Forms, form}
use Rattle.homeo_plan.specs.FormSizes.{Numbers, CanForm, CanSum, CanProduct}
use Rattle.homeo_plan.proofs.FormNumbers.{small_form}
use Rattle.homeo_certificate.specs.Key.{definitions}
use Rattle.homeo_certificate.specs.Met.{numbers, met, met_in_sum, met_in_product}

abbrev Small : ℤ → Type 0
Small = IsSmall form_limit

abbrev AllSmall : List ℤ → Type 0
AllSmall ns = list_all (is_small form_limit) ns ≡ true

small_if : (n : ℤ) → is_small form_limit n ≡ true → Small n
unfolding meaning_definitions
small_if n h = grind (arith, nat_tests)

both_parts : (xs ys : List ℤ) → AllSmall (xs ++ ys) → AllSmall xs × AllSmall ys
both_parts [] ys h = (refl, h)
both_parts (x ∷ xs) ys h =
    let p = and_parts (is_small form_limit x) (list_all (is_small form_limit) (xs ++ ys)) h in
    let q = both_parts xs ys p.1 in
    (and_from (is_small form_limit x) (list_all (is_small form_limit) xs) p.0 q.0, q.1)

factors_are : (ts : List Term) → AllSmall (map (λ t. t.factor) ts) → Each (λ t. Small t.factor) ts
unfolding plan_definitions
factors_are [] h = tt
factors_are (t ∷ ts) h =
    let p = and_parts (is_small form_limit t.factor) (list_all (is_small form_limit) (map (λ t. t.factor) ts)) h in
    (small_if t.factor p.0, factors_are ts p.1)

pub numbers_are : (a : Linear) → AllSmall (numbers a) → Numbers Small a
unfolding definitions
numbers_are a h =
    let p = and_parts (is_small form_limit a.constant) (list_all (is_small form_limit) (map (λ t. t.factor) a.terms)) h in
    record { constant = small_if a.constant p.0; factors = factors_are a.terms p.1 }

-- ---- a form's own numbers, and those of its negation
small_negated : (n : ℤ) → Small n → Small (negsuc 0 *ℤ n)
unfolding meaning_definitions
small_negated n h =
    let e : negsuc 0 *ℤ n ≡ neg_ℤ n = omega (arith, ints) in
    let k : unsigned_abs (neg_ℤ n) ≡ unsigned_abs n = grind (arith, ints) in
    subst (λ m. unsigned_abs m ≤ form_limit) (sym e) (omega (arith, k, h))

terms_negated : (ts : List Term) → Each (λ t. Small t.factor) ts → Each (λ t. Small t.factor) (scale_terms (negsuc 0) ts)
unfolding plan_definitions
terms_negated [] h = tt
terms_negated (t ∷ ts) h = go (int_eq (negsuc 0 *ℤ t.factor) (pos 0)) (terms_negated ts h.1)
  where
    go :
        (v : Bool) → Each (λ t. Small t.factor) (scale_terms (negsuc 0) ts) →
        Each (λ t. Small t.factor) (cond v (scale_terms (negsuc 0) ts) (record { delta = t.delta; factor = negsuc 0 *ℤ t.factor } ∷ scale_terms (negsuc 0) ts))
    go true r = r
    go false r = (small_negated t.factor h.0, r)

pub negated : (a : Linear) → Numbers Small a → Numbers Small (scale_form (negsuc 0) a)
unfolding plan_definitions
negated a h = record { constant = small_negated a.constant h.constant; factors = terms_negated a.terms h.factors }

mutual
  unfolding definitions plan_definitions

  pub can_if_small : (f : Forms) (e : Expr) → AllSmall (met f e) → CanForm Small f e
  can_if_small f (Literal n) h =
      let p = and_parts (is_small form_limit n) true h in
      record { constant = small_if n p.0; factors = tt }
  can_if_small f (OfTemp t) h = numbers_are (f (TempAt t)) h
  can_if_small f (Read x) h = numbers_are (f (location_of x)) h
  can_if_small f (Sum es) h = sum_if_small f es (constant_form (pos 0)) h
  can_if_small f (Product es) h = product_if_small f es (constant_form (pos 1)) h
  can_if_small f (Neg e) h =
      let c = can_if_small f e h in
      (c, negated (form f e) (small_form Small f e c))

  sum_if_small : (f : Forms) (es : Exprs) (a : Linear) → AllSmall (met_in_sum f a es) → CanSum Small f a es
  sum_if_small f NoExpr a h = numbers_are a h
  sum_if_small f (MoreExpr e es) a h =
      let p = both_parts (numbers a) (met f e ++ met_in_sum f (add_forms (form f e) a) es) h in
      let q = both_parts (met f e) (met_in_sum f (add_forms (form f e) a) es) p.1 in
      (numbers_are a p.0, can_if_small f e q.0, sum_if_small f es (add_forms (form f e) a) q.1)

  product_if_small : (f : Forms) (es : Exprs) (a : Linear) → AllSmall (met_in_product f a es) → CanProduct Small f a es
  product_if_small f NoExpr a h = numbers_are a h
  product_if_small f (MoreExpr e es) a h =
      let p = both_parts (numbers a) (met f e ++ met_in_product f (multiply_forms a (form f e)) es) h in
      let q = both_parts (met f e) (met_in_product f (multiply_forms a (form f e)) es) p.1 in
      (numbers_are a p.0, can_if_small f e q.0, product_if_small f es (multiply_forms a (form f e)) q.1)
