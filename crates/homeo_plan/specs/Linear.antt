-- Linear forms: an expression of a residual at a base, as a constant and a factor for each delta. How an expression becomes
-- linear, and what stands for the products that don't, is this project's rule.
use Rattle.std.specs.Prelude.{◌≡◌, ℕ, ◌==◌, nat_lt, Bool, true, false, cond, ◌&&◌, ◌||◌, List, [], ◌∷◌, map, ℤ, pos, negsuc, ◌+ℤ◌, ◌*ℤ◌}
use Rattle.std.specs.Ordering.{int_eq}
use Rattle.homeo_syntax.specs.Low.{Expr, Exprs, Literal, OfTemp, Read, Sum, Product, Neg, NoExpr, MoreExpr}
use Rattle.homeo_meaning.specs.LowMeaning.{Location, TempAt, BaseAt, DeltaAt, State, location_of}
use Rattle.homeo_plan.specs.declared.forms.Delta.{Delta}
use Rattle.homeo_plan.specs.declared.forms.Term.{Term}
use Rattle.homeo_plan.specs.Each.{Each}
use Rattle.homeo_plan.specs.Key.{definitions}

-- the delta of object x at site j
abbrev pub delta_of : ℕ → ℕ → Delta
unfolding definitions
delta_of x j = record { object = x; site = j }

-- the same object and the same site
abbrev pub same_delta : Delta → Delta → Bool
unfolding definitions
same_delta a b = (a.object == b.object) && (a.site == b.site)

-- the order of deltas: by object, and then by site
abbrev pub delta_before : Delta → Delta → Bool
unfolding definitions
delta_before a b = nat_lt a.object b.object || ((a.object == b.object) && nat_lt a.site b.site)

-- the constant and the terms added up; of mixed deltas nothing is known but that the form is right where they are 0
pub record Linear : Type 0 where
  pub constant : ℤ
  pub terms : List Term
  pub mixed : List Delta

-- ---- lists of deltas and of terms, in order, each delta once
-- each delta is before all that follow it, by object and then by site: so each stands once
abbrev pub AreInOrder : List Delta → Type 0
unfolding definitions
AreInOrder [] = Unit {0}
AreInOrder (d ∷ ds) = Each (λ e. delta_before d e ≡ true) ds × AreInOrder ds

-- a delta put into the others, unless it is there
abbrev pub add_delta : Delta → List Delta → List Delta
unfolding definitions
add_delta d [] = d ∷ []
add_delta d (e ∷ es) = cond (same_delta d e) (e ∷ es) (cond (delta_before d e) (d ∷ e ∷ es) (e ∷ add_delta d es))

-- the deltas put into the others, one after another
abbrev pub add_deltas : List Delta → List Delta → List Delta
unfolding definitions
add_deltas [] es = es
add_deltas (d ∷ ds) es = add_deltas ds (add_delta d es)

-- a term in front, unless its factor is 0
abbrev pub with_term : Delta → ℤ → List Term → List Term
unfolding definitions
with_term d f ts = cond (int_eq f (pos 0)) ts (record { delta = d; factor = f } ∷ ts)

-- a term added to the others: the factors of one delta are added
abbrev pub add_term : Delta → ℤ → List Term → List Term
unfolding definitions
add_term d f [] = with_term d f []
add_term d f (t ∷ ts) =
    cond (same_delta d t.delta) (with_term t.delta (f +ℤ t.factor) ts)
    (cond (delta_before d t.delta) (with_term d f (t ∷ ts)) (t ∷ add_term d f ts))

-- the terms put into the others, one after another
abbrev pub add_terms : List Term → List Term → List Term
unfolding definitions
add_terms [] us = us
add_terms (t ∷ ts) us = add_terms ts (add_term t.delta t.factor us)

-- each factor times n
abbrev pub scale_terms : ℤ → List Term → List Term
unfolding definitions
scale_terms n [] = []
scale_terms n (t ∷ ts) = with_term t.delta (n *ℤ t.factor) (scale_terms n ts)

-- the deltas of terms
abbrev pub deltas_of : List Term → List Delta
unfolding definitions
deltas_of ts = map (λ t. t.delta) ts

-- ---- forms
-- a number
abbrev pub constant_form : ℤ → Linear
unfolding definitions
constant_form n = record { constant = n; terms = []; mixed = [] }

-- a delta by itself
abbrev pub delta_form : Delta → Linear
unfolding definitions
delta_form d = record { constant = pos 0; terms = record { delta = d; factor = pos 1 } ∷ []; mixed = [] }

-- the sum of two forms
abbrev pub add_forms : Linear → Linear → Linear
unfolding definitions
add_forms a b = record { constant = a.constant +ℤ b.constant; terms = add_terms a.terms b.terms; mixed = add_deltas a.mixed b.mixed }

-- a form times n
abbrev pub scale_form : ℤ → Linear → Linear
unfolding definitions
scale_form n a = record { constant = n *ℤ a.constant; terms = scale_terms n a.terms; mixed = a.mixed }

-- a list with no elements
abbrev pub is_empty : {X : Type 0} → List X → Bool
unfolding definitions
is_empty [] = true
is_empty (x ∷ xs) = false

-- a form that is a number
abbrev pub is_pure : Linear → Bool
unfolding definitions
is_pure a = is_empty a.terms && is_empty a.mixed

-- every delta of the form, mixed or not
abbrev pub support : Linear → List Delta
unfolding definitions
support a = add_deltas (deltas_of a.terms) a.mixed

-- the product of two forms that aren't numbers: that of their constants, where each of their deltas is 0
abbrev pub mix_forms : Linear → Linear → Linear
unfolding definitions
mix_forms a b = record { constant = a.constant *ℤ b.constant; terms = []; mixed = add_deltas (support a) (support b) }

-- the product of two forms
abbrev pub multiply_forms : Linear → Linear → Linear
unfolding definitions
multiply_forms a b =
    cond (is_pure a) (scale_form a.constant b) (cond (is_pure b) (scale_form b.constant a) (mix_forms a b))

-- a form for what stands at each place of a state
abbrev pub Forms : Type 0
Forms = Location → Linear

-- at a base b: temporaries are 0, bases are numbers, and each delta is itself
abbrev pub base_forms : (ℕ → ℤ) → Forms
unfolding definitions
base_forms b (TempAt t) = constant_form (pos 0)
base_forms b (BaseAt x) = constant_form (b x)
base_forms b (DeltaAt x j) = delta_form (delta_of x j)

abbrev mutual
  unfolding definitions

  -- the form of an expression
  pub form : Forms → Expr → Linear
  form f (Literal n) = constant_form n
  form f (OfTemp t) = f (TempAt t)
  form f (Read x) = f (location_of x)
  form f (Sum es) = sum_form f (constant_form (pos 0)) es
  form f (Product es) = product_form f (constant_form (pos 1)) es
  form f (Neg e) = scale_form (negsuc 0) (form f e)

  -- the sum of a and the terms' forms, from left to right
  pub sum_form : Forms → Linear → Exprs → Linear
  sum_form f a NoExpr = a
  sum_form f a (MoreExpr e es) = sum_form f (add_forms (form f e) a) es

  -- the product of a and the factors' forms, from left to right
  pub product_form : Forms → Linear → Exprs → Linear
  product_form f a NoExpr = a
  product_form f a (MoreExpr e es) = product_form f (multiply_forms a (form f e)) es

-- ---- values of forms
-- the sum of factor times delta in a state
abbrev pub terms_value : List Term → State → ℤ
unfolding definitions
terms_value [] s = pos 0
terms_value (t ∷ ts) s = (t.factor *ℤ s (DeltaAt t.delta.object t.delta.site)) +ℤ terms_value ts s

-- the constant and the terms added up in a state
abbrev pub form_value : Linear → State → ℤ
unfolding definitions
form_value a s = a.constant +ℤ terms_value a.terms s

-- a delta is 0 in a state
abbrev pub IsZeroAt : State → Delta → Type 0
unfolding definitions
IsZeroAt s d = s (DeltaAt d.object d.site) ≡ pos 0
