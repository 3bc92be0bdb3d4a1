-- Forms whose deltas are there, in order, each with a factor that counts.
use Rattle.homeo_meaning.specs.Key.{definitions as meaning_definitions}
use Rattle.homeo_plan.specs.Key.{definitions as plan_definitions}
use Rattle.homeo_certificate.specs.Key.{definitions}
use Rattle.std.proofs.Common.{◌≡◌, ℕ, ◌<◌, Bool, true, false, cond, List, [], ◌∷◌, ℤ, pos, negsuc, ◌+ℤ◌, ◌*ℤ◌, refl}
use Rattle.std.specs.Ordering.{int_eq}
use Rattle.homeo_syntax.specs.declared.low.SplitName.{SplitName}
use Rattle.homeo_syntax.specs.declared.low.SplitName.TheVariants as split
use Rattle.homeo_syntax.specs.Low.{Expr, Exprs, Literal, OfTemp, Read, Sum, Product, Neg, NoExpr, MoreExpr}
use Rattle.homeo_meaning.specs.LowMeaning.{Location, TempAt, BaseAt, DeltaAt, location_of, same_location, put}
use Rattle.homeo_plan.specs.Each.{Each}
use Rattle.homeo_plan.specs.declared.forms.Delta.{Delta}
use Rattle.homeo_plan.specs.declared.forms.Term.{Term}
use Rattle.homeo_plan.specs.Linear.{delta_of, same_delta, delta_before, Linear, with_term, add_term, add_terms, scale_terms, deltas_of, constant_form, delta_form, add_forms, scale_form, is_pure, support, mix_forms, multiply_forms, Forms, base_forms, form, sum_form, product_form}
use Rattle.homeo_plan.proofs.DeltaLists.{each_puts}
use Rattle.homeo_plan.proofs.Order.{Sorted, sorted_adds, sorted_scale}
use Rattle.homeo_certificate.specs.Shape.{DeltaInShape, NameInShape, ExprInShape, ExprsInShape}

-- ---- each delta, and each factor
module _ (P : Delta → Type 0) where
  -- a term of such a delta, with a factor that counts
  pub record TermCounts (t : Term) : Type 0 where
    pub delta : P t.delta
    pub counts : int_eq t.factor (pos 0) ≡ false

  abbrev pub AllCount : List Term → Type 0
  AllCount ts = Each TermCounts ts

  in_with_term : (d : Delta) (f : ℤ) (ts : List Term) → P d → AllCount ts → AllCount (with_term d f ts)
  unfolding plan_definitions
  in_with_term d f ts p h = go (int_eq f (pos 0)) refl
    where
      go : (v : Bool) → int_eq f (pos 0) ≡ v → AllCount (cond v ts (record { delta = d; factor = f } ∷ ts))
      go true e = h
      go false e = (record { delta = p; counts = e }, h)

  in_add_term : (d : Delta) (f : ℤ) (ts : List Term) → P d → AllCount ts → AllCount (add_term d f ts)
  unfolding plan_definitions
  in_add_term d f [] p h = in_with_term d f [] p h
  in_add_term d f (t ∷ ts) p h = go (same_delta d t.delta) (delta_before d t.delta) (in_add_term d f ts p h.1)
    where
      go :
          (v w : Bool) → AllCount (add_term d f ts) →
          AllCount (cond v (with_term t.delta (f +ℤ t.factor) ts) (cond w (with_term d f (t ∷ ts)) (t ∷ add_term d f ts)))
      go true w ih = in_with_term t.delta (f +ℤ t.factor) ts h.0.delta h.1
      go false true ih = in_with_term d f (t ∷ ts) p h
      go false false ih = (h.0, ih)

  in_add_terms : (ts us : List Term) → AllCount ts → AllCount us → AllCount (add_terms ts us)
  unfolding plan_definitions
  in_add_terms [] us h k = k
  in_add_terms (t ∷ ts) us h k = in_add_terms ts (add_term t.delta t.factor us) h.1 (in_add_term t.delta t.factor us h.0.delta k)

  in_scale_terms : (n : ℤ) (ts : List Term) → AllCount ts → AllCount (scale_terms n ts)
  unfolding plan_definitions
  in_scale_terms n [] h = tt
  in_scale_terms n (t ∷ ts) h = in_with_term t.delta (n *ℤ t.factor) (scale_terms n ts) h.0.delta (in_scale_terms n ts h.1)

  in_deltas_of : (ts : List Term) → AllCount ts → Each P (deltas_of ts)
  unfolding plan_definitions
  in_deltas_of [] h = tt
  in_deltas_of (t ∷ ts) h = (h.0.delta, in_deltas_of ts h.1)

  -- ---- forms
  pub record Formed (a : Linear) : Type 0 where
    pub terms : AllCount a.terms
    pub mixed : Each P a.mixed
    pub sorted : Sorted a.terms

  pub formed_constant : (n : ℤ) → Formed (constant_form n)
  unfolding plan_definitions
  formed_constant n = record { terms = tt; mixed = tt; sorted = tt }

  pub formed_delta : (d : Delta) → P d → Formed (delta_form d)
  unfolding plan_definitions
  formed_delta d p = record { terms = (record { delta = p; counts = refl }, tt); mixed = tt; sorted = (tt, tt) }

  pub formed_add : (a b : Linear) → Formed a → Formed b → Formed (add_forms a b)
  unfolding plan_definitions
  formed_add a b h k =
      record {
        terms = in_add_terms a.terms b.terms h.terms k.terms;
        mixed = each_puts P a.mixed b.mixed h.mixed k.mixed;
        sorted = sorted_adds a.terms b.terms k.sorted;
      }

  pub formed_scale : (n : ℤ) (a : Linear) → Formed a → Formed (scale_form n a)
  unfolding plan_definitions
  formed_scale n a h = record { terms = in_scale_terms n a.terms h.terms; mixed = h.mixed; sorted = sorted_scale n a.terms h.sorted }

  pub formed_support : (a : Linear) → Formed a → Each P (support a)
  unfolding plan_definitions
  formed_support a h = each_puts P (deltas_of a.terms) a.mixed (in_deltas_of a.terms h.terms) h.mixed

  formed_multiply : (a b : Linear) → Formed a → Formed b → Formed (multiply_forms a b)
  unfolding plan_definitions
  formed_multiply a b h k = go (is_pure a) (is_pure b)
    where
      go : (v w : Bool) → Formed (cond v (scale_form a.constant b) (cond w (scale_form b.constant a) (mix_forms a b)))
      go true w = formed_scale a.constant b k
      go false true = formed_scale b.constant a h
      go false false =
          record { terms = tt; mixed = each_puts P (support a) (support b) (formed_support a h) (formed_support b k); sorted = tt }

  -- ---- expressions whose names are there
  module _ (n k : ℕ) (there : (d : Delta) → DeltaInShape n k d → P d) where
    abbrev pub IsThere : Location → Type 0
    IsThere (TempAt t) = Unit {0}
    IsThere (BaseAt x) = Unit {0}
    IsThere (DeltaAt x j) = (x < n) × (j < k)

    abbrev pub AllFormed : Forms → Type 0
    AllFormed f = (p : Location) → IsThere p → Formed (f p)

    pub base_formed : (b : ℕ → ℤ) → AllFormed (base_forms b)
    unfolding plan_definitions
    base_formed b (TempAt t) h = formed_constant (pos 0)
    base_formed b (BaseAt x) h = formed_constant (b x)
    base_formed b (DeltaAt x j) h = formed_delta (delta_of x j) (there (delta_of x j) (record { object = h.0; site = h.1 }))

    name_there : (x : SplitName) → NameInShape n k x → IsThere (location_of x)
    unfolding definitions meaning_definitions
    name_there (split.Whole x) h = absurd h
    name_there (split.Base x) h = tt
    name_there (split.Delta x j) h = h

    pub put_formed : (f : Forms) (p : Location) (a : Linear) → AllFormed f → Formed a → AllFormed (put f p a)
    unfolding meaning_definitions
    put_formed f p a h k q i = go (same_location p q)
      where
        go : (v : Bool) → Formed (cond v a (f q))
        go true = k
        go false = h q i

    module _ (f : Forms) (h : AllFormed f) where
      mutual
        unfolding definitions plan_definitions meaning_definitions

        pub expr_formed : (e : Expr) → ExprInShape n k e → Formed (form f e)
        expr_formed (Literal m) s = formed_constant m
        expr_formed (OfTemp t) s = h (TempAt t) tt
        expr_formed (Read x) s = h (location_of x) (name_there x s)
        expr_formed (Sum es) s = sum_formed es (constant_form (pos 0)) s.1 (formed_constant (pos 0))
        expr_formed (Product es) s = product_formed es (constant_form (pos 1)) s.1 (formed_constant (pos 1))
        expr_formed (Neg e) s = formed_scale (negsuc 0) (form f e) (expr_formed e s)

        sum_formed : (es : Exprs) (a : Linear) → ExprsInShape n k es → Formed a → Formed (sum_form f a es)
        sum_formed NoExpr a s g = g
        sum_formed (MoreExpr e es) a s g = sum_formed es (add_forms (form f e) a) s.1 (formed_add (form f e) a (expr_formed e s.0) g)

        product_formed : (es : Exprs) (a : Linear) → ExprsInShape n k es → Formed a → Formed (product_form f a es)
        product_formed NoExpr a s g = g
        product_formed (MoreExpr e es) a s g = product_formed es (multiply_forms a (form f e)) s.1 (formed_multiply a (form f e) g (expr_formed e s.0))
