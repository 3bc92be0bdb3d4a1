-- Forms at many sites: sums, multiples and products of forms over whole objects.
use Rattle.homeo_plan.specs.Key.{definitions as plan_definitions}
use Rattle.homeo_follow.specs.Key.{definitions}
use Rattle.std.proofs.Common.{◌≡◌, ℕ, zero, suc, ◌==◌, ◌<◌, ◌≤◌, nat_lt, Bool, true, false, cond, not, ◌||◌, ◌&&◌, List, [], ◌∷◌, ◌++◌, map, ℤ, pos, ◌+ℤ◌, ◌*ℤ◌, refl, sym, ap, ap₂, ◌∙◌, subst, arith}
use Rattle.std.specs.Ordering.{int_eq}
use Rattle.std.proofs.lemmas.Int.{ints}
use Rattle.std.proofs.lemmas.Bool.Decides.{nat_tests}
use Rattle.homeo_plan.specs.Each.{Each}
use Rattle.homeo_plan.specs.Split.{sum_from}
use Rattle.homeo_plan.specs.declared.forms.Delta.{Delta}
use Rattle.homeo_plan.specs.declared.forms.Term.{Term}
use Rattle.homeo_plan.specs.Linear.{AreInOrder, delta_of, Linear, constant_form, add_deltas, add_terms, scale_terms, deltas_of, add_forms, scale_form, is_empty, is_pure, support, mix_forms, multiply_forms}
use Rattle.homeo_plan.proofs.Factors.{at_delta, factor, add_terms_factor, scale_terms_factor}
use Rattle.homeo_plan.proofs.Order.{Above, Sorted, sorted_adds, sorted_scale}
use Rattle.homeo_plan.proofs.Sums.{sum_same, sum_at}
use Rattle.homeo_follow.specs.Expanded.{terms_from, deltas_from, expanded_terms, expanded_deltas, expanded}
use Rattle.homeo_follow.specs.Follow.{object_delta, object_form}
use Rattle.homeo_follow.proofs.Terms.{AllCount, OfEach, count_adds, count_scale, each_adds, each_scale, same_terms, factor_append, sorted_append}
use Rattle.homeo_plan.proofs.DeltaLists.{each_puts, has, has_adds, After, in_order_adds, terms_in_order, same_deltas}
use Rattle.homeo_plan.proofs.Atoms.{append_each}
use Rattle.homeo_follow.proofs.Deltas.{has_term, and_or}

-- ---- lists over whole objects
abbrev pub IsObject : Delta → Type 0
IsObject d = d.site ≡ 0

-- in order, without zeros, and at the one site
pub record IsTidy (a : Linear) : Type 0 where
  pub sorted : Sorted a.terms
  pub count : AllCount a.terms
  pub objects : OfEach IsObject a.terms
  pub ordered : AreInOrder a.mixed
  pub mixed : Each IsObject a.mixed

pub object_is : (d : Delta) → IsObject d → d ≡ object_delta d.object
unfolding definitions plan_definitions
object_is d h = λ i. record { object = d.object; site = h i }

-- ---- one object at its sites
pub factor_from : (d : Delta) (j n x : ℕ) (f : ℤ) → factor d (terms_from j n x f) ≡ sum_from j n (λ m. at_delta (delta_of x m) f d)
unfolding definitions plan_definitions
factor_from d j zero x f = refl
factor_from d j (suc n) x f = ap (λ z. at_delta (delta_of x j) f d +ℤ z) (factor_from d (suc j) n x f)

-- of the k sites of an object, that of the delta
pub at_site : (d : Delta) (k x : ℕ) (f : ℤ) → sum_from 0 k (λ m. at_delta (delta_of x m) f d) ≡ cond (nat_lt d.site k) (at_delta (object_delta x) f (object_delta d.object)) (pos 0)
unfolding definitions plan_definitions
at_site d k x f = sum_same 0 k _ _ apart ∙ sum_at d.site k (λ m. cond (x == d.object) f (pos 0)) ∙ ap (λ z. cond (nat_lt d.site k) z (pos 0)) here
  where
    apart : (m : ℕ) → cond ((x == d.object) && (m == d.site)) f (pos 0) ≡ cond (d.site == m) (cond (x == d.object) f (pos 0)) (pos 0)
    apart m = go (x == d.object) (m == d.site) (d.site == m) turned
      where
        turned : (m == d.site) ≡ (d.site == m)
        turned = grind (arith, nat_tests)

        go : (u v w : Bool) → v ≡ w → cond (u && v) f (pos 0) ≡ cond w (cond u f (pos 0)) (pos 0)
        go true true true e = refl
        go true true false e = cc
        go true false true e = cc
        go true false false e = refl
        go false v true e = refl
        go false v false e = refl

    here : cond (x == d.object) f (pos 0) ≡ cond ((x == d.object) && (0 == 0)) f (pos 0)
    here = go (x == d.object)
      where
        go : (u : Bool) → cond u f (pos 0) ≡ cond (u && (0 == 0)) f (pos 0)
        go true = refl
        go false = refl

same_sum : (b : Bool) (x y : ℤ) → cond b x (pos 0) +ℤ cond b y (pos 0) ≡ cond b (x +ℤ y) (pos 0)
same_sum true x y = refl
same_sum false x y = refl

-- the factor of a delta at one of k sites is that of its object
pub factor_expanded : (d : Delta) (k : ℕ) (ts : List Term) → OfEach IsObject ts → factor d (expanded_terms k ts) ≡ cond (nat_lt d.site k) (factor (object_delta d.object) ts) (pos 0)
unfolding definitions plan_definitions
factor_expanded d k [] h = nothing (nat_lt d.site k)
  where
    nothing : (b : Bool) → pos 0 ≡ cond b (pos 0) (pos 0)
    nothing true = refl
    nothing false = refl
factor_expanded d k (t ∷ ts) h =
    factor_append d (terms_from 0 k t.delta.object t.factor) (expanded_terms k ts)
    ∙ ap₂ ◌+ℤ◌
    (factor_from d 0 k t.delta.object t.factor ∙ at_site d k t.delta.object t.factor
    ∙ ap (λ e. cond (nat_lt d.site k) (at_delta e t.factor (object_delta d.object)) (pos 0)) (sym (object_is t.delta h.0)))
    (factor_expanded d k ts h.1)
    ∙ same_sum (nat_lt d.site k) (at_delta t.delta t.factor (object_delta d.object)) (factor (object_delta d.object) ts)

-- ---- order
above_from : (i j n x : ℕ) (f : ℤ) → i < j → Above (delta_of x i) (terms_from j n x f)
unfolding definitions plan_definitions
above_from i j zero x f l = tt
above_from i j (suc n) x f l = (grind (arith, nat_tests), above_from i (suc j) n x f (omega (arith, l)))

sorted_from : (j n x : ℕ) (f : ℤ) → Sorted (terms_from j n x f)
unfolding definitions plan_definitions
sorted_from j zero x f = tt
sorted_from j (suc n) x f = (above_from j (suc j) n x f (omega arith), sorted_from (suc j) n x f)

-- the deltas of an object stand after those of a lesser one
object_above : (x i j n y : ℕ) (f : ℤ) → x < y → Above (delta_of x i) (terms_from j n y f)
unfolding definitions plan_definitions
object_above x i j zero y f l = tt
object_above x i j (suc n) y f l = (grind (arith, nat_tests), object_above x i (suc j) n y f l)

above_expanded : (d : Delta) (i k : ℕ) (ts : List Term) → IsObject d → OfEach IsObject ts → Above d ts → Above (delta_of d.object i) (expanded_terms k ts)
unfolding definitions plan_definitions
above_expanded d i k [] o h a = tt
above_expanded d i k (t ∷ ts) o h a =
    let l : d.object < t.delta.object = grind (arith, nat_tests, o, h.0, a.0) in
    append_each _ (terms_from 0 k t.delta.object t.factor) (expanded_terms k ts) (object_above d.object i 0 k t.delta.object t.factor l) (above_expanded d i k ts o h.1 a.1)

each_above : (d : Delta) (k j n : ℕ) (f : ℤ) (ts : List Term) → IsObject d → OfEach IsObject ts → Above d ts → Each (λ t. Above t.delta (expanded_terms k ts)) (terms_from j n d.object f)
unfolding definitions plan_definitions
each_above d k j zero f ts o h a = tt
each_above d k j (suc n) f ts o h a = (above_expanded d j k ts o h a, each_above d k (suc j) n f ts o h a)

pub sorted_expanded : (k : ℕ) (ts : List Term) → OfEach IsObject ts → Sorted ts → Sorted (expanded_terms k ts)
unfolding definitions plan_definitions
sorted_expanded k [] h s = tt
sorted_expanded k (t ∷ ts) h s =
    sorted_append (terms_from 0 k t.delta.object t.factor) (expanded_terms k ts) (sorted_from 0 k t.delta.object t.factor)
    (sorted_expanded k ts h.1 s.1) (each_above t.delta k 0 k t.factor ts h.0 h.1 s.0)

count_from : (j n x : ℕ) (f : ℤ) → int_eq f (pos 0) ≡ false → AllCount (terms_from j n x f)
unfolding definitions plan_definitions
count_from j zero x f c = tt
count_from j (suc n) x f c = (c, count_from (suc j) n x f c)

pub count_expanded : (k : ℕ) (ts : List Term) → AllCount ts → AllCount (expanded_terms k ts)
unfolding definitions plan_definitions
count_expanded k [] c = tt
count_expanded k (t ∷ ts) c = append_each _ (terms_from 0 k t.delta.object t.factor) (expanded_terms k ts) (count_from 0 k t.delta.object t.factor c.0) (count_expanded k ts c.1)

-- ---- deltas
deltas_of_from : (j n x : ℕ) (f : ℤ) (ts : List Term) → deltas_of (terms_from j n x f ++ ts) ≡ deltas_from j n x ++ deltas_of ts
unfolding definitions plan_definitions
deltas_of_from j zero x f ts = refl
deltas_of_from j (suc n) x f ts = ap (λ l. delta_of x j ∷ l) (deltas_of_from (suc j) n x f ts)

pub deltas_expanded : (k : ℕ) (ts : List Term) → deltas_of (expanded_terms k ts) ≡ expanded_deltas k (deltas_of ts)
unfolding definitions plan_definitions
deltas_expanded k [] = refl
deltas_expanded k (t ∷ ts) =
    deltas_of_from 0 k t.delta.object t.factor (expanded_terms k ts) ∙ ap (λ l. deltas_from 0 k t.delta.object ++ l) (deltas_expanded k ts)

-- deltas as terms by the factor 1
units : List Delta → List Term
unfolding plan_definitions
units ds = map (λ d. record { delta = d; factor = pos 1 }) ds

deltas_of_units : (ds : List Delta) → deltas_of (units ds) ≡ ds
unfolding plan_definitions units
deltas_of_units [] = refl
deltas_of_units (d ∷ ds) = ap (λ l. d ∷ l) (deltas_of_units ds)

above_units : (d : Delta) (ds : List Delta) → After d ds → Above d (units ds)
unfolding plan_definitions units
above_units d [] a = tt
above_units d (e ∷ es) a = (a.0, above_units d es a.1)

sorted_units : (ds : List Delta) → AreInOrder ds → Sorted (units ds)
unfolding plan_definitions units
sorted_units [] o = tt
sorted_units (d ∷ ds) o = (above_units d ds o.0, sorted_units ds o.1)

objects_units : (ds : List Delta) → Each IsObject ds → OfEach IsObject (units ds)
unfolding plan_definitions units
objects_units [] h = tt
objects_units (d ∷ ds) h = (h.0, objects_units ds h.1)

pub ordered_expanded : (k : ℕ) (ds : List Delta) → Each IsObject ds → AreInOrder ds → AreInOrder (expanded_deltas k ds)
ordered_expanded k ds h o =
    subst AreInOrder (deltas_expanded k (units ds) ∙ ap (expanded_deltas k) (deltas_of_units ds))
    (terms_in_order (expanded_terms k (units ds)) (sorted_expanded k (units ds) (objects_units ds h) (sorted_units ds o)))

count_units : (ds : List Delta) → AllCount (units ds)
unfolding plan_definitions units
count_units [] = tt
count_units (d ∷ ds) = (refl, count_units ds)

pub has_expanded : (d : Delta) (k : ℕ) (ds : List Delta) → Each IsObject ds → AreInOrder ds → has d (expanded_deltas k ds) ≡ (nat_lt d.site k && has (object_delta d.object) ds)
has_expanded d k ds h o =
    let us : List Term = units ds in
    let objects : OfEach IsObject us = objects_units ds h in
    let sorted : Sorted us = sorted_units ds o in
    let x : Delta = object_delta d.object in
    ap (has d) (sym (deltas_expanded k us ∙ ap (expanded_deltas k) (deltas_of_units ds)))
    ∙ has_term d (expanded_terms k us) (sorted_expanded k us objects sorted) (count_expanded k us (count_units ds))
    ∙ ap (λ z. not (int_eq z (pos 0))) (factor_expanded d k us objects)
    ∙ split (nat_lt d.site k) (factor x us)
    ∙ ap (λ b. nat_lt d.site k && b) (sym (has_term x us sorted (count_units ds)) ∙ ap (has x) (deltas_of_units ds))
  where
    split : (b : Bool) (z : ℤ) → not (int_eq (cond b z (pos 0)) (pos 0)) ≡ (b && not (int_eq z (pos 0)))
    split true z = refl
    split false z = refl

pub expanded_puts : (k : ℕ) (ds es : List Delta) → Each IsObject ds → AreInOrder ds → Each IsObject es → AreInOrder es → expanded_deltas k (add_deltas ds es) ≡ add_deltas (expanded_deltas k ds) (expanded_deltas k es)
expanded_puts k ds es h o g p =
    same_deltas (expanded_deltas k (add_deltas ds es)) (add_deltas (expanded_deltas k ds) (expanded_deltas k es))
    (ordered_expanded k (add_deltas ds es) (each_puts IsObject ds es h g) (in_order_adds ds es p))
    (in_order_adds (expanded_deltas k ds) (expanded_deltas k es) (ordered_expanded k es g p)) at
  where
    at : (d : Delta) → has d (expanded_deltas k (add_deltas ds es)) ≡ has d (add_deltas (expanded_deltas k ds) (expanded_deltas k es))
    at d =
        let x : Delta = object_delta d.object in
        has_expanded d k (add_deltas ds es) (each_puts IsObject ds es h g) (in_order_adds ds es p)
        ∙ ap (λ b. nat_lt d.site k && b) (has_adds x ds es)
        ∙ and_or (nat_lt d.site k) (has x ds) (has x es)
        ∙ sym (has_adds d (expanded_deltas k ds) (expanded_deltas k es) ∙ ap₂ ◌||◌ (has_expanded d k ds h o) (has_expanded d k es g p))

-- ---- sums and multiples of terms
pub expanded_adds : (k : ℕ) (ts us : List Term) → OfEach IsObject ts → OfEach IsObject us → Sorted us → AllCount us → expanded_terms k (add_terms ts us) ≡ add_terms (expanded_terms k ts) (expanded_terms k us)
expanded_adds k ts us h g s c =
    same_terms (expanded_terms k (add_terms ts us)) (add_terms (expanded_terms k ts) (expanded_terms k us))
    (sorted_expanded k (add_terms ts us) (each_adds IsObject ts us h g) (sorted_adds ts us s))
    (sorted_adds (expanded_terms k ts) (expanded_terms k us) (sorted_expanded k us g s))
    (count_expanded k (add_terms ts us) (count_adds ts us c))
    (count_adds (expanded_terms k ts) (expanded_terms k us) (count_expanded k us c)) at
  where
    at : (d : Delta) → factor d (expanded_terms k (add_terms ts us)) ≡ factor d (add_terms (expanded_terms k ts) (expanded_terms k us))
    at d =
        let x : Delta = object_delta d.object in
        factor_expanded d k (add_terms ts us) (each_adds IsObject ts us h g)
        ∙ ap (λ z. cond (nat_lt d.site k) z (pos 0)) (add_terms_factor ts us x)
        ∙ sym (same_sum (nat_lt d.site k) (factor x ts) (factor x us))
        ∙ sym (add_terms_factor (expanded_terms k ts) (expanded_terms k us) d ∙ ap₂ ◌+ℤ◌ (factor_expanded d k ts h) (factor_expanded d k us g))

pub expanded_scale : (k : ℕ) (n : ℤ) (ts : List Term) → OfEach IsObject ts → Sorted ts → expanded_terms k (scale_terms n ts) ≡ scale_terms n (expanded_terms k ts)
expanded_scale k n ts h s =
    same_terms (expanded_terms k (scale_terms n ts)) (scale_terms n (expanded_terms k ts))
    (sorted_expanded k (scale_terms n ts) (each_scale IsObject n ts h) (sorted_scale n ts s))
    (sorted_scale n (expanded_terms k ts) (sorted_expanded k ts h s))
    (count_expanded k (scale_terms n ts) (count_scale n ts))
    (count_scale n (expanded_terms k ts)) at
  where
    times : (b : Bool) (z : ℤ) → cond b (n *ℤ z) (pos 0) ≡ n *ℤ cond b z (pos 0)
    times true z = refl
    times false z = omega (arith, ints)

    at : (d : Delta) → factor d (expanded_terms k (scale_terms n ts)) ≡ factor d (scale_terms n (expanded_terms k ts))
    at d =
        let x : Delta = object_delta d.object in
        factor_expanded d k (scale_terms n ts) (each_scale IsObject n ts h)
        ∙ ap (λ z. cond (nat_lt d.site k) z (pos 0)) (scale_terms_factor n ts x)
        ∙ times (nat_lt d.site k) (factor x ts)
        ∙ sym (scale_terms_factor n (expanded_terms k ts) d ∙ ap (λ z. n *ℤ z) (factor_expanded d k ts h))

-- ---- forms
pub tidy_constant : (n : ℤ) → IsTidy (constant_form n)
unfolding plan_definitions
tidy_constant n = record { sorted = tt; count = tt; objects = tt; ordered = tt; mixed = tt }

pub tidy_object : (n : ℤ) (x : ℕ) → IsTidy (object_form n x)
unfolding definitions plan_definitions
tidy_object n x = record { sorted = (tt, tt); count = (refl, tt); objects = (refl, tt); ordered = tt; mixed = tt }

pub tidy_add : (a b : Linear) → IsTidy a → IsTidy b → IsTidy (add_forms a b)
unfolding plan_definitions
tidy_add a b s t =
    record {
      sorted = sorted_adds a.terms b.terms t.sorted;
      count = count_adds a.terms b.terms t.count;
      objects = each_adds IsObject a.terms b.terms s.objects t.objects;
      ordered = in_order_adds a.mixed b.mixed t.ordered;
      mixed = each_puts IsObject a.mixed b.mixed s.mixed t.mixed;
    }

pub tidy_scale : (n : ℤ) (a : Linear) → IsTidy a → IsTidy (scale_form n a)
unfolding plan_definitions
tidy_scale n a t =
    record {
      sorted = sorted_scale n a.terms t.sorted;
      count = count_scale n a.terms;
      objects = each_scale IsObject n a.terms t.objects;
      ordered = t.ordered;
      mixed = t.mixed;
    }

objects_of : (ts : List Term) → OfEach IsObject ts → Each IsObject (deltas_of ts)
unfolding plan_definitions
objects_of [] h = tt
objects_of (t ∷ ts) h = (h.0, objects_of ts h.1)

pub support_objects : (a : Linear) → IsTidy a → Each IsObject (support a)
unfolding plan_definitions
support_objects a t = each_puts IsObject (deltas_of a.terms) a.mixed (objects_of a.terms t.objects) t.mixed

pub support_ordered : (a : Linear) → IsTidy a → AreInOrder (support a)
unfolding plan_definitions
support_ordered a t = in_order_adds (deltas_of a.terms) a.mixed t.ordered

tidy_mix : (a b : Linear) → IsTidy a → IsTidy b → IsTidy (mix_forms a b)
unfolding plan_definitions
tidy_mix a b s t =
    record {
      sorted = tt;
      count = tt;
      objects = tt;
      ordered = in_order_adds (support a) (support b) (support_ordered b t);
      mixed = each_puts IsObject (support a) (support b) (support_objects a s) (support_objects b t);
    }

pub tidy_multiply : (a b : Linear) → IsTidy a → IsTidy b → IsTidy (multiply_forms a b)
unfolding plan_definitions
tidy_multiply a b s t = go (is_pure a) (is_pure b)
  where
    go : (u v : Bool) → IsTidy (cond u (scale_form a.constant b) (cond v (scale_form b.constant a) (mix_forms a b)))
    go true v = tidy_scale a.constant b t
    go false true = tidy_scale b.constant a s
    go false false = tidy_mix a b s t

-- the same in three parts
pub linear_is : (a b : Linear) → a.constant ≡ b.constant → a.terms ≡ b.terms → a.mixed ≡ b.mixed → a ≡ b
linear_is a b c t m = λ i. record { constant = c i; terms = t i; mixed = m i }

pub expanded_add : (k : ℕ) (a b : Linear) → IsTidy a → IsTidy b → expanded k (add_forms a b) ≡ add_forms (expanded k a) (expanded k b)
unfolding definitions plan_definitions
expanded_add k a b s t =
    linear_is _ _ refl (expanded_adds k a.terms b.terms s.objects t.objects t.sorted t.count)
    (expanded_puts k a.mixed b.mixed s.mixed s.ordered t.mixed t.ordered)

pub expanded_times : (k : ℕ) (n : ℤ) (a : Linear) → IsTidy a → expanded k (scale_form n a) ≡ scale_form n (expanded k a)
unfolding definitions plan_definitions
expanded_times k n a t = linear_is _ _ refl (expanded_scale k n a.terms t.objects t.sorted) refl

pub expanded_support : (k : ℕ) (a : Linear) → IsTidy a → expanded_deltas k (support a) ≡ support (expanded k a)
unfolding definitions plan_definitions
expanded_support k a t =
    expanded_puts k (deltas_of a.terms) a.mixed (objects_of a.terms t.objects) (terms_in_order a.terms t.sorted) t.mixed t.ordered
    ∙ ap (λ l. add_deltas l (expanded_deltas k a.mixed)) (sym (deltas_expanded k a.terms))

expanded_mix : (k : ℕ) (a b : Linear) → IsTidy a → IsTidy b → expanded k (mix_forms a b) ≡ mix_forms (expanded k a) (expanded k b)
unfolding definitions plan_definitions
expanded_mix k a b s t =
    linear_is _ _ refl refl
    (expanded_puts k (support a) (support b) (support_objects a s) (support_ordered a s) (support_objects b t) (support_ordered b t)
    ∙ ap₂ add_deltas (expanded_support k a s) (expanded_support k b t))

pub no_terms : (k : ℕ) (ts : List Term) → 1 ≤ k → is_empty (expanded_terms k ts) ≡ is_empty ts
unfolding definitions plan_definitions
no_terms k [] l = refl
no_terms zero (t ∷ ts) l = absurd (omega (arith, l))
no_terms (suc k) (t ∷ ts) l = refl

no_deltas : (k : ℕ) (ds : List Delta) → 1 ≤ k → is_empty (expanded_deltas k ds) ≡ is_empty ds
unfolding definitions plan_definitions
no_deltas k [] l = refl
no_deltas zero (d ∷ ds) l = absurd (omega (arith, l))
no_deltas (suc k) (d ∷ ds) l = refl

pure_expanded : (k : ℕ) (a : Linear) → 1 ≤ k → is_pure (expanded k a) ≡ is_pure a
unfolding definitions plan_definitions
pure_expanded k a l = ap₂ ◌&&◌ (no_terms k a.terms l) (no_deltas k a.mixed l)

pub expanded_multiply : (k : ℕ) (a b : Linear) → 1 ≤ k → IsTidy a → IsTidy b → expanded k (multiply_forms a b) ≡ multiply_forms (expanded k a) (expanded k b)
unfolding definitions plan_definitions
expanded_multiply k a b l s t =
    go (is_pure a) (is_pure b)
    ∙ ap₂ (λ u v. cond u (scale_form a.constant (expanded k b)) (cond v (scale_form b.constant (expanded k a)) (mix_forms (expanded k a) (expanded k b))))
    (sym (pure_expanded k a l)) (sym (pure_expanded k b l))
  where
    go : (u v : Bool) → expanded k (cond u (scale_form a.constant b) (cond v (scale_form b.constant a) (mix_forms a b))) ≡
        cond u (scale_form a.constant (expanded k b)) (cond v (scale_form b.constant (expanded k a)) (mix_forms (expanded k a) (expanded k b)))
    go true v = expanded_times k a.constant b t
    go false true = expanded_times k b.constant a s
    go false false = expanded_mix k a b s t
