-- Sums of forms whose numbers are small: one more form, and the factors of its deltas.
use Rattle.std.proofs.Common.{◌≡◌, ℕ, ◌+◌, ◌<◌, ◌≤◌, Bool, true, false, cond, ◌&&◌, ◌==◌, Some, List, [], ◌∷◌, ◌++◌, take, drop, get_or, length, ℤ, pos, ◌+ℤ◌, refl, sym, ap, ap₂, ◌∙◌, subst, add-one, drop_of_length-le, length-append, arith}
use Rattle.std.proofs.Math.Seq.{drop-cons}
use Rattle.std.specs.BTreeMap.{get}
use Rattle.std.specs.Map.{lookup}
use Rattle.std.specs.Option.{unwrap_or}
use Rattle.std.specs.Ordering.{nat_cmp, is_eq}
use Rattle.std.proofs.lemmas.Bool.Decides.{nat_tests}
use Rattle.std.proofs.lemmas.List.{take_all, take-append-le}
use Rattle.homeo_lemmas.proofs.Bools.{then_equal}
use Rattle.homeo_lemmas.proofs.Integers.{zero_plus, plus_zero}
use Rattle.homeo_meaning.specs.Key.{definitions as meaning_definitions}
use Rattle.homeo_meaning.specs.Small.{IsSmall}
use Rattle.homeo_plan.specs.Key.{definitions as plan_definitions}
use Rattle.homeo_plan.specs.FormSizes.{Numbers}
use Rattle.homeo_plan.specs.Limit.{form_limit}
use Rattle.homeo_plan.specs.Linear.{AreInOrder, Linear, same_delta, deltas_of, add_terms, add_deltas, add_forms}
use Rattle.homeo_plan.specs.declared.forms.Delta.{Delta}
use Rattle.homeo_plan.specs.declared.forms.Term.{Term}
use Rattle.homeo_form.specs.Key.{definitions}
use Rattle.homeo_form.specs.inner.Running.{DeltaKey, key_cmp, key_of, Factors, factor_in, factor_with, IsRunning}
use Rattle.homeo_form.specs.inner.Terms.{AreSmall, share, factor_at}
use Rattle.homeo_form.proofs.Adding.{order_adds}
use Rattle.homeo_plan.proofs.Factors.{same_delta_is}
use Rattle.homeo_form.proofs.FormParts.{form_of, AreFormParts, small_terms, small_constant, both_small}
use Rattle.homeo_form.proofs.TermsAddedUp.{adds_append as terms_append, add_assoc, add_swap, at_adds, above_none, first_at}

-- ---- numbers that are small at each delta
pub zero_small : IsSmall form_limit (pos 0)
unfolding meaning_definitions
zero_small = omega arith

-- no term behind one in order has its delta
none_behind : (d : Delta) (t : Term) (ts : List Term) → AreInOrder (deltas_of (t ∷ ts)) → same_delta d t.delta ≡ true → factor_at d ts ≡ pos 0
unfolding plan_definitions
none_behind d t ts o h =
    ap (λ e. factor_at e ts) (same_delta_is d t.delta h) ∙ above_none t.delta ts o.0

small_at_each : (ts : List Term) → AreInOrder (deltas_of ts) → AreSmall ts → (d : Delta) → IsSmall form_limit (factor_at d ts)
unfolding definitions plan_definitions
small_at_each [] o s d = zero_small
small_at_each (t ∷ ts) o s d = go (same_delta d t.delta) refl (small_at_each ts o.1 s.1 d)
  where
    go : (v : Bool) → same_delta d t.delta ≡ v → IsSmall form_limit (factor_at d ts) → IsSmall form_limit (cond v t.factor (pos 0) +ℤ factor_at d ts)
    go true h ih = subst (IsSmall form_limit) (sym (ap (λ z. t.factor +ℤ z) (none_behind d t ts o h) ∙ plus_zero t.factor)) s.0
    go false h ih = subst (IsSmall form_limit) (sym (zero_plus (factor_at d ts))) ih

each_small : (ts : List Term) → AreInOrder (deltas_of ts) → ((d : Delta) → IsSmall form_limit (factor_at d ts)) → AreSmall ts
unfolding definitions plan_definitions
each_small [] o h = tt
each_small (t ∷ ts) o h =
    (subst (IsSmall form_limit) (first_at t ts o.0) (h t.delta), each_small ts o.1 (λ d. go d (same_delta d t.delta) refl (h d)))
  where
    go : (d : Delta) (v : Bool) → same_delta d t.delta ≡ v → IsSmall form_limit (cond v t.factor (pos 0) +ℤ factor_at d ts) → IsSmall form_limit (factor_at d ts)
    go d true e k = subst (IsSmall form_limit) (sym (none_behind d t ts o e)) zero_small
    go d false e k = subst (IsSmall form_limit) (zero_plus (factor_at d ts)) k

-- ---- what the map has
nat_same : (m n : ℕ) → is_eq (nat_cmp m n) ≡ (n == m)
nat_same m n = grind (arith, nat_tests)

key_same : (d e : Delta) → is_eq (key_cmp (key_of e) (key_of d)) ≡ same_delta d e
unfolding plan_definitions
key_same d e =
    then_equal (nat_cmp e.object d.object) (nat_cmp e.site d.site) ∙ ap₂ ◌&&◌ (nat_same e.object d.object) (nat_same e.site d.site)

module _ (m n : Factors) (first : List Term) (t : Term) (w : ℤ) (u : (q : DeltaKey) → get key_cmp n q ≡ cond (is_eq (key_cmp (key_of t.delta) q)) (Some w) (get key_cmp m q)) where
  pub factor_put : w ≡ t.factor +ℤ factor_in m first t.delta → (d : Delta) → factor_in n first d ≡ share d t.delta t.factor +ℤ factor_in m first d
  factor_put p d =
      ap (λ o. unwrap_or o (factor_at d first)) (u (key_of d))
      ∙ ap (λ b. unwrap_or (cond b (Some w) (get key_cmp m (key_of d))) (factor_at d first)) (key_same d t.delta)
      ∙ go (same_delta d t.delta) refl
    where
      go : (v : Bool) → same_delta d t.delta ≡ v → unwrap_or (cond v (Some w) (get key_cmp m (key_of d))) (factor_at d first) ≡ cond v t.factor (pos 0) +ℤ factor_in m first d
      go true h = p ∙ ap (λ e. t.factor +ℤ factor_in m first e) (sym (same_delta_is d t.delta h))
      go false h = sym (zero_plus (factor_in m first d))

-- ---- one term after another
module _ (m : Factors) (first ts : List Term) where
  pub record FactorsSoFar (i : ℕ) (n : Factors) : Type 0 where
    pub small : (d : Delta) → IsSmall form_limit (factor_in n first d)
    pub order : AreInOrder (deltas_of (drop i ts))
    pub left : (d : Delta) → factor_with n first (drop i ts) d ≡ factor_with m first ts d

  module _ (i : ℕ) (n k : Factors) (x t : Term) (l : i < length ts) (p : t ≡ get_or ts i x) (s : FactorsSoFar i n)
      (u : (d : Delta) → factor_in k first d ≡ share d t.delta t.factor +ℤ factor_in n first d) where
    next : drop i ts ≡ t ∷ drop (i + 1) ts
    next =
        let e : drop i ts ≡ get_or ts i x ∷ drop (i + 1) ts = rw add-one (drop-cons ts i x l) in
        e ∙ ap (λ y. y ∷ drop (i + 1) ts) (sym p)

    order_next : AreInOrder (deltas_of (t ∷ drop (i + 1) ts))
    order_next = subst (λ l. AreInOrder (deltas_of l)) next s.order

    left_next : (d : Delta) → factor_with k first (drop (i + 1) ts) d ≡ factor_with m first ts d
    unfolding definitions
    left_next d =
        let f = factor_at d (drop (i + 1) ts) in
        let g = share d t.delta t.factor in
        ap (λ z. f +ℤ z) (u d) ∙ add_swap f g (factor_in n first d) ∙ sym (add_assoc g f (factor_in n first d))
        ∙ sym (ap (λ l. factor_with n first l d) next) ∙ s.left d

    pub factors_more : IsSmall form_limit (factor_in k first t.delta) → FactorsSoFar (i + 1) k
    unfolding plan_definitions
    factors_more h = record { small = λ d. go d (same_delta d t.delta) refl; order = order_next.1; left = left_next }
      where
        go : (d : Delta) (v : Bool) → same_delta d t.delta ≡ v → IsSmall form_limit (factor_in k first d)
        go d true e = subst (λ y. IsSmall form_limit (factor_in k first y)) (sym (same_delta_is d t.delta e)) h
        go d false e =
            subst (IsSmall form_limit) (sym (u d ∙ ap (λ b. cond b t.factor (pos 0) +ℤ factor_in n first d) e ∙ zero_plus (factor_in n first d))) (s.small d)

    pub factor_from : ((d : Delta) → IsSmall form_limit (factor_with m first ts d)) → IsSmall form_limit (factor_in k first t.delta)
    unfolding plan_definitions
    factor_from h =
        let none : factor_at t.delta (drop (i + 1) ts) ≡ pos 0 = above_none t.delta (drop (i + 1) ts) order_next.0 in
        subst (IsSmall form_limit)
        (sym (left_next t.delta) ∙ ap (λ z. z +ℤ factor_in k first t.delta) none ∙ zero_plus (factor_in k first t.delta)) (h t.delta)

  pub factors_end : (i : ℕ) (n : Factors) → length ts ≤ i → FactorsSoFar i n → (d : Delta) → factor_in n first d ≡ factor_with m first ts d
  unfolding definitions
  factors_end i n l s d =
      sym (zero_plus (factor_in n first d)) ∙ sym (ap (λ l. factor_with n first l d) (drop_of_length-le ts l)) ∙ s.left d

-- ---- sums of factors by delta, and the terms added up
at_sum : (ts : List Term) (d : Delta) → factor_at d (add_terms ts []) ≡ factor_at d ts
unfolding definitions
at_sum ts d = at_adds d ts [] ∙ plus_zero (factor_at d ts)

order_sum : (ts : List Term) → AreInOrder (deltas_of (add_terms ts []))
unfolding plan_definitions
order_sum ts = order_adds ts [] tt

pub sums_small : (ts : List Term) → ((d : Delta) → IsSmall form_limit (factor_at d ts)) → AreSmall (add_terms ts [])
sums_small ts h = each_small (add_terms ts []) (order_sum ts) (λ d. subst (IsSmall form_limit) (sym (at_sum ts d)) (h d))

pub small_sums : (ts : List Term) → AreSmall (add_terms ts []) → (d : Delta) → IsSmall form_limit (factor_at d ts)
small_sums ts h d = subst (IsSmall form_limit) (at_sum ts d) (small_at_each (add_terms ts []) (order_sum ts) h d)

at_append : (d : Delta) (ts us : List Term) → factor_at d (ts ++ us) ≡ factor_at d us +ℤ factor_at d ts
at_append d ts us =
    sym (at_sum (ts ++ us) d) ∙ ap (factor_at d) (terms_append ts us []) ∙ at_adds d us (add_terms ts []) ∙ ap (λ z. factor_at d us +ℤ z) (at_sum ts d)

-- ---- a sum of one form
module _ (a : Linear) (n z : ℤ) (ts : List Term) (ds : List Delta) (e : form_of n ts ds ≡ a) (o : AreFormParts ts ds) (h : Numbers (IsSmall form_limit) a) where
  pub running_of : (m : Factors) (settled : ℕ) → m.entries ≡ [] → settled ≡ length ts → z ≡ n → IsRunning z ts settled m
  unfolding definitions
  running_of m settled p l q =
      let terms = small_terms a n ts ts ds e refl h in
      let whole : take settled ts ≡ ts = take_all settled ts (omega (arith, l)) in
      record {
        constant = subst (IsSmall form_limit) (sym q) (small_constant a n ts ds e h.constant);
        terms = terms;
        sums = small_at_each ts o.0.order terms;
        within = omega (arith, l);
        order = subst (λ l. AreInOrder (deltas_of l)) (sym whole) o.0.order;
        factors = λ d.
            ap (λ es. unwrap_or (lookup (λ k. is_eq (key_cmp (key_of d) k)) es) (factor_at d (take settled ts))) p
            ∙ ap (factor_at d) whole;
      }

-- ---- a sum with one more form
pub constant_from :
    (a b : Linear) (n k : ℤ) (ts us : List Term) (ds es : List Delta) → form_of n ts ds ≡ a → form_of k us es ≡ b →
    Numbers (IsSmall form_limit) (add_forms b a) → IsSmall form_limit (k +ℤ n)
unfolding plan_definitions
constant_from a b n k ts us ds es e f h =
    subst (IsSmall form_limit) (ap₂ ◌+ℤ◌ (sym (ap (λ (c : Linear). c.constant) f)) (sym (ap (λ (c : Linear). c.constant) e))) h.constant

module _ (a b : Linear) (n k : ℤ) (ts us xs first : List Term) (ds es : List Delta) (settled : ℕ) (m : Factors)
    (e : form_of n (add_terms ts []) (add_deltas ds []) ≡ a) (f : form_of k us es ≡ b) (x : xs ≡ us) (y : first ≡ take settled ts)
    (s : IsRunning n ts settled m) where
  factor_now : (d : Delta) → factor_in m first d ≡ factor_at d ts
  factor_now d = ap (λ l. factor_in m l d) y ∙ s.factors d

  at_more : (d : Delta) → factor_with m first xs d ≡ factor_at d (ts ++ xs)
  at_more d = ap (λ z. factor_at d xs +ℤ z) (factor_now d) ∙ sym (at_append d ts xs)

  pub factors_from : Numbers (IsSmall form_limit) (add_forms b a) → (d : Delta) → IsSmall form_limit (factor_with m first xs d)
  unfolding definitions plan_definitions
  factors_from h d =
      let whole : add_terms (ts ++ xs) [] ≡ add_terms b.terms a.terms =
      terms_append ts xs [] ∙ ap₂ add_terms (x ∙ ap (λ (c : Linear). c.terms) f) (ap (λ (c : Linear). c.terms) e) in
      subst (IsSmall form_limit) (sym (at_more d)) (small_sums (ts ++ xs) (subst AreSmall (sym whole) h.factors) d)

  pub running_more :
      (c : Factors) (z w : ℤ) (vs : List Term) → vs ≡ ts ++ xs → AreSmall xs → w ≡ z → IsSmall form_limit z →
      ((d : Delta) → factor_in c first d ≡ factor_with m first xs d) → ((d : Delta) → IsSmall form_limit (factor_with m first xs d)) → IsRunning w vs settled c
  running_more c z w vs p t q h u v =
      subst (λ l. IsRunning w l settled c) (sym p)
      (record {
        constant = subst (IsSmall form_limit) (sym q) h;
        terms = both_small ts xs (ts ++ xs) refl s.terms t;
        sums = λ d. subst (IsSmall form_limit) (at_more d) (v d);
        within = omega (arith, s.within, length-append ts xs);
        order = subst (λ l. AreInOrder (deltas_of l)) (sym same) s.order;
        factors = λ d. ap (λ l. factor_in c l d) (same ∙ sym y) ∙ u d ∙ at_more d;
      })
    where
      same : take settled (ts ++ xs) ≡ take settled ts
      same = take-append-le settled ts xs s.within

-- the numbers of a sum
pub running_small : (n z : ℤ) (ts : List Term) (ds : List Delta) (settled : ℕ) (m : Factors) → z ≡ n → IsRunning n ts settled m →
    Numbers (IsSmall form_limit) (form_of z (add_terms ts []) (add_deltas ds []))
unfolding definitions
running_small n z ts ds settled m e s =
    record { constant = subst (IsSmall form_limit) (sym e) s.constant; factors = sums_small ts s.sums }
