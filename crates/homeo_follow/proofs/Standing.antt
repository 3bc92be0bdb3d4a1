-- Forms over the deltas of sites stand for forms over whole objects, as a site's command leaves both.
use Rattle.homeo_meaning.specs.Key.{definitions as meaning_definitions}
use Rattle.homeo_plan.specs.Key.{definitions as plan_definitions}
use Rattle.homeo_follow.specs.Key.{definitions}
use Rattle.std.proofs.Common.{◌≡◌, ℕ, zero, suc, ◌==◌, ◌+◌, ◌<◌, ◌≤◌, Bool, true, false, cond, ◌||◌, ◌&&◌, [], ℤ, pos, negsuc, ◌+ℤ◌, ◌*ℤ◌, refl, sym, ap, ap₂, ◌∙◌, subst, arith}
use Rattle.std.proofs.lemmas.Int.{ints}
use Rattle.std.proofs.lemmas.Bool.Decides.{nat_tests}
use Rattle.homeo_lemmas.proofs.Bools.{or_false}
use Rattle.homeo_lemmas.proofs.Integers.{minus_itself}
use Rattle.homeo_syntax.specs.declared.low.Temp.{Temp}
use Rattle.homeo_syntax.specs.declared.low.SplitName.TheVariants as split
use Rattle.homeo_syntax.specs.Low.{Expr, Exprs, Read, Sum, Neg, NoExpr, MoreExpr}
use Rattle.homeo_meaning.specs.LowMeaning.{TempAt, BaseAt, DeltaAt, same_temp, put}
use Rattle.homeo_plan.specs.Split.{sum_from, delta_reads, other_deltas, shift_read}
use Rattle.homeo_plan.specs.declared.forms.Delta.{Delta}
use Rattle.homeo_plan.specs.Linear.{AreInOrder, delta_of, Linear, constant_form, delta_form, add_forms, scale_form, Forms, base_forms, form, sum_form, scale_terms}
use Rattle.homeo_plan.proofs.Factors.{at_delta, factor, add_terms_factor, scale_terms_factor}
use Rattle.homeo_plan.proofs.Order.{Sorted, sorted_adds}
use Rattle.homeo_plan.proofs.Sums.{sum_same, sum_add, sum_pick}
use Rattle.homeo_follow.specs.Expanded.{terms_from, expanded_terms, expanded_deltas, expanded}
use Rattle.homeo_follow.specs.Follow.{object_form, object_forms}
use Rattle.homeo_follow.proofs.Terms.{AllCount, count_adds, same_terms, factor_append}
use Rattle.homeo_plan.proofs.DeltaLists.{has, has_adds, in_order_adds, same_deltas}
use Rattle.homeo_follow.proofs.Expansions.{IsTidy, tidy_constant, tidy_object, factor_from, sorted_expanded, count_expanded, ordered_expanded, linear_is}

-- ---- sums are in order, whatever is added up
pub sorted_sum : (f : Forms) (es : Exprs) (a : Linear) → Sorted a.terms → Sorted (sum_form f a es).terms
unfolding plan_definitions
sorted_sum f NoExpr a s = s
sorted_sum f (MoreExpr e es) a s = sorted_sum f es (add_forms (form f e) a) (sorted_adds (form f e).terms a.terms s)

pub count_sum : (f : Forms) (es : Exprs) (a : Linear) → AllCount a.terms → AllCount (sum_form f a es).terms
unfolding plan_definitions
count_sum f NoExpr a c = c
count_sum f (MoreExpr e es) a c = count_sum f es (add_forms (form f e) a) (count_adds (form f e).terms a.terms c)

pub ordered_sum : (f : Forms) (es : Exprs) (a : Linear) → AreInOrder a.mixed → AreInOrder (sum_form f a es).mixed
unfolding plan_definitions
ordered_sum f NoExpr a o = o
ordered_sum f (MoreExpr e es) a o = ordered_sum f es (add_forms (form f e) a) (in_order_adds (form f e).mixed a.mixed o)

-- ---- whether one of n numbers from j on passes
abbrev any_from : ℕ → ℕ → (ℕ → Bool) → Bool
any_from j zero p = false
any_from j (suc n) p = p j || any_from (suc j) n p

or_three : (a b c : Bool) → ((a || b) || c) ≡ (b || (a || c))
or_three true true c = refl
or_three true false c = refl
or_three false true c = refl
or_three false false c = refl

module _ (i : ℕ) (p : ℕ → Bool) (others : (m : ℕ) → (i == m) ≡ false → p m ≡ false) where
  any_none : (j n : ℕ) → i < j → any_from j n p ≡ false
  any_none j zero l = refl
  any_none j (suc n) l =
      let other : (i == j) ≡ false = grind (arith, nat_tests, l) in
      ap₂ ◌||◌ (others j other) (any_none (suc j) n (omega (arith, l)))

  any_pick : (j n : ℕ) → j ≤ i → i < j + n → any_from j n p ≡ p i
  any_pick j zero l h = absurd (never l h)
    where
      never : j ≤ i → i < j + 0 → ⊥
      never l h = omega (arith, l, h)
  any_pick j (suc n) l h = go (i == j) refl (λ up. any_pick (suc j) n up (omega (arith, h)))
    where
      go : (v : Bool) → (i == j) ≡ v → (suc j ≤ i → any_from (suc j) n p ≡ p i) → (p j || any_from (suc j) n p) ≡ p i
      go true e ih =
          let same : j ≡ i = grind (arith, nat_tests, e) in
          ap₂ ◌||◌ (ap p same) (any_none (suc j) n (omega (arith, same))) ∙ or_false (p i)
      go false e ih =
          let up : suc j ≤ i = grind (arith, nat_tests, l, e) in
          ap (λ b. b || any_from (suc j) n p) (others j e) ∙ ih up

-- ---- the deltas of an object added up
module _ (f : Forms) (x : ℕ) where
  constant_reads : (n j : ℕ) (a : Linear) → (sum_form f a (delta_reads x j n)).constant ≡ a.constant +ℤ sum_from j n (λ m. (f (DeltaAt x m)).constant)
  unfolding plan_definitions meaning_definitions
  constant_reads zero j a = omega (arith, ints)
  constant_reads (suc n) j a = omega (arith, ints, constant_reads n (suc j) (add_forms (f (DeltaAt x j)) a))

  factor_reads : (d : Delta) (n j : ℕ) (a : Linear) → factor d (sum_form f a (delta_reads x j n)).terms ≡ factor d a.terms +ℤ sum_from j n (λ m. factor d (f (DeltaAt x m)).terms)
  unfolding plan_definitions meaning_definitions
  factor_reads d zero j a = omega (arith, ints)
  factor_reads d (suc n) j a =
      omega (arith, ints, factor_reads d n (suc j) (add_forms (f (DeltaAt x j)) a), add_terms_factor (f (DeltaAt x j)).terms a.terms d)

  mixed_reads : (d : Delta) (n j : ℕ) (a : Linear) → has d (sum_form f a (delta_reads x j n)).mixed ≡ (has d a.mixed || any_from j n (λ m. has d (f (DeltaAt x m)).mixed))
  unfolding plan_definitions meaning_definitions
  mixed_reads d zero j a = sym (or_false (has d a.mixed))
  mixed_reads d (suc n) j a =
      mixed_reads d n (suc j) (add_forms (f (DeltaAt x j)) a)
      ∙ ap (λ b. b || any_from (suc j) n (λ m. has d (f (DeltaAt x m)).mixed)) (has_adds d (f (DeltaAt x j)).mixed a.mixed)
      ∙ or_three (has d (f (DeltaAt x j)).mixed) (has d a.mixed) (any_from (suc j) n (λ m. has d (f (DeltaAt x m)).mixed))

module _ (k i : ℕ) (inside : i < k) (b : ℕ → ℤ) where
  -- how often a delta is one of an object's at the other sites
  abbrev pub others : ℕ → Delta → ℤ
  others x d = sum_from 0 k (λ m. cond (i == m) (pos 0) (at_delta (delta_of x m) (pos 1) d))

  -- the form of the own delta of an object that has this form over whole objects
  pub record IsOwn (x : ℕ) (a v : Linear) : Type 0 where
    pub constant : b x +ℤ a.constant ≡ v.constant
    pub factors : (d : Delta) → factor d a.terms +ℤ others x d ≡ factor d (expanded_terms k v.terms)
    pub mixed : (d : Delta) → has d a.mixed ≡ has d (expanded_deltas k v.mixed)
    pub sorted : Sorted a.terms
    pub count : AllCount a.terms
    pub ordered : AreInOrder a.mixed

  -- the forms f over the deltas of k sites, as site i has made them, stand for the forms g over whole objects
  pub record Stands (f g : Forms) : Type 0 where
    pub temps : (t : Temp) → f (TempAt t) ≡ expanded k (g (TempAt t))
    pub bases : (x : ℕ) → f (BaseAt x) ≡ constant_form (b x)
    pub deltas : (x j : ℕ) → (i == j) ≡ false → f (DeltaAt x j) ≡ delta_form (delta_of x j)
    pub own : (x : ℕ) → IsOwn x (f (DeltaAt x i)) (g (BaseAt x))
    pub tidy_temps : (t : Temp) → IsTidy (g (TempAt t))
    pub tidy_objects : (x : ℕ) → IsTidy (g (BaseAt x))

  -- ---- at the base
  one_and_others : (x : ℕ) (d : Delta) → at_delta (delta_of x i) (pos 1) d +ℤ others x d ≡ sum_from 0 k (λ m. at_delta (delta_of x m) (pos 1) d)
  one_and_others x d =
      ap (λ z. z +ℤ others x d) (sym (sum_pick i 0 k (at_delta (delta_of x i) (pos 1) d) (omega arith) (omega (arith, inside))))
      ∙ sym (sum_add 0 k (λ m. cond (i == m) (at_delta (delta_of x i) (pos 1) d) (pos 0)) (λ m. cond (i == m) (pos 0) (at_delta (delta_of x m) (pos 1) d)))
      ∙ sum_same 0 k _ _ (λ m. at m (i == m) refl)
    where
      at : (m : ℕ) (v : Bool) → (i == m) ≡ v →
          cond v (at_delta (delta_of x i) (pos 1) d) (pos 0) +ℤ cond v (pos 0) (at_delta (delta_of x m) (pos 1) d) ≡ at_delta (delta_of x m) (pos 1) d
      at m true e =
          let same : i ≡ m = grind (arith, nat_tests, e) in
          plus_zero (at_delta (delta_of x i) (pos 1) d) ∙ ap (λ j. at_delta (delta_of x j) (pos 1) d) same
        where
          plus_zero : (z : ℤ) → z +ℤ pos 0 ≡ z
          plus_zero z = omega (arith, ints)
      at m false e = zero_plus (at_delta (delta_of x m) (pos 1) d)
        where
          zero_plus : (z : ℤ) → pos 0 +ℤ z ≡ z
          zero_plus z = omega (arith, ints)

  pub own_begins : (x : ℕ) → IsOwn x (delta_form (delta_of x i)) (object_form (b x) x)
  unfolding definitions plan_definitions
  own_begins x =
      record {
        constant = plus_zero (b x);
        factors = λ d.
            ap (λ z. z +ℤ others x d) (plus_zero (at_delta (delta_of x i) (pos 1) d))
            ∙ one_and_others x d
            ∙ sym (factor_append d (terms_from 0 k x (pos 1)) [] ∙ plus_zero (factor d (terms_from 0 k x (pos 1))) ∙ factor_from d 0 k x (pos 1));
        mixed = λ d. refl;
        sorted = (tt, tt);
        count = (refl, tt);
        ordered = tt;
      }
    where
      plus_zero : (z : ℤ) → z +ℤ pos 0 ≡ z
      plus_zero z = omega (arith, ints)

  pub stands_at_base : Stands (base_forms b) (object_forms b)
  unfolding definitions plan_definitions
  stands_at_base =
      record {
        temps = λ t. refl;
        bases = λ x. refl;
        deltas = λ x j e. refl;
        own = own_begins;
        tidy_temps = λ t. tidy_constant (pos 0);
        tidy_objects = λ x. tidy_object (b x) x;
      }

  module _ (f g : Forms) (h : Stands f g) where
    -- ---- what is read
    own_constant : (x m : ℕ) (v : Bool) → (i == m) ≡ v → (f (DeltaAt x m)).constant ≡ cond v (f (DeltaAt x i)).constant (pos 0)
    unfolding plan_definitions
    own_constant x m true e =
        let same : m ≡ i = grind (arith, nat_tests, e) in
        ap (λ j. (f (DeltaAt x j)).constant) same
    own_constant x m false e = ap (λ (a : Linear). a.constant) (h.deltas x m e)

    own_factor : (d : Delta) (x m : ℕ) (v : Bool) → (i == m) ≡ v →
        factor d (f (DeltaAt x m)).terms ≡ cond v (factor d (f (DeltaAt x i)).terms) (pos 0) +ℤ cond v (pos 0) (at_delta (delta_of x m) (pos 1) d)
    unfolding plan_definitions
    own_factor d x m true e =
        let same : m ≡ i = grind (arith, nat_tests, e) in
        ap (λ j. factor d (f (DeltaAt x j)).terms) same ∙ plus_zero (factor d (f (DeltaAt x i)).terms)
      where
        plus_zero : (z : ℤ) → z ≡ z +ℤ pos 0
        plus_zero z = omega (arith, ints)
    own_factor d x m false e = ap (λ (a : Linear). factor d a.terms) (h.deltas x m e) ∙ turned (at_delta (delta_of x m) (pos 1) d)
      where
        turned : (z : ℤ) → z +ℤ pos 0 ≡ pos 0 +ℤ z
        turned z = omega (arith, ints)

    others_unmixed : (d : Delta) (x m : ℕ) → (i == m) ≡ false → has d (f (DeltaAt x m)).mixed ≡ false
    unfolding plan_definitions
    others_unmixed d x m e = ap (λ (a : Linear). has d a.mixed) (h.deltas x m e)

    -- what is read of an object stands for the object
    pub reads : (x : ℕ) → form f (shift_read k (split.Whole x)) ≡ expanded k (g (BaseAt x))
    unfolding definitions plan_definitions meaning_definitions
    reads x =
        ap (λ (a : Linear). sum_form f (add_forms a (constant_form (pos 0))) (delta_reads x 0 k)) (h.bases x)
        ∙ linear_is r (expanded k v) constant terms mixed
      where
        v : Linear
        v = g (BaseAt x)

        start : Linear
        start = add_forms (constant_form (b x)) (constant_form (pos 0))

        r : Linear
        r = sum_form f start (delta_reads x 0 k)

        own : IsOwn x (f (DeltaAt x i)) v
        own = h.own x

        constant : r.constant ≡ v.constant
        constant =
            let all : sum_from 0 k (λ m. (f (DeltaAt x m)).constant) ≡ (f (DeltaAt x i)).constant =
            sum_same 0 k _ _ (λ m. own_constant x m (i == m) refl) ∙ sum_pick i 0 k (f (DeltaAt x i)).constant (omega arith) (omega (arith, inside)) in
            constant_reads f x k 0 start ∙ omega (arith, ints, all, own.constant)

        factors : (d : Delta) → factor d r.terms ≡ factor d (expanded_terms k v.terms)
        factors d =
            let all : sum_from 0 k (λ m. factor d (f (DeltaAt x m)).terms) ≡ factor d (f (DeltaAt x i)).terms +ℤ others x d =
            sum_same 0 k _ _ (λ m. own_factor d x m (i == m) refl)
            ∙ sum_add 0 k (λ m. cond (i == m) (factor d (f (DeltaAt x i)).terms) (pos 0)) (λ m. cond (i == m) (pos 0) (at_delta (delta_of x m) (pos 1) d))
            ∙ ap (λ z. z +ℤ others x d) (sum_pick i 0 k (factor d (f (DeltaAt x i)).terms) (omega arith) (omega (arith, inside))) in
            factor_reads f x d k 0 start ∙ zero_plus (sum_from 0 k (λ m. factor d (f (DeltaAt x m)).terms)) ∙ all ∙ own.factors d
          where
            zero_plus : (z : ℤ) → pos 0 +ℤ z ≡ z
            zero_plus z = omega (arith, ints)

        terms : r.terms ≡ expanded_terms k v.terms
        terms =
            same_terms r.terms (expanded_terms k v.terms) (sorted_sum f (delta_reads x 0 k) start tt)
            (sorted_expanded k v.terms (h.tidy_objects x).objects (h.tidy_objects x).sorted)
            (count_sum f (delta_reads x 0 k) start tt) (count_expanded k v.terms (h.tidy_objects x).count) factors

        has_same : (d : Delta) → has d r.mixed ≡ has d (expanded_deltas k v.mixed)
        has_same d =
            mixed_reads f x d k 0 start
            ∙ any_pick i (λ m. has d (f (DeltaAt x m)).mixed) (others_unmixed d x) 0 k (omega arith) (omega (arith, inside))
            ∙ own.mixed d

        mixed : r.mixed ≡ expanded_deltas k v.mixed
        mixed =
            same_deltas r.mixed (expanded_deltas k v.mixed) (ordered_sum f (delta_reads x 0 k) start tt)
            (ordered_expanded k v.mixed (h.tidy_objects x).mixed (h.tidy_objects x).ordered) has_same

    -- ---- what is written
    module _ (x : ℕ) where
      constant_others : (n j : ℕ) (a : Linear) → (sum_form f a (other_deltas i x j n)).constant ≡ a.constant
      unfolding plan_definitions meaning_definitions
      constant_others zero j a = refl
      constant_others (suc n) j a = go (i == j) refl (λ c. constant_others n (suc j) c)
        where
          go :
              (v : Bool) → (i == j) ≡ v → ((c : Linear) → (sum_form f c (other_deltas i x (suc j) n)).constant ≡ c.constant) →
              (sum_form f a (cond v (other_deltas i x (suc j) n) (MoreExpr (Neg (Read (split.Delta x j))) (other_deltas i x (suc j) n)))).constant ≡ a.constant
          go true e ih = ih a
          go false e ih =
              ih (add_forms (scale_form (negsuc 0) (f (DeltaAt x j))) a)
              ∙ ap (λ (u : Linear). (add_forms (scale_form (negsuc 0) u) a).constant) (h.deltas x j e)
              ∙ zero_plus a.constant
            where
              zero_plus : (z : ℤ) → (negsuc 0 *ℤ pos 0) +ℤ z ≡ z
              zero_plus z = omega (arith, ints)

      factor_others : (d : Delta) (n j : ℕ) (a : Linear) →
          factor d (sum_form f a (other_deltas i x j n)).terms +ℤ sum_from j n (λ m. cond (i == m) (pos 0) (at_delta (delta_of x m) (pos 1) d)) ≡ factor d a.terms
      unfolding plan_definitions meaning_definitions
      factor_others d zero j a = omega (arith, ints)
      factor_others d (suc n) j a = go (i == j) refl (λ c. factor_others d n (suc j) c)
        where
          rest : ℤ
          rest = sum_from (suc j) n (λ m. cond (i == m) (pos 0) (at_delta (delta_of x m) (pos 1) d))

          one : (u : Linear) → u ≡ delta_form (delta_of x j) → factor d (scale_terms (negsuc 0) u.terms) ≡ negsuc 0 *ℤ at_delta (delta_of x j) (pos 1) d
          one u e =
              scale_terms_factor (negsuc 0) u.terms d
              ∙ ap (λ (w : Linear). negsuc 0 *ℤ factor d w.terms) e
              ∙ ap (λ z. negsuc 0 *ℤ z) (plus_zero (at_delta (delta_of x j) (pos 1) d))
            where
              plus_zero : (z : ℤ) → z +ℤ pos 0 ≡ z
              plus_zero z = omega (arith, ints)

          go :
              (v : Bool) → (i == j) ≡ v → ((c : Linear) → factor d (sum_form f c (other_deltas i x (suc j) n)).terms +ℤ rest ≡ factor d c.terms) →
              factor d (sum_form f a (cond v (other_deltas i x (suc j) n) (MoreExpr (Neg (Read (split.Delta x j))) (other_deltas i x (suc j) n)))).terms
              +ℤ (cond v (pos 0) (at_delta (delta_of x j) (pos 1) d) +ℤ rest) ≡ factor d a.terms
          go true e ih = omega (arith, ints, ih a)
          go false e ih =
              let u : Linear = f (DeltaAt x j) in
              omega (
                arith,
                ints,
                ih (add_forms (scale_form (negsuc 0) u) a),
                add_terms_factor (scale_terms (negsuc 0) u.terms) a.terms d,
                one u (h.deltas x j e),
                minus_itself (at_delta (delta_of x j) (pos 1) d),
              )

      mixed_others : (n j : ℕ) (a : Linear) → (sum_form f a (other_deltas i x j n)).mixed ≡ a.mixed
      unfolding plan_definitions meaning_definitions
      mixed_others zero j a = refl
      mixed_others (suc n) j a = go (i == j) refl (λ c. mixed_others n (suc j) c)
        where
          go :
              (v : Bool) → (i == j) ≡ v → ((c : Linear) → (sum_form f c (other_deltas i x (suc j) n)).mixed ≡ c.mixed) →
              (sum_form f a (cond v (other_deltas i x (suc j) n) (MoreExpr (Neg (Read (split.Delta x j))) (other_deltas i x (suc j) n)))).mixed ≡ a.mixed
          go true e ih = ih a
          go false e ih =
              ih (add_forms (scale_form (negsuc 0) (f (DeltaAt x j))) a)
              ∙ ap (λ (u : Linear). (add_forms (scale_form (negsuc 0) u) a).mixed) (h.deltas x j e)

      -- the form of what is written to the own delta, where the value has this form
      pub own_written : (e : Expr) (v : Linear) → IsTidy v → form f e ≡ expanded k v →
          IsOwn x (form f (Sum (MoreExpr e (MoreExpr (Neg (Read (split.Base x))) (other_deltas i x 0 k))))) v
      unfolding definitions plan_definitions meaning_definitions
      own_written e v t is =
          subst (λ (a : Linear). IsOwn x (sum_form f a (other_deltas i x 0 k)) v) (sym begins)
          (record {
            constant = ap (λ z. b x +ℤ z) (constant_others k 0 start) ∙ taken (b x) v.constant;
            factors = λ d. factor_others d k 0 start ∙ add_terms_factor (expanded_terms k v.terms) [] d ∙ plus_zero (factor d (expanded_terms k v.terms));
            mixed = λ d. ap (has d) (mixed_others k 0 start) ∙ has_adds d (expanded_deltas k v.mixed) [] ∙ or_false (has d (expanded_deltas k v.mixed));
            sorted = sorted_sum f (other_deltas i x 0 k) start (sorted_adds (expanded_terms k v.terms) [] tt);
            count = count_sum f (other_deltas i x 0 k) start (count_adds (expanded_terms k v.terms) [] tt);
            ordered = ordered_sum f (other_deltas i x 0 k) start (in_order_adds (expanded_deltas k v.mixed) [] tt);
          })
        where
          start : Linear
          start = add_forms (scale_form (negsuc 0) (constant_form (b x))) (add_forms (expanded k v) (constant_form (pos 0)))

          begins : add_forms (scale_form (negsuc 0) (f (BaseAt x))) (add_forms (form f e) (constant_form (pos 0))) ≡ start
          begins = ap₂ (λ (a c : Linear). add_forms (scale_form (negsuc 0) a) (add_forms c (constant_form (pos 0)))) (h.bases x) is

          taken : (y z : ℤ) → y +ℤ ((negsuc 0 *ℤ y) +ℤ (z +ℤ pos 0)) ≡ z
          taken y z = omega (arith, ints)

          plus_zero : (z : ℤ) → z +ℤ pos 0 ≡ z
          plus_zero z = omega (arith, ints)

    -- ---- forms that are put in their places
    pub stands_temp : (t : Temp) (a v : Linear) → IsTidy v → a ≡ expanded k v → Stands (put f (TempAt t) a) (put g (TempAt t) v)
    unfolding definitions plan_definitions meaning_definitions
    stands_temp t a v tidy e =
        record {
          temps = λ u. temp u (same_temp t u);
          bases = h.bases;
          deltas = h.deltas;
          own = h.own;
          tidy_temps = λ u. tidy_temp u (same_temp t u);
          tidy_objects = h.tidy_objects;
        }
      where
        temp : (u : Temp) (w : Bool) → cond w a (f (TempAt u)) ≡ expanded k (cond w v (g (TempAt u)))
        temp u true = e
        temp u false = h.temps u

        tidy_temp : (u : Temp) (w : Bool) → IsTidy (cond w v (g (TempAt u)))
        tidy_temp u true = tidy
        tidy_temp u false = h.tidy_temps u

    pub stands_object : (x : ℕ) (a v : Linear) → IsTidy v → IsOwn x a v → Stands (put f (DeltaAt x i) a) (put g (BaseAt x) v)
    unfolding definitions plan_definitions meaning_definitions
    stands_object x a v tidy o =
        record {
          temps = h.temps;
          bases = h.bases;
          deltas = λ y j q. other y j q (x == y) (i == j) q;
          own = λ y. own y (x == y) refl (i == i) same;
          tidy_temps = h.tidy_temps;
          tidy_objects = λ y. tidy_object y (x == y);
        }
      where
        same : (i == i) ≡ true
        same = grind (arith, nat_tests)

        other : (y j : ℕ) → (i == j) ≡ false → (u w : Bool) → w ≡ false → cond (u && w) a (f (DeltaAt y j)) ≡ delta_form (delta_of y j)
        other y j q true w e = ap (λ z. cond z a (f (DeltaAt y j))) e ∙ h.deltas y j q
        other y j q false w e = h.deltas y j q

        own : (y : ℕ) (u : Bool) → (x == y) ≡ u → (w : Bool) → w ≡ true → IsOwn y (cond (u && w) a (f (DeltaAt y i))) (cond u v (g (BaseAt y)))
        own y true p w e =
            let s : x ≡ y = grind (arith, nat_tests, p) in
            subst (λ z. IsOwn y (cond z a (f (DeltaAt y i))) v) (sym e) (subst (λ z. IsOwn z a v) s o)
        own y false p w e = h.own y

        tidy_object : (y : ℕ) (u : Bool) → IsTidy (cond u v (g (BaseAt y)))
        tidy_object y true = tidy
        tidy_object y false = h.tidy_objects y
