-- What a residual needs of other sites is what its command over whole objects depends on.
use Rattle.homeo_meaning.specs.Key.{definitions as meaning_definitions}
use Rattle.homeo_plan.specs.Key.{definitions as plan_definitions}
use Rattle.homeo_follow.specs.Key.{definitions}
use Rattle.std.proofs.Common.{◌≡◌, ℕ, ◌==◌, ◌<◌, Bool, true, false, cond, not, ◌||◌, ◌&&◌, List, [], ◌∷◌, ◌++◌, map, ℤ, pos, negsuc, ◌+ℤ◌, refl, sym, ap, ap₂, ◌∙◌, arith}
use Rattle.std.specs.List.{list_any}
use Rattle.std.specs.Ordering.{int_eq}
use Rattle.std.proofs.lemmas.Int.{ints}
use Rattle.std.proofs.lemmas.Bool.Decides.{nat_tests}
use Rattle.homeo_lemmas.proofs.Bools.{or_false}
use Rattle.homeo_lemmas.proofs.Integers.{minus_itself}
use Rattle.homeo_syntax.specs.declared.low.SplitName.TheVariants.{Whole, Base, Delta}
use Rattle.homeo_syntax.specs.Low.{Command, Commands, Skip, Assign, Write, Print, Seq, If, NoCommand, MoreCommand}
use Rattle.homeo_meaning.specs.LowMeaning.{BaseAt, DeltaAt, holds, exec, whole}
use Rattle.homeo_meaning.specs.Whole.{IsWhole}
use Rattle.homeo_meaning.proofs.Parts.{AreWhole}
use Rattle.homeo_plan.specs.Each.{Each}
use Rattle.homeo_plan.specs.Split.{shift_cond, shift, shift_all}
use Rattle.homeo_plan.specs.Table.{Row, test_before, otherwise, last_row, walk_before, walk_all_before}
use Rattle.homeo_plan.specs.declared.forms.Delta as plan
use Rattle.homeo_plan.specs.Linear.{AreInOrder, delta_of, same_delta, Linear, add_delta, add_deltas, deltas_of, support, add_forms, scale_form, delta_form, Forms, base_forms}
use Rattle.homeo_plan.specs.Needs.{remote, written_needs, needs_from, needs}
use Rattle.homeo_plan.specs.Template.{PlannedCall, shifted, needs_of}
use Rattle.homeo_plan.proofs.Factors.{factor, add_terms_factor, scale_terms_factor, same_delta_is}
use Rattle.homeo_plan.proofs.Tables.{row_at_walk}
use Rattle.homeo_follow.specs.Expanded.{expanded_deltas, expanded}
use Rattle.homeo_follow.specs.Follow.{holds_by, passed, failed, Followed, asked, follow, follow_all, object_form, object_forms, followed, gain, print_needs, write_needs, needed}
use Rattle.homeo_follow.proofs.Walked.{constants, holds_constant, state_after, at_base}
use Rattle.homeo_plan.proofs.DeltaLists.{each_puts, has, has_adds, any_add, or_move, in_order_adds, same_deltas}
use Rattle.homeo_follow.proofs.Deltas.{has_term, has_remote, ordered_remote, remote_puts}
use Rattle.homeo_follow.proofs.Expansions.{IsObject, IsTidy, tidy_object, tidy_scale, tidy_add, ordered_expanded, expanded_puts, expanded_add, expanded_times, expanded_support, sorted_expanded, count_expanded, support_objects, support_ordered}
use Rattle.homeo_follow.proofs.Standing.{IsOwn, own_begins, stands_at_base}
use Rattle.homeo_follow.proofs.Simulated.{Follows, follows}
use Rattle.homeo_follow.proofs.PlannedAtoms.{no_temps}

-- ---- along the row
-- the needs of prints, beside others
print_remote : ℕ → List Linear → List plan.Delta → List plan.Delta
print_remote i [] ds = ds
print_remote i (p ∷ ps) ds = add_deltas (remote i (support p)) (print_remote i ps ds)

-- the own deltas of objects put to others
put_written : ℕ → List ℕ → List plan.Delta → List plan.Delta
put_written i [] ds = ds
put_written i (x ∷ xs) ds = put_written i xs (add_delta (delta_of x i) ds)

print_append : (i : ℕ) (ps qs : List Linear) (ds : List plan.Delta) → print_remote i (ps ++ qs) ds ≡ print_remote i ps (print_remote i qs ds)
unfolding print_remote
print_append i [] qs ds = refl
print_append i (p ∷ ps) qs ds = ap (add_deltas (remote i (support p))) (print_append i ps qs ds)

put_append : (i : ℕ) (xs ys : List ℕ) (ds : List plan.Delta) → put_written i (xs ++ ys) ds ≡ put_written i ys (put_written i xs ds)
unfolding put_written
put_append i [] ys ds = refl
put_append i (x ∷ xs) ys ds = put_append i xs ys (add_delta (delta_of x i) ds)

module _ (k i : ℕ) where
  mutual
    unfolding definitions plan_definitions meaning_definitions print_remote put_written

    along :
        (c : Command) → IsWhole c → (f : Forms) (ds : List plan.Delta) (r : Row) →
        needs_from i f ds (walk_before (shift k i c) (constants f) r).residual ≡
        print_remote i (follow (shift k i c) f).prints (needs_from i (follow (shift k i c) f).forms (put_written i (follow (shift k i c) f).written ds) r.residual)
    along Skip w f ds r = refl
    along (Assign t e) w f ds r = refl
    along (Write (Whole x) e) w f ds r = refl
    along (Write (Base x) e) w f ds r = absurd w.0
    along (Write (Delta x j) e) w f ds r = absurd w.0
    along (Print e) w f ds r = refl
    along (Seq cs) w f ds r = along_all cs w f ds r
    along (If t c d) w f ds r =
        go (holds (shift_cond k t) (constants f)) (holds_by f (shift_cond k t)) (holds_constant f (shift_cond k t)) (along c w.1 f ds r) (along d w.2 f ds r)
      where
        go :
            (u v : Bool) → u ≡ v →
            needs_from i f ds (walk_before (shift k i c) (constants f) r).residual ≡
            print_remote i (follow (shift k i c) f).prints (needs_from i (follow (shift k i c) f).forms (put_written i (follow (shift k i c) f).written ds) r.residual) →
            needs_from i f ds (walk_before (shift k i d) (constants f) r).residual ≡
            print_remote i (follow (shift k i d) f).prints (needs_from i (follow (shift k i d) f).forms (put_written i (follow (shift k i d) f).written ds) r.residual) →
            needs_from i f ds
            (cond u (test_before (shift_cond k t) (walk_before (shift k i c) (constants f) r))
            (test_before (otherwise (shift_cond k t)) (walk_before (shift k i d) (constants f) r))).residual ≡
            print_remote i
            (cond v (asked (passed f (shift_cond k t)) (follow (shift k i c) f)) (asked (failed f (shift_cond k t)) (follow (shift k i d) f))).prints
            (needs_from i
            (cond v (asked (passed f (shift_cond k t)) (follow (shift k i c) f)) (asked (failed f (shift_cond k t)) (follow (shift k i d) f))).forms
            (put_written i
            (cond v (asked (passed f (shift_cond k t)) (follow (shift k i c) f)) (asked (failed f (shift_cond k t)) (follow (shift k i d) f))).written ds)
            r.residual)
        go true true e x y = x
        go true false e x y = cc
        go false true e x y = cc
        go false false e x y = y

    along_all :
        (cs : Commands) → AreWhole cs → (f : Forms) (ds : List plan.Delta) (r : Row) →
        needs_from i f ds (walk_all_before (shift_all k i cs) (constants f) r).residual ≡
        print_remote i (follow_all (shift_all k i cs) f).prints
        (needs_from i (follow_all (shift_all k i cs) f).forms (put_written i (follow_all (shift_all k i cs) f).written ds) r.residual)
    along_all NoCommand w f ds r = refl
    along_all (MoreCommand c cs) w f ds r =
        let q : Followed = follow (shift k i c) f in
        let rest : Followed = follow_all (shift_all k i cs) q.forms in
        let more : List plan.Delta = put_written i q.written ds in
        along c w.0 f ds (walk_all_before (shift_all k i cs) (exec (shift k i c) (constants f)).state r)
        ∙ ap (λ s. print_remote i q.prints (needs_from i q.forms more (walk_all_before (shift_all k i cs) s r).residual)) (state_after (shift k i c) f)
        ∙ ap (print_remote i q.prints) (along_all cs w.1 q.forms more r)
        ∙ sym (print_append i q.prints rest.prints (needs_from i rest.forms (put_written i rest.written more) r.residual))
        ∙ ap (λ l. print_remote i (q.prints ++ rest.prints) (needs_from i rest.forms l r.residual)) (sym (put_append i q.written rest.written ds))

-- ---- prints
-- in order, and at the one site
pub record AreObjects (ds : List plan.Delta) : Type 0 where
  pub objects : Each IsObject ds
  pub ordered : AreInOrder ds

objects_put : (a : Linear) (ds : List plan.Delta) → IsTidy a → AreObjects ds → AreObjects (add_deltas (support a) ds)
objects_put a ds t o =
    record { objects = each_puts IsObject (support a) ds (support_objects a t) o.objects; ordered = in_order_adds (support a) ds o.ordered }

module _ (k i : ℕ) where
  -- what other sites have of a list over whole objects
  abbrev away : List plan.Delta → List plan.Delta
  away ds = remote i (expanded_deltas k ds)

  away_put : (a : Linear) (ds : List plan.Delta) → IsTidy a → AreObjects ds → away (add_deltas (support a) ds) ≡ add_deltas (remote i (support (expanded k a))) (away ds)
  away_put a ds t o =
      ap (remote i) (expanded_puts k (support a) ds (support_objects a t) (support_ordered a t) o.objects o.ordered)
      ∙ remote_puts i (expanded_deltas k (support a)) (expanded_deltas k ds) (ordered_expanded k ds o.objects o.ordered)
      ∙ ap (λ l. add_deltas (remote i l) (away ds)) (expanded_support k a t)

  objects_printed : (ps : List Linear) (ds : List plan.Delta) → Each IsTidy ps → AreObjects ds → AreObjects (print_needs ps ds)
  unfolding definitions plan_definitions
  objects_printed [] ds t o = o
  objects_printed (p ∷ ps) ds t o = objects_put p (print_needs ps ds) t.0 (objects_printed ps ds t.1 o)

  away_printed : (ps : List Linear) (ds : List plan.Delta) → Each IsTidy ps → AreObjects ds → print_remote i (map (expanded k) ps) (away ds) ≡ away (print_needs ps ds)
  unfolding definitions plan_definitions print_remote
  away_printed [] ds t o = refl
  away_printed (p ∷ ps) ds t o =
      ap (add_deltas (remote i (support (expanded k p)))) (away_printed ps ds t.1 o)
      ∙ sym (away_put p (print_needs ps ds) t.0 (objects_printed ps ds t.1 o))

-- ---- writes
any_same : {X : Type 0} (p q : X → Bool) → ((x : X) → p x ≡ q x) → (xs : List X) → list_any p xs ≡ list_any q xs
any_same p q h [] = refl
any_same p q h (x ∷ xs) = ap₂ ◌||◌ (h x) (any_same p q h xs)

any_put : (i : ℕ) (q : plan.Delta → Bool) (xs : List ℕ) (ds : List plan.Delta) → list_any q (put_written i xs ds) ≡ (list_any (λ x. q (delta_of x i)) xs || list_any q ds)
unfolding put_written
any_put i q [] ds = refl
any_put i q (x ∷ xs) ds =
    any_put i q xs (add_delta (delta_of x i) ds)
    ∙ ap (λ b. list_any (λ x. q (delta_of x i)) xs || b) (any_add q (delta_of x i) ds)
    ∙ or_move (list_any (λ x. q (delta_of x i)) xs) (q (delta_of x i)) (list_any q ds)

has_written : (i : ℕ) (f : Forms) (e : plan.Delta) (ds : List plan.Delta) → has e (written_needs i f ds) ≡ list_any (λ x. has e (remote i (support (f (DeltaAt x.object x.site))))) ds
unfolding plan_definitions
has_written i f e [] = refl
has_written i f e (x ∷ ds) =
    has_adds e (remote i (support (f (DeltaAt x.object x.site)))) (written_needs i f ds)
    ∙ ap (λ b. has e (remote i (support (f (DeltaAt x.object x.site)))) || b) (has_written i f e ds)

ordered_written : (i : ℕ) (f : Forms) (ds : List plan.Delta) → AreInOrder (written_needs i f ds)
unfolding plan_definitions
ordered_written i f [] = tt
ordered_written i f (x ∷ ds) = in_order_adds (remote i (support (f (DeltaAt x.object x.site)))) (written_needs i f ds) (ordered_written i f ds)

tidy_gain : (n : ℤ) (x : ℕ) (v : Linear) → IsTidy v → IsTidy (gain n x v)
unfolding definitions
tidy_gain n x v t = tidy_add (scale_form (negsuc 0) (object_form n x)) v (tidy_scale (negsuc 0) (object_form n x) (tidy_object n x)) t

module _ (k i : ℕ) (inside : i < k) (b : ℕ → ℤ) where
  -- the own delta of an object depends on what the object gains, as far as other sites go
  same_factor : (x : ℕ) (a v : Linear) → IsOwn k i inside b x a v → IsTidy v → (e : plan.Delta) → (e.site == i) ≡ false → factor e (expanded k (gain (b x) x v)).terms ≡ factor e a.terms
  unfolding definitions plan_definitions
  same_factor x a v o t e away =
      let object : Linear = object_form (b x) x in
      let tidy : IsTidy object = tidy_object (b x) x in
      ap (λ (u : Linear). factor e u.terms)
      (expanded_add k (scale_form (negsuc 0) object) v (tidy_scale (negsuc 0) object tidy) t
      ∙ ap (λ u. add_forms u (expanded k v)) (expanded_times k (negsuc 0) object tidy))
      ∙ add_terms_factor (scale_form (negsuc 0) (expanded k object)).terms (expanded k v).terms e
      ∙ omega (
        arith,
        ints,
        scale_terms_factor (negsuc 0) (expanded k object).terms e,
        (own_begins k i inside b x).factors e,
        o.factors e,
        own_elsewhere,
        minus_itself (factor e (expanded k object).terms),
      )
    where
      own_elsewhere : factor e (delta_form (delta_of x i)).terms ≡ pos 0
      own_elsewhere = go (same_delta (delta_of x i) e) refl
        where
          go : (u : Bool) → same_delta (delta_of x i) e ≡ u → cond u (pos 1) (pos 0) +ℤ pos 0 ≡ pos 0
          go true q = absurd (differ (ap (λ (z : plan.Delta). z.site) (same_delta_is (delta_of x i) e q)) away)
            where
              differ : i ≡ e.site → (e.site == i) ≡ false → ⊥
              differ p q = grind (arith, nat_tests, p, q)
          go false q = refl

  same_support : (x : ℕ) (a v : Linear) → IsOwn k i inside b x a v → IsTidy v → (e : plan.Delta) →
      has e (remote i (support a)) ≡ has e (remote i (expanded_deltas k (support (gain (b x) x v))))
  unfolding definitions plan_definitions
  same_support x a v o t e =
      let g : Linear = gain (b x) x v in
      let tidy : IsTidy g = tidy_gain (b x) x v t in
      let own : has e (support a) ≡ (not (int_eq (factor e a.terms) (pos 0)) || has e a.mixed) =
      has_adds e (deltas_of a.terms) a.mixed ∙ ap (λ u. u || has e a.mixed) (has_term e a.terms o.sorted o.count) in
      let over : has e (expanded_deltas k (support g)) ≡ (not (int_eq (factor e (expanded k g).terms) (pos 0)) || has e a.mixed) =
      ap (has e) (expanded_support k g tidy)
      ∙ has_adds e (deltas_of (expanded k g).terms) (expanded k g).mixed
      ∙ ap₂ ◌||◌ (has_term e (expanded k g).terms (sorted_expanded k g.terms tidy.objects tidy.sorted) (count_expanded k g.terms tidy.count)) (sym (o.mixed e)) in
      has_remote i e (support a)
      ∙ go (e.site == i) refl (has e (support a)) (has e (expanded_deltas k (support g))) own over
      ∙ sym (has_remote i e (expanded_deltas k (support g)))
    where
      go :
          (w : Bool) → (e.site == i) ≡ w → (p q : Bool) → p ≡ (not (int_eq (factor e a.terms) (pos 0)) || has e a.mixed) →
          q ≡ (not (int_eq (factor e (expanded k (gain (b x) x v)).terms) (pos 0)) || has e a.mixed) → (not w && p) ≡ (not w && q)
      go true h p q y z = refl
      go false h p q y z = y ∙ ap (λ n. not (int_eq n (pos 0)) || has e a.mixed) (sym (same_factor x a v o t e h)) ∙ sym z

  module _ (f g : Forms) (own : (x : ℕ) → IsOwn k i inside b x (f (DeltaAt x i)) (g (BaseAt x))) (tidy : (x : ℕ) → IsTidy (g (BaseAt x))) where
    objects_written : (xs : List ℕ) → AreObjects (write_needs b g xs)
    unfolding definitions plan_definitions
    objects_written [] = record { objects = tt; ordered = tt }
    objects_written (x ∷ xs) = objects_put (gain (b x) x (g (BaseAt x))) (write_needs b g xs) (tidy_gain (b x) x (g (BaseAt x)) (tidy x)) (objects_written xs)

    has_gains : (e : plan.Delta) (xs : List ℕ) → has e (away k i (write_needs b g xs)) ≡ list_any (λ x. has e (remote i (support (f (DeltaAt x i))))) xs
    unfolding definitions plan_definitions
    has_gains e [] = refl
    has_gains e (x ∷ xs) =
        let a : Linear = gain (b x) x (g (BaseAt x)) in
        let t : IsTidy a = tidy_gain (b x) x (g (BaseAt x)) (tidy x) in
        ap (has e) (away_put k i a (write_needs b g xs) t (objects_written xs))
        ∙ has_adds e (remote i (support (expanded k a))) (away k i (write_needs b g xs))
        ∙ ap₂ ◌||◌
        (ap (λ l. has e (remote i l)) (sym (expanded_support k a t)) ∙ sym (same_support x (f (DeltaAt x i)) (g (BaseAt x)) (own x) (tidy x) e))
        (has_gains e xs)

    away_written : (xs : List ℕ) → written_needs i f (put_written i xs []) ≡ away k i (write_needs b g xs)
    unfolding plan_definitions
    away_written xs =
        let o : AreObjects (write_needs b g xs) = objects_written xs in
        same_deltas (written_needs i f (put_written i xs [])) (away k i (write_needs b g xs)) (ordered_written i f (put_written i xs []))
        (ordered_remote i (expanded_deltas k (write_needs b g xs)) (ordered_expanded k (write_needs b g xs) o.objects o.ordered))
        (λ e.
        has_written i f e (put_written i xs [])
        ∙ any_put i (λ x. has e (remote i (support (f (DeltaAt x.object x.site))))) xs []
        ∙ or_false (list_any (λ x. has e (remote i (support (f (DeltaAt x i))))) xs)
        ∙ sym (has_gains e xs))

-- ---- of a ground call
pub needs_are_followed : (k : ℕ) (b : ℕ → ℤ) (p : PlannedCall) → p.site < k → IsWhole p.command →
    needs_of k b p ≡ remote p.site (expanded_deltas k (needed b (followed b p.command)))
unfolding definitions plan_definitions
needs_are_followed k b p inside w =
    let i : ℕ = p.site in
    let r : Followed = follow (shifted k p) (base_forms b) in
    let q : Followed = followed b p.command in
    let s : Follows k i inside b r q = follows k i inside b p.command w (base_forms b) (object_forms b) (stands_at_base k i inside b) in
    ap (λ (x : Row). needs i b x.residual) (row_at_walk (shifted k p) (whole b) (no_temps b))
    ∙ ap (λ z. needs i b (walk_before (shifted k p) z last_row).residual) (at_base b)
    ∙ along k i p.command w (base_forms b) [] last_row
    ∙ ap₂ (λ ps xs. print_remote i ps (written_needs i r.forms (put_written i xs []))) s.prints.same s.written
    ∙ ap (print_remote i (map (expanded k) q.prints)) (away_written k i inside b r.forms q.forms s.forms.own s.forms.tidy_objects q.written)
    ∙ away_printed k i q.prints (write_needs b q.forms q.written) s.prints.tidy (objects_written k i inside b r.forms q.forms s.forms.own s.forms.tidy_objects q.written)

pub objects_needed : (k : ℕ) (b : ℕ → ℤ) (p : PlannedCall) → p.site < k → IsWhole p.command → AreObjects (needed b (followed b p.command))
unfolding definitions plan_definitions
objects_needed k b p inside w =
    let q : Followed = followed b p.command in
    let s : Follows k p.site inside b (follow (shifted k p) (base_forms b)) q = follows k p.site inside b p.command w (base_forms b) (object_forms b) (stands_at_base k p.site inside b) in
    objects_printed k p.site q.prints (write_needs b q.forms q.written) s.prints.tidy
    (objects_written k p.site inside b (follow (shifted k p) (base_forms b)).forms q.forms s.forms.own s.forms.tidy_objects q.written)
