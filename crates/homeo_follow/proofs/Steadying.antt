-- Where the atoms of what a steady command brings at one base hold of what the objects gained to another, it brings there the same, rebased.
use Rattle.homeo_meaning.specs.Key.{definitions as meaning_definitions}
use Rattle.homeo_plan.specs.Key.{definitions as plan_definitions}
use Rattle.homeo_follow.specs.Key.{definitions}
use Rattle.std.proofs.Common.{◌≡◌, ℕ, Bool, true, false, cond, not, ◌&&◌, List, [], ◌∷◌, ◌++◌, map, ℤ, pos, negsuc, ◌+ℤ◌, ◌*ℤ◌, int_lt, refl, sym, ap, ap₂, ◌∙◌, subst, true≢false, arith}
use Rattle.std.proofs.lemmas.Int.{ints}
use Rattle.std.proofs.lemmas.Bool.{and_parts, not-true, not-false}
use Rattle.std.proofs.lemmas.List.{map-append}
use Rattle.homeo_syntax.specs.declared.phrase.Compare.{Compare}
use Rattle.homeo_syntax.specs.declared.phrase.Compare.TheVariants.{Less, LessEqual, Equal}
use Rattle.homeo_syntax.specs.Low.{Expr, Exprs, Literal, OfTemp, Read, Sum, Product, Neg, NoExpr, MoreExpr, Test, Cond, True, Not, Comparison, NoTest, MoreTest, Command, Commands, Skip, Assign, Write, Print, Seq, If, NoCommand, MoreCommand}
use Rattle.homeo_meaning.specs.LowMeaning.{Location, TempAt, BaseAt, DeltaAt, State, location_of, same_location, put}
use Rattle.homeo_plan.specs.Atoms.{difference, true_comparison, false_comparison}
use Rattle.homeo_plan.specs.Each.{Each}
use Rattle.homeo_plan.specs.Holding.{AtomHolds}
use Rattle.homeo_plan.specs.Linear.{Linear, add_terms, add_deltas, scale_terms, deltas_of, constant_form, add_forms, scale_form, is_empty, is_pure, support, mix_forms, multiply_forms, Forms, form, sum_form, product_form, terms_value}
use Rattle.homeo_plan.specs.Tracking.{Is}
use Rattle.homeo_plan.specs.declared.forms.Delta.{Delta}
use Rattle.homeo_plan.specs.declared.forms.Term.{Term}
use Rattle.homeo_plan.proofs.Atoms.{each_append, true_comparison_holds}
use Rattle.homeo_plan.proofs.Tracked.{is_pure_value, is_add, is_scale, is_multiply}
use Rattle.homeo_follow.specs.Brought.{brought}
use Rattle.homeo_follow.specs.Follow.{passes_by, holds_by, passed_test, failed_test, passed, failed, Followed, asked, follow, follow_all, own_state, object_form, object_forms, followed, gain, print_needs, write_needs}
use Rattle.homeo_follow.specs.Rebased.{gained, rebased_form, rebased, gains}
use Rattle.homeo_follow.specs.Steady.{IsSteadyTest, IsSteadyCond, IsSteady, AreSteady}
use Rattle.homeo_follow.proofs.Outcomes.{AllAre, passed_test_holds, failed_test_holds, passed_holds, failed_holds}
use Rattle.homeo_follow.proofs.Walked.{constants, product_constant_is, passes_constant, holds_constant}

pub gained_is : (g : ℕ → ℤ) (ts : List Term) → gained g ts ≡ terms_value ts (own_state g)
unfolding definitions plan_definitions
gained_is g [] = refl
gained_is g (t ∷ ts) = ap (λ z. (t.factor *ℤ g t.delta.object) +ℤ z) (gained_is g ts)

module _ (b d : ℕ → ℤ) where
  abbrev gain_state : State
  gain_state = own_state (gains b d)

  -- a form and what it is at the other base: of its mixed deltas nothing is known but where they gain nothing
  record Moved (a c : Linear) : Type 0 where
    terms : c.terms ≡ a.terms
    mixed : c.mixed ≡ a.mixed
    constant : Is a gain_state c.constant

  abbrev AllMoved : Forms → Forms → Type 0
  AllMoved f h = (p : Location) → Moved (f p) (h p)

  moved_constant : (n : ℤ) → Moved (constant_form n) (constant_form n)
  unfolding plan_definitions
  moved_constant n = record { terms = refl; mixed = refl; constant = λ k. omega (arith, ints) }

  moved_add : (a c x y : Linear) → Moved a x → Moved c y → Moved (add_forms a c) (add_forms x y)
  unfolding plan_definitions
  moved_add a c x y m n =
      record {
        terms = ap₂ add_terms m.terms n.terms;
        mixed = ap₂ add_deltas m.mixed n.mixed;
        constant = is_add a c gain_state x.constant y.constant m.constant n.constant;
      }

  moved_scale : (n : ℤ) (a x : Linear) → Moved a x → Moved (scale_form n a) (scale_form n x)
  unfolding plan_definitions
  moved_scale n a x m =
      record { terms = ap (scale_terms n) m.terms; mixed = m.mixed; constant = is_scale n a gain_state x.constant m.constant }

  -- the same deltas
  record Alike (a c : Linear) : Type 0 where
    terms : c.terms ≡ a.terms
    mixed : c.mixed ≡ a.mixed

  alike_scale : (n : ℤ) (m : ℤ) (a x : Linear) → m ≡ n → Moved a x → Alike (scale_form n a) (scale_form m x)
  unfolding plan_definitions
  alike_scale n m a x e h = record { terms = ap₂ scale_terms e h.terms; mixed = h.mixed }

  supports : (a x : Linear) → Moved a x → support x ≡ support a
  unfolding plan_definitions
  supports a x m = ap₂ (λ ts ds. add_deltas (deltas_of ts) ds) m.terms m.mixed

  alike_multiply : (a c x y : Linear) → Moved a x → Moved c y → Alike (multiply_forms a c) (multiply_forms x y)
  unfolding plan_definitions
  alike_multiply a c x y m n =
      subst (Alike (multiply_forms a c))
      (sym (ap₂ (λ u v. cond u (scale_form x.constant y) (cond v (scale_form y.constant x) (mix_forms x y))) (same_pure a x m) (same_pure c y n)))
      (go (is_pure a) refl (is_pure c) refl)
    where
      same_pure : (p q : Linear) → Moved p q → is_pure q ≡ is_pure p
      same_pure p q h = ap₂ (λ ts ds. is_empty ts && is_empty ds) h.terms h.mixed

      go :
          (u : Bool) → is_pure a ≡ u → (v : Bool) → is_pure c ≡ v →
          Alike (cond u (scale_form a.constant c) (cond v (scale_form c.constant a) (mix_forms a c)))
          (cond u (scale_form x.constant y) (cond v (scale_form y.constant x) (mix_forms x y)))
      go true p v q = alike_scale a.constant x.constant c y (is_pure_value a gain_state x.constant p m.constant) n
      go false p true q = alike_scale c.constant y.constant a x (is_pure_value c gain_state y.constant q n.constant) m
      go false p false q = record { terms = refl; mixed = ap₂ add_deltas (supports a x m) (supports c y n) }

  moved_multiply : (a c x y : Linear) → Moved a x → Moved c y → Moved (multiply_forms a c) (multiply_forms x y)
  moved_multiply a c x y m n =
      let same = alike_multiply a c x y m n in
      record {
        terms = same.terms;
        mixed = same.mixed;
        constant =
            subst (Is (multiply_forms a c) gain_state) (sym (product_constant_is x y))
            (is_multiply a c gain_state x.constant y.constant m.constant n.constant);
      }

  moved_difference : (a c x y : Linear) (n : ℤ) → Moved a x → Moved c y → Moved (difference a c n) (difference x y n)
  unfolding plan_definitions
  moved_difference a c x y n h k =
      moved_add (constant_form n) (add_forms a (scale_form (negsuc 0) c)) (constant_form n) (add_forms x (scale_form (negsuc 0) y)) (moved_constant n)
      (moved_add a (scale_form (negsuc 0) c) x (scale_form (negsuc 0) y) h (moved_scale (negsuc 0) c y k))

  -- ---- an atom that holds there is rebased
  abbrev Holds : Linear → Type 0
  Holds a = AtomHolds gain_state a

  abbrev moved_form : Linear → Linear
  moved_form a = rebased_form (gains b d) a

  rebased_there : (a x : Linear) → Moved a x → Holds a → x ≡ moved_form a
  unfolding definitions plan_definitions
  rebased_there a x m h = λ i. record { constant = constant i; terms = m.terms i; mixed = m.mixed i }
    where
      constant : x.constant ≡ a.constant +ℤ gained (gains b d) a.terms
      constant = m.constant h.mixed ∙ ap (λ z. a.constant +ℤ z) (sym (gained_is (gains b d) a.terms))

  apart_rebased : (a c x y : Linear) (n : ℤ) → Moved a x → Moved c y → Holds (difference a c n) → difference x y n ≡ moved_form (difference a c n)
  apart_rebased a c x y n m k h = rebased_there (difference a c n) (difference x y n) (moved_difference a c x y n m k) h

  true_rebased :
      (op : Compare) (a c x y : Linear) → Moved a x → Moved c y → Each Holds (true_comparison op a c) →
      true_comparison op x y ≡ map moved_form (true_comparison op a c)
  unfolding plan_definitions
  true_rebased Less a c x y m k h = ap (λ z. z ∷ []) (apart_rebased a c x y (pos 1) m k h.0)
  true_rebased LessEqual a c x y m k h = ap (λ z. z ∷ []) (apart_rebased a c x y (pos 0) m k h.0)
  true_rebased Equal a c x y m k h =
      ap₂ (λ z w. z ∷ w ∷ []) (apart_rebased a c x y (pos 0) m k h.0) (apart_rebased c a y x (pos 0) k m h.1.0)

  -- which side is less
  less_there : (a c x y : Linear) → Moved a x → Moved c y → Holds (difference a c (pos 1)) → int_lt x.constant y.constant ≡ true
  unfolding plan_definitions meaning_definitions
  less_there a c x y m k h = true_comparison_holds Less a c gain_state x.constant y.constant m.constant k.constant (h, tt)

  not_less : (m n : ℤ) → int_lt n m ≡ true → int_lt m n ≡ false
  not_less m n h = grind (arith, ints, h)

  false_rebased :
      (op : Compare) (a c x y : Linear) → Moved a x → Moved c y →
      Each Holds (false_comparison op (int_lt a.constant c.constant) a c) →
      false_comparison op (int_lt x.constant y.constant) x y ≡ map moved_form (false_comparison op (int_lt a.constant c.constant) a c)
  unfolding plan_definitions
  false_rebased Less a c x y m k h = ap (λ z. z ∷ []) (apart_rebased c a y x (pos 0) k m h.0)
  false_rebased LessEqual a c x y m k h = ap (λ z. z ∷ []) (apart_rebased c a y x (pos 1) k m h.0)
  false_rebased Equal a c x y m k h = go (int_lt a.constant c.constant) h
    where
      go :
          (v : Bool) → Each Holds (cond v (difference a c (pos 1)) (difference c a (pos 1)) ∷ []) →
          cond (int_lt x.constant y.constant) (difference x y (pos 1)) (difference y x (pos 1)) ∷ [] ≡
          moved_form (cond v (difference a c (pos 1)) (difference c a (pos 1))) ∷ []
      go true h =
          ap (λ v. cond v (difference x y (pos 1)) (difference y x (pos 1)) ∷ []) (less_there a c x y m k h.0)
          ∙ ap (λ z. z ∷ []) (apart_rebased a c x y (pos 1) m k h.0)
      go false h =
          ap (λ v. cond v (difference x y (pos 1)) (difference y x (pos 1)) ∷ [])
          (not_less x.constant y.constant (less_there c a y x k m h.0))
          ∙ ap (λ z. z ∷ []) (apart_rebased c a y x (pos 1) k m h.0)

  module _ (f h : Forms) (m : AllMoved f h) where
    mutual
      unfolding definitions plan_definitions meaning_definitions

      form_moved : (e : Expr) → Moved (form f e) (form h e)
      form_moved (Literal n) = moved_constant n
      form_moved (OfTemp t) = m (TempAt t)
      form_moved (Read x) = m (location_of x)
      form_moved (Sum es) = sum_moved es (constant_form (pos 0)) (constant_form (pos 0)) (moved_constant (pos 0))
      form_moved (Product es) = product_moved es (constant_form (pos 1)) (constant_form (pos 1)) (moved_constant (pos 1))
      form_moved (Neg e) = moved_scale (negsuc 0) (form f e) (form h e) (form_moved e)

      sum_moved : (es : Exprs) (a x : Linear) → Moved a x → Moved (sum_form f a es) (sum_form h x es)
      sum_moved NoExpr a x k = k
      sum_moved (MoreExpr e es) a x k =
          sum_moved es (add_forms (form f e) a) (add_forms (form h e) x) (moved_add (form f e) a (form h e) x (form_moved e) k)

      product_moved : (es : Exprs) (a x : Linear) → Moved a x → Moved (product_form f a es) (product_form h x es)
      product_moved NoExpr a x k = k
      product_moved (MoreExpr e es) a x k =
          product_moved es (multiply_forms a (form f e)) (multiply_forms x (form h e)) (moved_multiply a (form f e) x (form h e) k (form_moved e))

    -- ---- tests come out there as here
    are : AllAre gain_state f (constants h)
    are p = (m p).constant

    passes_there : (t : Test) → passes_by f t ≡ true → Each Holds (passed_test f t) → passes_by h t ≡ true
    passes_there t e k = sym (passes_constant h t) ∙ passed_test_holds gain_state f (constants h) are t e k

    fails_there : (t : Test) → passes_by f t ≡ false → Each Holds (failed_test f t) → passes_by h t ≡ false
    fails_there t e k = sym (passes_constant h t) ∙ failed_test_holds gain_state f (constants h) are t e k

    holds_there : (c : Cond) → holds_by f c ≡ true → Each Holds (passed f c) → holds_by h c ≡ true
    holds_there c e k = sym (holds_constant h c) ∙ passed_holds gain_state f (constants h) are c e k

    misses_there : (c : Cond) → holds_by f c ≡ false → Each Holds (failed f c) → holds_by h c ≡ false
    misses_there c e k = sym (holds_constant h c) ∙ failed_holds gain_state f (constants h) are c e k

    mutual
      unfolding definitions

      passed_test_moved : (t : Test) → IsSteadyTest t → passes_by f t ≡ true → Each Holds (passed_test f t) → passed_test h t ≡ map moved_form (passed_test f t)
      passed_test_moved True s e k = refl
      passed_test_moved (Not c) s e k = failed_moved c s (not-true (holds_by f c) e) k
      passed_test_moved (Comparison op x y) s e k = true_rebased op (form f x) (form f y) (form h x) (form h y) (form_moved x) (form_moved y) k

      failed_test_moved : (t : Test) → IsSteadyTest t → passes_by f t ≡ false → Each Holds (failed_test f t) → failed_test h t ≡ map moved_form (failed_test f t)
      failed_test_moved True s e k = refl
      failed_test_moved (Not c) s e k = passed_moved c s (not-false (holds_by f c) e) k
      failed_test_moved (Comparison op x y) s e k = false_rebased op (form f x) (form f y) (form h x) (form h y) (form_moved x) (form_moved y) k

      passed_moved : (c : Cond) → IsSteadyCond c → holds_by f c ≡ true → Each Holds (passed f c) → passed h c ≡ map moved_form (passed f c)
      passed_moved NoTest s e k = refl
      passed_moved (MoreTest t c) s e k =
          let parts = each_append Holds (passed_test f t) (passed f c) k in
          let both = and_parts (passes_by f t) (holds_by f c) e in
          ap₂ ◌++◌ (passed_test_moved t s.0 both.0 parts.0) (passed_moved c s.1 both.1 parts.1)
          ∙ sym (map-append moved_form (passed_test f t) (passed f c))

      failed_moved : (c : Cond) → IsSteadyCond c → holds_by f c ≡ false → Each Holds (failed f c) → failed h c ≡ map moved_form (failed f c)
      failed_moved NoTest s e k = absurd (true≢false e)
      failed_moved (MoreTest t c) s e k =
          first_fails (passes_by f t) refl (failed_moved c s.1) (failed_test_moved t s.0) e k
        where
          first_fails :
              (v : Bool) → passes_by f t ≡ v →
              (holds_by f c ≡ false → Each Holds (failed f c) → failed h c ≡ map moved_form (failed f c)) →
              (passes_by f t ≡ false → Each Holds (failed_test f t) → failed_test h t ≡ map moved_form (failed_test f t)) →
              (v && holds_by f c) ≡ false → Each Holds (cond v (failed f c) (failed_test f t)) →
              cond (passes_by h t) (failed h c) (failed_test h t) ≡ map moved_form (cond v (failed f c) (failed_test f t))
          first_fails true q more one e k =
              ap (λ v. cond v (failed h c) (failed_test h t)) (s.2 h (misses_there c e k)) ∙ more e k
          first_fails false q more one e k =
              ap (λ v. cond v (failed h c) (failed_test h t)) (fails_there t q k) ∙ one q k

  -- ---- commands
  -- the atoms are rebased, the same is needed for the prints, the same is written, and the forms are moved
  record IsMoved (r q : Followed) : Type 0 where
    atoms : q.atoms ≡ map moved_form r.atoms
    prints : (ds : List Delta) → print_needs q.prints ds ≡ print_needs r.prints ds
    written : q.written ≡ r.written
    forms : AllMoved r.forms q.forms

  put_moved : (f h : Forms) (p : Location) (a x : Linear) → AllMoved f h → Moved a x → AllMoved (put f p a) (put h p x)
  unfolding meaning_definitions
  put_moved f h p a x m k q = go (same_location p q)
    where
      go : (v : Bool) → Moved (cond v a (f q)) (cond v x (h q))
      go true = k
      go false = m q

  asked_moved : (xs ys : List Linear) (r q : Followed) → ys ≡ map moved_form xs → IsMoved r q → IsMoved (asked xs r) (asked ys q)
  unfolding definitions
  asked_moved xs ys r q e m =
      record {
        atoms = ap₂ ◌++◌ e m.atoms ∙ sym (map-append moved_form xs r.atoms);
        prints = m.prints;
        written = m.written;
        forms = m.forms;
      }

  printed_after : (ps qs : List Linear) (ds : List Delta) → print_needs (ps ++ qs) ds ≡ print_needs ps (print_needs qs ds)
  unfolding definitions
  printed_after [] qs ds = refl
  printed_after (p ∷ ps) qs ds = ap (add_deltas (support p)) (printed_after ps qs ds)

  mutual
    unfolding definitions plan_definitions

    follow_moved : (c : Command) → IsSteady c → (f h : Forms) → AllMoved f h → Each Holds (follow c f).atoms → IsMoved (follow c f) (follow c h)
    follow_moved Skip s f h m k = record { atoms = refl; prints = λ ds. refl; written = refl; forms = m }
    follow_moved (Assign t e) s f h m k =
        record { atoms = refl; prints = λ ds. refl; written = refl; forms = put_moved f h (TempAt t) (form f e) (form h e) m (form_moved f h m e) }
    follow_moved (Write x e) s f h m k =
        record { atoms = refl; prints = λ ds. refl; written = refl; forms = put_moved f h (location_of x) (form f e) (form h e) m (form_moved f h m e) }
    follow_moved (Print e) s f h m k =
        record {
          atoms = refl;
          prints = λ ds. ap (λ l. add_deltas l ds) (supports (form f e) (form h e) (form_moved f h m e));
          written = refl;
          forms = m;
        }
    follow_moved (Seq cs) s f h m k = follow_all_moved cs s f h m k
    follow_moved (If t c e) s f h m k = go (holds_by f t) refl (follow_moved c s.1 f h m) (follow_moved e s.2 f h m) k
      where
        go :
            (v : Bool) → holds_by f t ≡ v → (Each Holds (follow c f).atoms → IsMoved (follow c f) (follow c h)) →
            (Each Holds (follow e f).atoms → IsMoved (follow e f) (follow e h)) →
            Each Holds (cond v (asked (passed f t) (follow c f)) (asked (failed f t) (follow e f))).atoms →
            IsMoved (cond v (asked (passed f t) (follow c f)) (asked (failed f t) (follow e f)))
            (cond (holds_by h t) (asked (passed h t) (follow c h)) (asked (failed h t) (follow e h)))
        go true q left right k =
            let parts = each_append Holds (passed f t) (follow c f).atoms k in
            subst (λ v. IsMoved (asked (passed f t) (follow c f)) (cond v (asked (passed h t) (follow c h)) (asked (failed h t) (follow e h))))
            (sym (holds_there f h m t q parts.0))
            (asked_moved (passed f t) (passed h t) (follow c f) (follow c h) (passed_moved f h m t s.0 q parts.0) (left parts.1))
        go false q left right k =
            let parts = each_append Holds (failed f t) (follow e f).atoms k in
            subst (λ v. IsMoved (asked (failed f t) (follow e f)) (cond v (asked (passed h t) (follow c h)) (asked (failed h t) (follow e h))))
            (sym (misses_there f h m t q parts.0))
            (asked_moved (failed f t) (failed h t) (follow e f) (follow e h) (failed_moved f h m t s.0 q parts.0) (right parts.1))

    follow_all_moved :
        (cs : Commands) → AreSteady cs → (f h : Forms) → AllMoved f h → Each Holds (follow_all cs f).atoms → IsMoved (follow_all cs f) (follow_all cs h)
    follow_all_moved NoCommand s f h m k = record { atoms = refl; prints = λ ds. refl; written = refl; forms = m }
    follow_all_moved (MoreCommand c cs) s f h m k =
        let parts = each_append Holds (follow c f).atoms (follow_all cs (follow c f).forms).atoms k in
        let one = follow_moved c s.0 f h m parts.0 in
        let rest = follow_all_moved cs s.1 (follow c f).forms (follow c h).forms one.forms parts.1 in
        record {
          atoms = ap₂ ◌++◌ one.atoms rest.atoms ∙ sym (map-append moved_form (follow c f).atoms (follow_all cs (follow c f).forms).atoms);
          prints = λ ds.
              printed_after (follow c h).prints (follow_all cs (follow c h).forms).prints ds
              ∙ ap (print_needs (follow c h).prints) (rest.prints ds)
              ∙ one.prints (print_needs (follow_all cs (follow c f).forms).prints ds)
              ∙ sym (printed_after (follow c f).prints (follow_all cs (follow c f).forms).prints ds);
          written = ap₂ ◌++◌ one.written rest.written;
          forms = rest.forms;
        }

  -- ---- needs
  gains_moved : (f h : Forms) → AllMoved f h → (xs : List ℕ) → write_needs d h xs ≡ write_needs b f xs
  unfolding definitions plan_definitions
  gains_moved f h m [] = refl
  gains_moved f h m (x ∷ xs) = ap₂ add_deltas (needed_alike x (f (BaseAt x)) (h (BaseAt x)) (m (BaseAt x))) (gains_moved f h m xs)
    where
      needed_alike : (x : ℕ) (a c : Linear) → Moved a c → support (gain (d x) x c) ≡ support (gain (b x) x a)
      needed_alike x a c m =
          ap₂ (λ ts ds. add_deltas (deltas_of (add_terms (scale_terms (negsuc 0) (object_form (b x) x).terms) ts)) ds) m.terms m.mixed

  begins_moved : AllMoved (object_forms b) (object_forms d)
  unfolding definitions plan_definitions
  begins_moved (TempAt t) = moved_constant (pos 0)
  begins_moved (BaseAt x) = record { terms = refl; mixed = refl; constant = λ k. omega (arith, ints) }
  begins_moved (DeltaAt x j) = moved_constant (pos 0)

  pub part_moves : (c : Command) → IsSteady c → Each (AtomHolds (own_state (gains b d))) (followed b c).atoms → brought d c ≡ rebased (gains b d) (brought b c)
  unfolding definitions
  part_moves c s k =
      let m = follow_moved c s (object_forms b) (object_forms d) begins_moved k in
      let needs = m.prints (write_needs d (followed d c).forms (followed d c).written) ∙ ap (print_needs (followed b c).prints)
      (ap (write_needs d (followed d c).forms) m.written ∙ gains_moved (followed b c).forms (followed d c).forms m.forms (followed b c).written) in
      ap₂ (λ atoms needs. record { atoms = atoms; needs = needs }) m.atoms needs
