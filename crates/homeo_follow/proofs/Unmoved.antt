-- The terms of what a command asks are of objects that it names: so at bases that agree on these nothing is rebased.
use Rattle.homeo_meaning.specs.Key.{definitions as meaning_definitions}
use Rattle.homeo_plan.specs.Key.{definitions as plan_definitions}
use Rattle.homeo_follow.specs.Key.{definitions}
use Rattle.std.proofs.Common.{◌≡◌, ℕ, Bool, true, false, cond, List, [], ◌∷◌, ◌++◌, map, ℤ, pos, negsuc, neg_ℤ, ◌+ℤ◌, ◌*ℤ◌, int_lt, refl, sym, ap, ap₂, ◌∙◌, arith}
use Rattle.std.proofs.lemmas.Int.{ints}
use Rattle.homeo_syntax.specs.declared.low.SplitName.{SplitName}
use Rattle.homeo_syntax.specs.declared.low.SplitName.TheVariants.{Whole, Base, Delta}
use Rattle.homeo_syntax.specs.Low.{Expr, Exprs, Literal, OfTemp, Read, Sum, Product, Neg, NoExpr, MoreExpr, Test, Cond, True, Not, Comparison, NoTest, MoreTest, Command, Commands, Skip, Assign, Write, Print, Seq, If, NoCommand, MoreCommand}
use Rattle.homeo_meaning.specs.LowMeaning.{Location, TempAt, BaseAt, DeltaAt, location_of, same_location, put}
use Rattle.homeo_plan.specs.Atoms.{difference}
use Rattle.homeo_plan.specs.Each.{Each}
use Rattle.homeo_plan.specs.declared.forms.Term.{Term}
use Rattle.homeo_plan.specs.Linear.{Linear, constant_form, add_forms, scale_form, is_pure, mix_forms, multiply_forms, Forms, form, sum_form, product_form}
use Rattle.homeo_follow.specs.Brought.{brought}
use Rattle.homeo_follow.specs.Follow.{passes_by, holds_by, passed_test, failed_test, passed, failed, Followed, asked, object_of, follow, follow_all, object_forms, followed, needed}
use Rattle.homeo_follow.specs.Named.{named_in_expr, named_in_exprs, named_in_test, named_in_cond, named, named_in_all}
use Rattle.homeo_follow.specs.Rebased.{gained, rebased_form, rebased, gains}
use Rattle.homeo_plan.proofs.Atoms.{each_append as each_parts, append_each, each_true, each_false}
use Rattle.homeo_follow.proofs.Staying.{parts_stay}
use Rattle.homeo_follow.proofs.Terms.{OfEach, each_adds, each_scale}

-- what holds of both holds of the one that is taken
either : {X : Type 0} (Q : X → Type 0) (v : Bool) (x y : X) → Q x → Q y → Q (cond v x y)
either Q true x y h k = h
either Q false x y h k = k

-- ---- where P holds of each object that a command names
module _ (P : ℕ → Type 0) where
  -- P holds of the object of each term
  abbrev IsOf : Linear → Type 0
  IsOf a = OfEach (λ e. P e.object) a.terms

  add_of : (a c : Linear) → IsOf a → IsOf c → IsOf (add_forms a c)
  unfolding plan_definitions
  add_of a c h k = each_adds (λ e. P e.object) a.terms c.terms h k

  scale_of : (n : ℤ) (a : Linear) → IsOf a → IsOf (scale_form n a)
  unfolding plan_definitions
  scale_of n a h = each_scale (λ e. P e.object) n a.terms h

  multiply_of : (a c : Linear) → IsOf a → IsOf c → IsOf (multiply_forms a c)
  unfolding plan_definitions
  multiply_of a c h k =
      either IsOf (is_pure a) (scale_form a.constant c) (cond (is_pure c) (scale_form c.constant a) (mix_forms a c)) (scale_of a.constant c k)
      (either IsOf (is_pure c) (scale_form c.constant a) (mix_forms a c) (scale_of c.constant a h) tt)

  difference_of : (a c : Linear) (n : ℤ) → IsOf a → IsOf c → IsOf (difference a c n)
  unfolding plan_definitions
  difference_of a c n h k =
      add_of (constant_form n) (add_forms a (scale_form (negsuc 0) c)) tt (add_of a (scale_form (negsuc 0) c) h (scale_of (negsuc 0) c k))

  -- ---- at each place that may be named
  abbrev MayBeNamed : Location → Type 0
  MayBeNamed (TempAt t) = Unit {0}
  MayBeNamed (BaseAt x) = P x
  MayBeNamed (DeltaAt x j) = Unit {0}

  abbrev AreOf : Forms → Type 0
  AreOf f = (p : Location) → MayBeNamed p → IsOf (f p)

  object_forms_of : (b : ℕ → ℤ) → AreOf (object_forms b)
  unfolding definitions plan_definitions
  object_forms_of b (TempAt t) h = tt
  object_forms_of b (BaseAt x) h = (h, tt)
  object_forms_of b (DeltaAt x j) h = tt

  put_of : (f : Forms) (p : Location) (a : Linear) → AreOf f → IsOf a → AreOf (put f p a)
  unfolding meaning_definitions
  put_of f p a h k q named = either IsOf (same_location p q) a (f q) k (h q named)

  name_of : (x : SplitName) → P (object_of x) → MayBeNamed (location_of x)
  unfolding definitions meaning_definitions
  name_of (Whole x) h = h
  name_of (Base x) h = h
  name_of (Delta x j) h = tt

  module _ (f : Forms) (h : AreOf f) where
    mutual
      unfolding definitions plan_definitions meaning_definitions

      form_of : (e : Expr) → Each P (named_in_expr e) → IsOf (form f e)
      form_of (Literal n) w = tt
      form_of (OfTemp t) w = h (TempAt t) tt
      form_of (Read x) w = h (location_of x) (name_of x w.0)
      form_of (Sum es) w = sum_of es (constant_form (pos 0)) w tt
      form_of (Product es) w = product_of es (constant_form (pos 1)) w tt
      form_of (Neg e) w = scale_of (negsuc 0) (form f e) (form_of e w)

      sum_of : (es : Exprs) (a : Linear) → Each P (named_in_exprs es) → IsOf a → IsOf (sum_form f a es)
      sum_of NoExpr a w k = k
      sum_of (MoreExpr e es) a w k =
          let parts = each_parts P (named_in_expr e) (named_in_exprs es) w in
          sum_of es (add_forms (form f e) a) parts.1 (add_of (form f e) a (form_of e parts.0) k)

      product_of : (es : Exprs) (a : Linear) → Each P (named_in_exprs es) → IsOf a → IsOf (product_form f a es)
      product_of NoExpr a w k = k
      product_of (MoreExpr e es) a w k =
          let parts = each_parts P (named_in_expr e) (named_in_exprs es) w in
          product_of es (multiply_forms a (form f e)) parts.1 (multiply_of a (form f e) k (form_of e parts.0))

    mutual
      unfolding definitions plan_definitions

      passed_test_of : (t : Test) → Each P (named_in_test t) → Each IsOf (passed_test f t)
      passed_test_of True w = tt
      passed_test_of (Not c) w = failed_of c w
      passed_test_of (Comparison op x y) w =
          let parts = each_parts P (named_in_expr x) (named_in_expr y) w in
          each_true IsOf difference_of op (form f x) (form f y) (form_of x parts.0) (form_of y parts.1)

      failed_test_of : (t : Test) → Each P (named_in_test t) → Each IsOf (failed_test f t)
      failed_test_of True w = tt
      failed_test_of (Not c) w = passed_of c w
      failed_test_of (Comparison op x y) w =
          let parts = each_parts P (named_in_expr x) (named_in_expr y) w in
          each_false IsOf difference_of op (int_lt (form f x).constant (form f y).constant) (form f x) (form f y) (form_of x parts.0) (form_of y parts.1)

      passed_of : (c : Cond) → Each P (named_in_cond c) → Each IsOf (passed f c)
      passed_of NoTest w = tt
      passed_of (MoreTest t c) w =
          let parts = each_parts P (named_in_test t) (named_in_cond c) w in
          append_each IsOf (passed_test f t) (passed f c) (passed_test_of t parts.0) (passed_of c parts.1)

      failed_of : (c : Cond) → Each P (named_in_cond c) → Each IsOf (failed f c)
      failed_of NoTest w = tt
      failed_of (MoreTest t c) w =
          let parts = each_parts P (named_in_test t) (named_in_cond c) w in
          either (Each IsOf) (passes_by f t) (failed f c) (failed_test f t) (failed_of c parts.1) (failed_test_of t parts.0)

  -- ---- commands
  record IsFollowedOf (r : Followed) : Type 0 where
    atoms : Each IsOf r.atoms
    forms : AreOf r.forms

  asked_of : (xs : List Linear) (r : Followed) → Each IsOf xs → IsFollowedOf r → IsFollowedOf (asked xs r)
  unfolding definitions
  asked_of xs r h s = record { atoms = append_each IsOf xs r.atoms h s.atoms; forms = s.forms }

  mutual
    unfolding definitions plan_definitions

    follow_of : (c : Command) (f : Forms) → Each P (named c) → AreOf f → IsFollowedOf (follow c f)
    follow_of Skip f w h = record { atoms = tt; forms = h }
    follow_of (Assign t e) f w h = record { atoms = tt; forms = put_of f (TempAt t) (form f e) h (form_of f h e w) }
    follow_of (Write x e) f w h = record { atoms = tt; forms = put_of f (location_of x) (form f e) h (form_of f h e w.1) }
    follow_of (Print e) f w h = record { atoms = tt; forms = h }
    follow_of (Seq cs) f w h = follow_all_of cs f w h
    follow_of (If t c d) f w h =
        let parts = each_parts P (named_in_cond t) (named c ++ named d) w in
        let both = each_parts P (named c) (named d) parts.1 in
        either IsFollowedOf (holds_by f t) (asked (passed f t) (follow c f)) (asked (failed f t) (follow d f))
        (asked_of (passed f t) (follow c f) (passed_of f h t parts.0) (follow_of c f both.0 h))
        (asked_of (failed f t) (follow d f) (failed_of f h t parts.0) (follow_of d f both.1 h))

    follow_all_of : (cs : Commands) (f : Forms) → Each P (named_in_all cs) → AreOf f → IsFollowedOf (follow_all cs f)
    follow_all_of NoCommand f w h = record { atoms = tt; forms = h }
    follow_all_of (MoreCommand c cs) f w h =
        let parts = each_parts P (named c) (named_in_all cs) w in
        let r = follow_of c f parts.0 h in
        let s = follow_all_of cs (follow c f).forms parts.1 r.forms in
        record { atoms = append_each IsOf (follow c f).atoms (follow_all cs (follow c f).forms).atoms r.atoms s.atoms; forms = s.forms }

-- ---- at two bases
module _ (b d : ℕ → ℤ) where
  abbrev Agree : ℕ → Type 0
  Agree x = b x ≡ d x

  gained_none : (ts : List Term) → OfEach (λ e. Agree e.object) ts → gained (gains b d) ts ≡ pos 0
  unfolding definitions plan_definitions
  gained_none [] h = refl
  gained_none (t ∷ ts) h = no_gain t.factor (b t.delta.object) (d t.delta.object) (gained (gains b d) ts) h.0 (gained_none ts h.1)
    where
      no_gain : (f m n z : ℤ) → m ≡ n → z ≡ pos 0 → (f *ℤ (n +ℤ neg_ℤ m)) +ℤ z ≡ pos 0
      no_gain f m n z e p = grind (arith, ints, e, p)

  unmoved : (a : Linear) → IsOf Agree a → rebased_form (gains b d) a ≡ a
  unfolding definitions
  unmoved a h = λ i. record { constant = same a.constant (gained (gains b d) a.terms) (gained_none a.terms h) i; terms = a.terms; mixed = a.mixed }
    where
      same : (n z : ℤ) → z ≡ pos 0 → n +ℤ z ≡ n
      same n z e = grind (arith, ints, e)

  all_unmoved : (fs : List Linear) → Each (IsOf Agree) fs → map (rebased_form (gains b d)) fs ≡ fs
  unfolding plan_definitions
  all_unmoved [] h = refl
  all_unmoved (a ∷ fs) h = ap₂ ◌∷◌ (unmoved a h.0) (all_unmoved fs h.1)

  pub parts_rebased : (c : Command) → Each Agree (named c) → brought d c ≡ rebased (gains b d) (brought b c)
  unfolding definitions
  parts_rebased c w =
      sym (parts_stay b d c w)
      ∙ ap (λ atoms. record { atoms = atoms; needs = needed b (followed b c) })
      (sym (all_unmoved (followed b c).atoms (follow_of Agree c (object_forms b) w (object_forms_of Agree b)).atoms))
