-- What a command brings to a plan is the same at two bases that agree on the objects that it names.
use Rattle.homeo_meaning.specs.Key.{definitions as meaning_definitions}
use Rattle.homeo_plan.specs.Key.{definitions as plan_definitions}
use Rattle.homeo_follow.specs.Key.{definitions}
use Rattle.std.proofs.Common.{◌≡◌, ℕ, Bool, true, false, cond, not, ◌&&◌, List, [], ◌∷◌, ◌++◌, ℤ, pos, negsuc, int_lt, refl, ap, ap₂, ◌∙◌}
use Rattle.homeo_syntax.specs.declared.low.SplitName.{SplitName}
use Rattle.homeo_syntax.specs.declared.low.SplitName.TheVariants.{Whole, Base, Delta}
use Rattle.homeo_syntax.specs.Low.{Expr, Exprs, Literal, OfTemp, Read, Sum, Product, Neg, NoExpr, MoreExpr, Test, Cond, True, Not, Comparison, NoTest, MoreTest, Command, Commands, Skip, Assign, Write, Print, Seq, If, NoCommand, MoreCommand}
use Rattle.homeo_meaning.specs.LowMeaning.{Location, TempAt, BaseAt, DeltaAt, location_of, same_location, put}
use Rattle.homeo_meaning.specs.Meaning.{compared}
use Rattle.homeo_plan.specs.Atoms.{true_comparison, false_comparison}
use Rattle.homeo_plan.specs.Each.{Each}
use Rattle.homeo_plan.specs.Linear.{Linear, add_deltas, support, constant_form, add_forms, scale_form, multiply_forms, Forms, form, sum_form, product_form}
use Rattle.homeo_follow.specs.Brought.{brought}
use Rattle.homeo_follow.specs.Follow.{passes_by, holds_by, passed_test, failed_test, passed, failed, Followed, asked, object_of, follow, follow_all, object_form, object_forms, followed, gain, print_needs, write_needs}
use Rattle.homeo_follow.specs.Named.{named_in_expr, named_in_exprs, named_in_test, named_in_cond, named, named_in_all}
use Rattle.homeo_plan.proofs.Atoms.{each_append as each_parts, append_each}

module _ (b d : ℕ → ℤ) where
  -- the bases agree on the object
  abbrev Agree : ℕ → Type 0
  Agree x = b x ≡ d x

  -- forms that are the same but for the objects on which the bases don't agree
  record Alike (f g : Forms) : Type 0 where
    temps : (t : _) → f (TempAt t) ≡ g (TempAt t)
    objects : (x : ℕ) → Agree x → f (BaseAt x) ≡ g (BaseAt x)
    deltas : (x j : ℕ) → f (DeltaAt x j) ≡ g (DeltaAt x j)

  alike_at_bases : Alike (object_forms b) (object_forms d)
  unfolding definitions
  alike_at_bases = record { temps = λ t. refl; objects = λ x e. ap (λ n. object_form n x) e; deltas = λ x j. refl }

  alike_put : (f g : Forms) (p : Location) (a c : Linear) → Alike f g → a ≡ c → Alike (put f p a) (put g p c)
  unfolding meaning_definitions
  alike_put f g p a c h e =
      record {
        temps = λ t. ap₂ (cond (same_location p (TempAt t))) e (h.temps t);
        objects = λ x agree. ap₂ (cond (same_location p (BaseAt x))) e (h.objects x agree);
        deltas = λ x j. ap₂ (cond (same_location p (DeltaAt x j))) e (h.deltas x j);
      }

  module _ (f g : Forms) (h : Alike f g) where
    name_same : (x : SplitName) → Agree (object_of x) → f (location_of x) ≡ g (location_of x)
    unfolding definitions meaning_definitions
    name_same (Whole x) e = h.objects x e
    name_same (Base x) e = h.objects x e
    name_same (Delta x j) e = h.deltas x j

    mutual
      unfolding definitions plan_definitions meaning_definitions

      form_same : (e : Expr) → Each Agree (named_in_expr e) → form f e ≡ form g e
      form_same (Literal n) w = refl
      form_same (OfTemp t) w = h.temps t
      form_same (Read x) w = name_same x w.0
      form_same (Sum es) w = sum_same es w (constant_form (pos 0)) (constant_form (pos 0)) refl
      form_same (Product es) w = product_same es w (constant_form (pos 1)) (constant_form (pos 1)) refl
      form_same (Neg e) w = ap (scale_form (negsuc 0)) (form_same e w)

      sum_same : (es : Exprs) → Each Agree (named_in_exprs es) → (a c : Linear) → a ≡ c → sum_form f a es ≡ sum_form g c es
      sum_same NoExpr w a c p = p
      sum_same (MoreExpr e es) w a c p =
          sum_same es (each_parts Agree (named_in_expr e) (named_in_exprs es) w).1 (add_forms (form f e) a) (add_forms (form g e) c)
          (ap₂ add_forms (form_same e (each_parts Agree (named_in_expr e) (named_in_exprs es) w).0) p)

      product_same : (es : Exprs) → Each Agree (named_in_exprs es) → (a c : Linear) → a ≡ c → product_form f a es ≡ product_form g c es
      product_same NoExpr w a c p = p
      product_same (MoreExpr e es) w a c p =
          product_same es (each_parts Agree (named_in_expr e) (named_in_exprs es) w).1 (multiply_forms a (form f e)) (multiply_forms c (form g e))
          (ap₂ multiply_forms p (form_same e (each_parts Agree (named_in_expr e) (named_in_exprs es) w).0))

    -- both sides of a comparison
    record Sides (x y : Expr) : Type 0 where
      left : form f x ≡ form g x
      right : form f y ≡ form g y

    sides : (x y : Expr) → Each Agree (named_in_expr x ++ named_in_expr y) → Sides x y
    sides x y w =
        record {
          left = form_same x (each_parts Agree (named_in_expr x) (named_in_expr y) w).0;
          right = form_same y (each_parts Agree (named_in_expr x) (named_in_expr y) w).1;
        }

    -- ---- tests
    mutual
      unfolding definitions

      passes_same : (t : Test) → Each Agree (named_in_test t) → passes_by f t ≡ passes_by g t
      passes_same True w = refl
      passes_same (Not c) w = ap not (holds_same c w)
      passes_same (Comparison op x y) w =
          let s = sides x y w in ap₂ (λ (a c : Linear). compared op a.constant c.constant) s.left s.right

      holds_same : (c : Cond) → Each Agree (named_in_cond c) → holds_by f c ≡ holds_by g c
      holds_same NoTest w = refl
      holds_same (MoreTest t c) w =
          ap₂ ◌&&◌ (passes_same t (each_parts Agree (named_in_test t) (named_in_cond c) w).0)
          (holds_same c (each_parts Agree (named_in_test t) (named_in_cond c) w).1)

    mutual
      unfolding definitions

      passed_test_same : (t : Test) → Each Agree (named_in_test t) → passed_test f t ≡ passed_test g t
      passed_test_same True w = refl
      passed_test_same (Not c) w = failed_same c w
      passed_test_same (Comparison op x y) w = let s = sides x y w in ap₂ (true_comparison op) s.left s.right

      failed_test_same : (t : Test) → Each Agree (named_in_test t) → failed_test f t ≡ failed_test g t
      failed_test_same True w = refl
      failed_test_same (Not c) w = passed_same c w
      failed_test_same (Comparison op x y) w =
          let s = sides x y w in ap₂ (λ (a c : Linear). false_comparison op (int_lt a.constant c.constant) a c) s.left s.right

      passed_same : (c : Cond) → Each Agree (named_in_cond c) → passed f c ≡ passed g c
      passed_same NoTest w = refl
      passed_same (MoreTest t c) w =
          ap₂ ◌++◌ (passed_test_same t (each_parts Agree (named_in_test t) (named_in_cond c) w).0)
          (passed_same c (each_parts Agree (named_in_test t) (named_in_cond c) w).1)

      failed_same : (c : Cond) → Each Agree (named_in_cond c) → failed f c ≡ failed g c
      failed_same NoTest w = refl
      failed_same (MoreTest t c) w =
          let first = (each_parts Agree (named_in_test t) (named_in_cond c) w).0 in
          ap (λ u. cond u (failed f c) (failed_test f t)) (passes_same t first)
          ∙ ap₂ (cond (passes_by g t)) (failed_same c (each_parts Agree (named_in_test t) (named_in_cond c) w).1) (failed_test_same t first)

  -- ---- commands
  -- the same is asked, printed and written, the bases agree on what is written, and the forms are alike
  record Same (r q : Followed) : Type 0 where
    atoms : r.atoms ≡ q.atoms
    prints : r.prints ≡ q.prints
    written : r.written ≡ q.written
    agree : Each Agree r.written
    forms : Alike r.forms q.forms

  same_asked : (xs ys : List Linear) (r q : Followed) → xs ≡ ys → Same r q → Same (asked xs r) (asked ys q)
  unfolding definitions
  same_asked xs ys r q e s =
      record { atoms = ap₂ ◌++◌ e s.atoms; prints = s.prints; written = s.written; agree = s.agree; forms = s.forms }

  same_branch :
      (u v : Bool) (xs ys zs ws : List Linear) (r q s o : Followed) → u ≡ v → xs ≡ ys → zs ≡ ws → Same r q → Same s o →
      Same (cond u (asked xs r) (asked zs s)) (cond v (asked ys q) (asked ws o))
  same_branch true true xs ys zs ws r q s o e p m x y = same_asked xs ys r q p x
  same_branch true false xs ys zs ws r q s o e p m x y = cc
  same_branch false true xs ys zs ws r q s o e p m x y = cc
  same_branch false false xs ys zs ws r q s o e p m x y = same_asked zs ws s o m y

  mutual
    unfolding definitions plan_definitions

    follow_same : (c : Command) → Each Agree (named c) → (f g : Forms) → Alike f g → Same (follow c f) (follow c g)
    follow_same Skip w f g h = record { atoms = refl; prints = refl; written = refl; agree = tt; forms = h }
    follow_same (Assign t e) w f g h =
        record {
          atoms = refl;
          prints = refl;
          written = refl;
          agree = tt;
          forms = alike_put f g (TempAt t) (form f e) (form g e) h (form_same f g h e w);
        }
    follow_same (Write x e) w f g h =
        record {
          atoms = refl;
          prints = refl;
          written = refl;
          agree = (w.0, tt);
          forms = alike_put f g (location_of x) (form f e) (form g e) h (form_same f g h e w.1);
        }
    follow_same (Print e) w f g h =
        record { atoms = refl; prints = ap (λ a. a ∷ []) (form_same f g h e w); written = refl; agree = tt; forms = h }
    follow_same (Seq cs) w f g h = follow_all_same cs w f g h
    follow_same (If t c e) w f g h =
        let test = (each_parts Agree (named_in_cond t) (named c ++ named e) w).0 in
        let both = (each_parts Agree (named_in_cond t) (named c ++ named e) w).1 in
        same_branch (holds_by f t) (holds_by g t) (passed f t) (passed g t) (failed f t) (failed g t) (follow c f) (follow c g) (follow e f) (follow e g)
        (holds_same f g h t test) (passed_same f g h t test) (failed_same f g h t test)
        (follow_same c (each_parts Agree (named c) (named e) both).0 f g h) (follow_same e (each_parts Agree (named c) (named e) both).1 f g h)

    follow_all_same : (cs : Commands) → Each Agree (named_in_all cs) → (f g : Forms) → Alike f g → Same (follow_all cs f) (follow_all cs g)
    follow_all_same NoCommand w f g h = record { atoms = refl; prints = refl; written = refl; agree = tt; forms = h }
    follow_all_same (MoreCommand c cs) w f g h =
        let r = follow_same c (each_parts Agree (named c) (named_in_all cs) w).0 f g h in
        let s = follow_all_same cs (each_parts Agree (named c) (named_in_all cs) w).1 (follow c f).forms (follow c g).forms r.forms in
        record {
          atoms = ap₂ ◌++◌ r.atoms s.atoms;
          prints = ap₂ ◌++◌ r.prints s.prints;
          written = ap₂ ◌++◌ r.written s.written;
          agree = append_each Agree (follow c f).written (follow_all cs (follow c f).forms).written r.agree s.agree;
          forms = s.forms;
        }

  -- ---- needs
  gains_same : (f g : Forms) → Alike f g → (xs : List ℕ) → Each Agree xs → write_needs b f xs ≡ write_needs d g xs
  unfolding definitions plan_definitions
  gains_same f g h [] w = refl
  gains_same f g h (x ∷ xs) w =
      ap₂ add_deltas (ap₂ (λ n a. support (gain n x a)) w.0 (h.objects x w.0)) (gains_same f g h xs w.1)

  pub stays : (c : Command) → Each Agree (named c) → brought b c ≡ brought d c
  unfolding definitions
  stays c w =
      let s = follow_same c w (object_forms b) (object_forms d) alike_at_bases in
      let gains : write_needs b (followed b c).forms (followed b c).written ≡ write_needs d (followed d c).forms (followed d c).written =
      gains_same (followed b c).forms (followed d c).forms s.forms (followed b c).written s.agree
      ∙ ap (write_needs d (followed d c).forms) s.written in
      ap₂ (λ atoms needs. record { atoms = atoms; needs = needs }) s.atoms (ap₂ print_needs s.prints gains)

pub parts_stay : (b d : ℕ → ℤ) (c : Command) → Each (λ x. b x ≡ d x) (named c) → brought b c ≡ brought d c
parts_stay b d c w = stays b d c w
