-- The transformed command of a site asks, prints and writes at k sites what the given one does over whole objects.
use Rattle.homeo_meaning.specs.Key.{definitions as meaning_definitions}
use Rattle.homeo_plan.specs.Key.{definitions as plan_definitions}
use Rattle.homeo_follow.specs.Key.{definitions}
use Rattle.std.proofs.Common.{◌≡◌, ℕ, ◌<◌, ◌≤◌, Bool, true, false, cond, not, ◌&&◌, List, [], ◌∷◌, ◌++◌, map, ℤ, pos, negsuc, int_lt, refl, sym, ap, ap₂, ◌∙◌, arith}
use Rattle.std.proofs.lemmas.List.{map-append}
use Rattle.homeo_syntax.specs.declared.phrase.Compare.{Compare}
use Rattle.homeo_syntax.specs.declared.phrase.Compare.TheVariants.{Less, LessEqual, Equal}
use Rattle.homeo_syntax.specs.declared.low.SplitName.TheVariants.{Whole, Base, Delta}
use Rattle.homeo_syntax.specs.Low.{Expr, Exprs, Literal, OfTemp, Read, Sum, Product, Neg, NoExpr, MoreExpr, Test, Cond, True, Not, Comparison, NoTest, MoreTest, Command, Commands, Skip, Assign, Write, Print, Seq, If, NoCommand, MoreCommand}
use Rattle.homeo_meaning.specs.Meaning.{compared}
use Rattle.homeo_meaning.specs.Whole.{IsWhole}
use Rattle.homeo_meaning.proofs.Parts.{IsWholeExpr, AreWholeExprs, IsWholeTest, IsWholeCond, AreWhole}
use Rattle.homeo_plan.specs.Split.{shift_expr, shift_exprs, shift_test, shift_cond, shift, shift_all}
use Rattle.homeo_plan.specs.Linear.{Linear, constant_form, add_forms, scale_form, multiply_forms, Forms, form, sum_form, product_form}
use Rattle.homeo_plan.specs.Atoms.{difference, true_comparison, false_comparison}
use Rattle.homeo_follow.specs.Expanded.{expanded}
use Rattle.homeo_follow.specs.Follow.{passes_by, holds_by, passed_test, failed_test, passed, failed, Followed, asked, follow, follow_all}
use Rattle.homeo_plan.specs.Each.{Each}
use Rattle.homeo_plan.proofs.Atoms.{append_each}
use Rattle.homeo_follow.proofs.Expansions.{IsTidy, tidy_constant, tidy_add, tidy_scale, tidy_multiply, expanded_add, expanded_times, expanded_multiply}
use Rattle.homeo_follow.proofs.Standing.{Stands, reads, own_written, stands_temp, stands_object}

module _ (k i : ℕ) (inside : i < k) (b : ℕ → ℤ) where
  some : 1 ≤ k
  some = omega (arith, inside)

  abbrev Stand : Forms → Forms → Type 0
  Stand = Stands k i inside b

  -- ---- expressions
  -- a form at k sites, and the form over whole objects that it is
  pub record Is (a v : Linear) : Type 0 where
    pub same : a ≡ expanded k v
    pub tidy : IsTidy v

  is_constant : (n : ℤ) → Is (constant_form n) (constant_form n)
  unfolding definitions plan_definitions
  is_constant n = record { same = refl; tidy = tidy_constant n }

  is_add : (a v c w : Linear) → Is a v → Is c w → Is (add_forms a c) (add_forms v w)
  is_add a v c w p q = record { same = ap₂ add_forms p.same q.same ∙ sym (expanded_add k v w p.tidy q.tidy); tidy = tidy_add v w p.tidy q.tidy }

  is_scale : (n : ℤ) (a v : Linear) → Is a v → Is (scale_form n a) (scale_form n v)
  is_scale n a v p = record { same = ap (scale_form n) p.same ∙ sym (expanded_times k n v p.tidy); tidy = tidy_scale n v p.tidy }

  is_multiply : (a v c w : Linear) → Is a v → Is c w → Is (multiply_forms a c) (multiply_forms v w)
  is_multiply a v c w p q =
      record { same = ap₂ multiply_forms p.same q.same ∙ sym (expanded_multiply k v w some p.tidy q.tidy); tidy = tidy_multiply v w p.tidy q.tidy }

  -- so for each of a list
  pub record Are (fs cs : List Linear) : Type 0 where
    pub same : fs ≡ map (expanded k) cs
    pub tidy : Each IsTidy cs

  are_none : Are [] []
  unfolding plan_definitions
  are_none = record { same = refl; tidy = tt }

  are_more : (a v : Linear) (fs cs : List Linear) → Is a v → Are fs cs → Are (a ∷ fs) (v ∷ cs)
  unfolding plan_definitions
  are_more a v fs cs p q = record { same = ap₂ ◌∷◌ p.same q.same; tidy = (p.tidy, q.tidy) }

  are_one : (a v : Linear) → Is a v → Are (a ∷ []) (v ∷ [])
  are_one a v p = are_more a v [] [] p are_none

  are_append : (fs cs hs ds : List Linear) → Are fs cs → Are hs ds → Are (fs ++ hs) (cs ++ ds)
  are_append fs cs hs ds p q =
      record { same = ap₂ ◌++◌ p.same q.same ∙ sym (map-append (expanded k) cs ds); tidy = append_each IsTidy cs ds p.tidy q.tidy }

  are_same : (fs hs cs : List Linear) → fs ≡ hs → Are hs cs → Are fs cs
  are_same fs hs cs e p = record { same = e ∙ p.same; tidy = p.tidy }

  module _ (f g : Forms) (h : Stand f g) where
    mutual
      unfolding plan_definitions meaning_definitions

      pub form_is : (e : Expr) → IsWholeExpr e → Is (form f (shift_expr k e)) (form g e)
      form_is (Literal n) w = is_constant n
      form_is (OfTemp t) w = record { same = h.temps t; tidy = h.tidy_temps t }
      form_is (Read (Whole x)) w = record { same = reads k i inside b f g h x; tidy = h.tidy_objects x }
      form_is (Read (Base x)) w = absurd w
      form_is (Read (Delta x j)) w = absurd w
      form_is (Sum es) w = sum_is es w (constant_form (pos 0)) (constant_form (pos 0)) (is_constant (pos 0))
      form_is (Product es) w = product_is es w (constant_form (pos 1)) (constant_form (pos 1)) (is_constant (pos 1))
      form_is (Neg e) w = is_scale (negsuc 0) (form f (shift_expr k e)) (form g e) (form_is e w)

      sum_is : (es : Exprs) → AreWholeExprs es → (a v : Linear) → Is a v → Is (sum_form f a (shift_exprs k es)) (sum_form g v es)
      sum_is NoExpr w a v p = p
      sum_is (MoreExpr e es) w a v p =
          sum_is es w.1 (add_forms (form f (shift_expr k e)) a) (add_forms (form g e) v) (is_add (form f (shift_expr k e)) (form g e) a v (form_is e w.0) p)

      product_is : (es : Exprs) → AreWholeExprs es → (a v : Linear) → Is a v → Is (product_form f a (shift_exprs k es)) (product_form g v es)
      product_is NoExpr w a v p = p
      product_is (MoreExpr e es) w a v p =
          product_is es w.1 (multiply_forms a (form f (shift_expr k e))) (multiply_forms v (form g e)) (is_multiply a v (form f (shift_expr k e)) (form g e) p (form_is e w.0))

    -- ---- tests
    abbrev constant_is : (e : Expr) → IsWholeExpr e → (form f (shift_expr k e)).constant ≡ (form g e).constant
    unfolding definitions
    constant_is e w = ap (λ (a : Linear). a.constant) (form_is e w).same

    mutual
      unfolding definitions plan_definitions meaning_definitions

      passes_is : (t : Test) → IsWholeTest t → passes_by f (shift_test k t) ≡ passes_by g t
      passes_is True w = refl
      passes_is (Not c) w = ap not (holds_is c w)
      passes_is (Comparison op x y) w = ap₂ (compared op) (constant_is x w.0) (constant_is y w.1)

      pub holds_is : (c : Cond) → IsWholeCond c → holds_by f (shift_cond k c) ≡ holds_by g c
      holds_is NoTest w = refl
      holds_is (MoreTest t c) w = ap₂ ◌&&◌ (passes_is t w.0) (holds_is c w.1)

    difference_is : (a v c w : Linear) (n : ℤ) → Is a v → Is c w → Is (difference a c n) (difference v w n)
    unfolding plan_definitions
    difference_is a v c w n p q =
        is_add (constant_form n) (constant_form n) (add_forms a (scale_form (negsuc 0) c)) (add_forms v (scale_form (negsuc 0) w)) (is_constant n)
        (is_add a v (scale_form (negsuc 0) c) (scale_form (negsuc 0) w) p (is_scale (negsuc 0) c w q))

    true_is : (op : Compare) (a v c w : Linear) → Is a v → Is c w → Are (true_comparison op a c) (true_comparison op v w)
    unfolding plan_definitions
    true_is Less a v c w p q = are_one _ _ (difference_is a v c w (pos 1) p q)
    true_is LessEqual a v c w p q = are_one _ _ (difference_is a v c w (pos 0) p q)
    true_is Equal a v c w p q =
        are_more _ _ _ _ (difference_is a v c w (pos 0) p q) (are_one _ _ (difference_is c w a v (pos 0) q p))

    false_is : (op : Compare) (u : Bool) (a v c w : Linear) → Is a v → Is c w → Are (false_comparison op u a c) (false_comparison op u v w)
    unfolding plan_definitions
    false_is Less u a v c w p q = are_one _ _ (difference_is c w a v (pos 0) q p)
    false_is LessEqual u a v c w p q = are_one _ _ (difference_is c w a v (pos 1) q p)
    false_is Equal true a v c w p q = are_one _ _ (difference_is a v c w (pos 1) p q)
    false_is Equal false a v c w p q = are_one _ _ (difference_is c w a v (pos 1) q p)

    mutual
      unfolding definitions plan_definitions meaning_definitions

      passed_test_is : (t : Test) → IsWholeTest t → Are (passed_test f (shift_test k t)) (passed_test g t)
      passed_test_is True w = are_none
      passed_test_is (Not c) w = failed_is c w
      passed_test_is (Comparison op x y) w = true_is op (form f (shift_expr k x)) (form g x) (form f (shift_expr k y)) (form g y) (form_is x w.0) (form_is y w.1)

      failed_test_is : (t : Test) → IsWholeTest t → Are (failed_test f (shift_test k t)) (failed_test g t)
      failed_test_is True w = are_none
      failed_test_is (Not c) w = passed_is c w
      failed_test_is (Comparison op x y) w =
          are_same _ _ _
          (ap₂ (λ m n. false_comparison op (int_lt m n) (form f (shift_expr k x)) (form f (shift_expr k y))) (constant_is x w.0) (constant_is y w.1))
          (false_is op (int_lt (form g x).constant (form g y).constant) (form f (shift_expr k x)) (form g x) (form f (shift_expr k y)) (form g y) (form_is x w.0) (form_is y w.1))

      pub passed_is : (c : Cond) → IsWholeCond c → Are (passed f (shift_cond k c)) (passed g c)
      passed_is NoTest w = are_none
      passed_is (MoreTest t c) w = are_append _ _ _ _ (passed_test_is t w.0) (passed_is c w.1)

      pub failed_is : (c : Cond) → IsWholeCond c → Are (failed f (shift_cond k c)) (failed g c)
      failed_is NoTest w = are_none
      failed_is (MoreTest t c) w =
          are_same _ _ _ (ap (λ u. cond u (failed f (shift_cond k c)) (failed_test f (shift_test k t))) (passes_is t w.0))
          (go (passes_by g t) (failed_is c w.1) (failed_test_is t w.0))
        where
          go :
              (u : Bool) → Are (failed f (shift_cond k c)) (failed g c) → Are (failed_test f (shift_test k t)) (failed_test g t) →
              Are (cond u (failed f (shift_cond k c)) (failed_test f (shift_test k t))) (cond u (failed g c) (failed_test g t))
          go true x y = x
          go false x y = y

  -- ---- commands
  -- the same atoms and prints at k sites, the same objects written, and forms that stand for those over whole objects
  pub record Follows (r q : Followed) : Type 0 where
    pub atoms : Are r.atoms q.atoms
    pub prints : Are r.prints q.prints
    pub written : r.written ≡ q.written
    pub forms : Stand r.forms q.forms

  follows_asked : (fs cs : List Linear) (r q : Followed) → Are fs cs → Follows r q → Follows (asked fs r) (asked cs q)
  unfolding definitions
  follows_asked fs cs r q e s = record { atoms = are_append fs cs r.atoms q.atoms e s.atoms; prints = s.prints; written = s.written; forms = s.forms }

  mutual
    unfolding definitions plan_definitions meaning_definitions

    pub follows : (c : Command) → IsWhole c → (f g : Forms) → Stand f g → Follows (follow (shift k i c) f) (follow c g)
    follows Skip w f g h = record { atoms = are_none; prints = are_none; written = refl; forms = h }
    follows (Assign t e) w f g h =
        let r = form_is f g h e w.1 in
        record { atoms = are_none; prints = are_none; written = refl; forms = stands_temp k i inside b f g h t (form f (shift_expr k e)) (form g e) r.tidy r.same }
    follows (Write (Whole x) e) w f g h =
        let r = form_is f g h e w.1 in
        record {
          atoms = are_none;
          prints = are_none;
          written = refl;
          forms = stands_object k i inside b f g h x _ (form g e) r.tidy (own_written k i inside b f g h x (shift_expr k e) (form g e) r.tidy r.same);
        }
    follows (Write (Base x) e) w f g h = absurd w.0
    follows (Write (Delta x j) e) w f g h = absurd w.0
    follows (Print e) w f g h = record { atoms = are_none; prints = are_one _ _ (form_is f g h e w); written = refl; forms = h }
    follows (Seq cs) w f g h = follows_all cs w f g h
    follows (If t c d) w f g h =
        go (holds_by f (shift_cond k t)) (holds_by g t) (holds_is f g h t w.0) (passed_is f g h t w.0) (failed_is f g h t w.0) (follows c w.1 f g h) (follows d w.2 f g h)
      where
        go :
            (u v : Bool) → u ≡ v → Are (passed f (shift_cond k t)) (passed g t) → Are (failed f (shift_cond k t)) (failed g t) →
            Follows (follow (shift k i c) f) (follow c g) → Follows (follow (shift k i d) f) (follow d g) →
            Follows (cond u (asked (passed f (shift_cond k t)) (follow (shift k i c) f)) (asked (failed f (shift_cond k t)) (follow (shift k i d) f)))
            (cond v (asked (passed g t) (follow c g)) (asked (failed g t) (follow d g)))
        go true true e p q x y = follows_asked (passed f (shift_cond k t)) (passed g t) _ _ p x
        go true false e p q x y = cc
        go false true e p q x y = cc
        go false false e p q x y = follows_asked (failed f (shift_cond k t)) (failed g t) _ _ q y

    pub follows_all : (cs : Commands) → AreWhole cs → (f g : Forms) → Stand f g → Follows (follow_all (shift_all k i cs) f) (follow_all cs g)
    follows_all NoCommand w f g h = record { atoms = are_none; prints = are_none; written = refl; forms = h }
    follows_all (MoreCommand c cs) w f g h =
        let r = follows c w.0 f g h in
        let s = follows_all cs w.1 (follow (shift k i c) f).forms (follow c g).forms r.forms in
        record {
          atoms = are_append _ _ _ _ r.atoms s.atoms;
          prints = are_append _ _ _ _ r.prints s.prints;
          written = ap₂ ◌++◌ r.written s.written;
          forms = s.forms;
        }
