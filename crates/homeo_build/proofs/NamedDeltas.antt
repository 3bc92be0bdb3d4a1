-- Where a command names n objects alone, so do the forms that it is followed by, and the deltas that it mixes and needs.
use Rattle.homeo_meaning.specs.Key.{definitions as meaning_definitions}
use Rattle.homeo_plan.specs.Key.{definitions as plan_definitions}
use Rattle.homeo_follow.specs.Key.{definitions as follow_definitions}
use Rattle.std.proofs.Common.{ℕ, zero, suc, ◌+◌, ◌==◌, ◌<◌, ◌≤◌, Bool, true, false, cond, List, [], ◌∷◌, map, ℤ, pos, negsuc, int_lt, sym, subst, arith}
use Rattle.homeo_syntax.specs.declared.low.SplitName.{SplitName}
use Rattle.homeo_syntax.specs.declared.low.SplitName.TheVariants as split
use Rattle.homeo_syntax.specs.Low.{Expr, Exprs, Literal, OfTemp, Read, Sum, Product, Neg, NoExpr, MoreExpr, Test, Cond, True, Not, Comparison, NoTest, MoreTest, Command, Commands, Skip, Assign, Write, Print, Seq, If, NoCommand, MoreCommand}
use Rattle.homeo_meaning.specs.LowMeaning.{Location, TempAt, BaseAt, DeltaAt, location_of, same_location, put}
use Rattle.homeo_meaning.specs.NamesWithin.{ObjectWithin, NamesWithin}
use Rattle.homeo_meaning.specs.Whole.{IsWhole}
use Rattle.homeo_meaning.proofs.Parts.{ExprWithin, ExprsWithin, TestWithin, CondWithin, AllNamesWithin}
use Rattle.homeo_plan.specs.Atoms.{difference}
use Rattle.homeo_plan.specs.Each.{Each}
use Rattle.homeo_plan.specs.declared.forms.Delta.{Delta}
use Rattle.homeo_plan.specs.declared.forms.Term.{Term}
use Rattle.homeo_plan.specs.Linear.{Linear, deltas_of, constant_form, add_forms, scale_form, is_pure, support, mix_forms, multiply_forms, Forms, form, sum_form, product_form}
use Rattle.homeo_plan.specs.Needs.{remote}
use Rattle.homeo_plan.specs.Template.{PlannedCall, atoms_of, needs_of}
use Rattle.homeo_follow.specs.Expanded.{deltas_from, expanded_deltas, expanded}
use Rattle.homeo_follow.specs.Follow.{passes_by, holds_by, passed_test, failed_test, passed, failed, Followed, asked, object_of, follow, follow_all, object_form, object_forms, followed, gain, print_needs, write_needs, needed}
use Rattle.homeo_plan.proofs.DeltaLists.{each_puts}
use Rattle.homeo_plan.proofs.Atoms.{append_each, each_true, each_false}
use Rattle.homeo_follow.proofs.Needed.{needs_are_followed}
use Rattle.homeo_follow.proofs.PlannedAtoms.{atoms_are_followed}
use Rattle.homeo_follow.proofs.Terms.{OfEach, each_adds, each_scale}

-- a delta of one of n objects at one of k sites
pub record IsPlaced (n k : ℕ) (d : Delta) : Type 0 where
  pub object : d.object < n
  pub site : d.site < k

module _ (n names : ℕ) where
  abbrev IsNamed : Delta → Type 0
  IsNamed d = d.object < n

  -- ---- forms
  record Named (a : Linear) : Type 0 where
    terms : OfEach IsNamed a.terms
    mixed : Each IsNamed a.mixed

  named_constant : (z : ℤ) → Named (constant_form z)
  unfolding plan_definitions
  named_constant z = record { terms = tt; mixed = tt }

  named_object : (z : ℤ) (x : ℕ) → x < n → Named (object_form z x)
  unfolding plan_definitions follow_definitions
  named_object z x h = record { terms = (h, tt); mixed = tt }

  named_add : (a b : Linear) → Named a → Named b → Named (add_forms a b)
  unfolding plan_definitions
  named_add a b h g =
      record { terms = each_adds IsNamed a.terms b.terms h.terms g.terms; mixed = each_puts IsNamed a.mixed b.mixed h.mixed g.mixed }

  named_scale : (z : ℤ) (a : Linear) → Named a → Named (scale_form z a)
  unfolding plan_definitions
  named_scale z a h = record { terms = each_scale IsNamed z a.terms h.terms; mixed = h.mixed }

  named_terms : (ts : List Term) → OfEach IsNamed ts → Each IsNamed (deltas_of ts)
  unfolding plan_definitions
  named_terms [] h = tt
  named_terms (t ∷ ts) h = (h.0, named_terms ts h.1)

  named_support : (a : Linear) → Named a → Each IsNamed (support a)
  unfolding plan_definitions
  named_support a h = each_puts IsNamed (deltas_of a.terms) a.mixed (named_terms a.terms h.terms) h.mixed

  named_multiply : (a b : Linear) → Named a → Named b → Named (multiply_forms a b)
  unfolding plan_definitions
  named_multiply a b h g = go (is_pure a) (is_pure b)
    where
      go : (u v : Bool) → Named (cond u (scale_form a.constant b) (cond v (scale_form b.constant a) (mix_forms a b)))
      go true v = named_scale a.constant b g
      go false true = named_scale b.constant a h
      go false false =
          record { terms = tt; mixed = each_puts IsNamed (support a) (support b) (named_support a h) (named_support b g) }

  named_difference : (a b : Linear) (z : ℤ) → Named a → Named b → Named (difference a b z)
  unfolding plan_definitions
  named_difference a b z h g =
      named_add (constant_form z) (add_forms a (scale_form (negsuc 0) b)) (named_constant z)
      (named_add a (scale_form (negsuc 0) b) h (named_scale (negsuc 0) b g))

  -- ---- at each place that is named
  abbrev IsThere : Location → Type 0
  IsThere (TempAt t) = Unit {0}
  IsThere (BaseAt x) = x < n
  IsThere (DeltaAt x j) = Unit {0}

  abbrev AllNamed : Forms → Type 0
  AllNamed f = (p : Location) → IsThere p → Named (f p)

  named_at_base : (b : ℕ → ℤ) → AllNamed (object_forms b)
  unfolding follow_definitions
  named_at_base b (TempAt t) h = named_constant (pos 0)
  named_at_base b (BaseAt x) h = named_object (b x) x h
  named_at_base b (DeltaAt x j) h = named_constant (pos 0)

  named_put : (f : Forms) (p : Location) (a : Linear) → AllNamed f → Named a → AllNamed (put f p a)
  unfolding meaning_definitions
  named_put f p a h g q i = go (same_location p q)
    where
      go : (v : Bool) → Named (cond v a (f q))
      go true = g
      go false = h q i

  name_there : (x : SplitName) → ObjectWithin n names x → IsThere (location_of x)
  unfolding meaning_definitions
  name_there (split.Whole x) h = h
  name_there (split.Base x) h = h
  name_there (split.Delta x j) h = tt

  object_there : (x : SplitName) → ObjectWithin n names x → object_of x < n
  unfolding meaning_definitions follow_definitions
  object_there (split.Whole x) h = h
  object_there (split.Base x) h = h
  object_there (split.Delta x j) h = h

  module _ (f : Forms) (h : AllNamed f) where
    mutual
      unfolding plan_definitions meaning_definitions

      named_form : (e : Expr) → ExprWithin n names e → Named (form f e)
      named_form (Literal z) s = named_constant z
      named_form (OfTemp t) s = h (TempAt t) tt
      named_form (Read x) s = h (location_of x) (name_there x s)
      named_form (Sum es) s = named_sum es (constant_form (pos 0)) s (named_constant (pos 0))
      named_form (Product es) s = named_product es (constant_form (pos 1)) s (named_constant (pos 1))
      named_form (Neg e) s = named_scale (negsuc 0) (form f e) (named_form e s)

      named_sum : (es : Exprs) (a : Linear) → ExprsWithin n names es → Named a → Named (sum_form f a es)
      named_sum NoExpr a s g = g
      named_sum (MoreExpr e es) a s g = named_sum es (add_forms (form f e) a) s.1 (named_add (form f e) a (named_form e s.0) g)

      named_product : (es : Exprs) (a : Linear) → ExprsWithin n names es → Named a → Named (product_form f a es)
      named_product NoExpr a s g = g
      named_product (MoreExpr e es) a s g =
          named_product es (multiply_forms a (form f e)) s.1 (named_multiply a (form f e) g (named_form e s.0))

    mutual
      unfolding follow_definitions meaning_definitions plan_definitions

      named_passed_test : (t : Test) → TestWithin n names t → Each Named (passed_test f t)
      named_passed_test True s = tt
      named_passed_test (Not c) s = named_failed c s
      named_passed_test (Comparison op x y) s = each_true Named named_difference op (form f x) (form f y) (named_form x s.0) (named_form y s.1)

      named_failed_test : (t : Test) → TestWithin n names t → Each Named (failed_test f t)
      named_failed_test True s = tt
      named_failed_test (Not c) s = named_passed c s
      named_failed_test (Comparison op x y) s =
          each_false Named named_difference op (int_lt (form f x).constant (form f y).constant) (form f x) (form f y) (named_form x s.0) (named_form y s.1)

      named_passed : (c : Cond) → CondWithin n names c → Each Named (passed f c)
      named_passed NoTest s = tt
      named_passed (MoreTest t c) s =
          append_each Named (passed_test f t) (passed f c) (named_passed_test t s.0) (named_passed c s.1)

      named_failed : (c : Cond) → CondWithin n names c → Each Named (failed f c)
      named_failed NoTest s = tt
      named_failed (MoreTest t c) s = go (passes_by f t) (named_failed c s.1) (named_failed_test t s.0)
        where
          go : (v : Bool) → Each Named (failed f c) → Each Named (failed_test f t) → Each Named (cond v (failed f c) (failed_test f t))
          go true p q = p
          go false p q = q

  -- ---- commands
  -- what is followed names the objects alone
  record Goes (r : Followed) : Type 0 where
    atoms : Each Named r.atoms
    prints : Each Named r.prints
    written : Each (λ x. x < n) r.written
    forms : AllNamed r.forms

  mutual
    unfolding follow_definitions meaning_definitions plan_definitions

    goes : (c : Command) (f : Forms) → NamesWithin n names c → AllNamed f → Goes (follow c f)
    goes Skip f s h = record { atoms = tt; prints = tt; written = tt; forms = h }
    goes (Assign t e) f s h =
        record { atoms = tt; prints = tt; written = tt; forms = named_put f (TempAt t) (form f e) h (named_form f h e s.1) }
    goes (Write x e) f s h =
        record {
          atoms = tt;
          prints = tt;
          written = (object_there x s.0, tt);
          forms = named_put f (location_of x) (form f e) h (named_form f h e s.1);
        }
    goes (Print e) f s h = record { atoms = tt; prints = (named_form f h e s, tt); written = tt; forms = h }
    goes (Seq cs) f s h = goes_all cs f s h
    goes (If b c d) f s h = go (holds_by f b) (goes c f s.1 h) (goes d f s.2 h)
      where
        go : (v : Bool) → Goes (follow c f) → Goes (follow d f) → Goes (cond v (asked (passed f b) (follow c f)) (asked (failed f b) (follow d f)))
        go true p q =
            record {
              atoms = append_each Named (passed f b) (follow c f).atoms (named_passed f h b s.0) p.atoms;
              prints = p.prints;
              written = p.written;
              forms = p.forms;
            }
        go false p q =
            record {
              atoms = append_each Named (failed f b) (follow d f).atoms (named_failed f h b s.0) q.atoms;
              prints = q.prints;
              written = q.written;
              forms = q.forms;
            }

    goes_all : (cs : Commands) (f : Forms) → AllNamesWithin n names cs → AllNamed f → Goes (follow_all cs f)
    goes_all NoCommand f s h = record { atoms = tt; prints = tt; written = tt; forms = h }
    goes_all (MoreCommand c cs) f s h =
        let p = goes c f s.0 h in
        let g = (follow c f).forms in
        let q = goes_all cs g s.1 p.forms in
        record {
          atoms = append_each Named (follow c f).atoms (follow_all cs g).atoms p.atoms q.atoms;
          prints = append_each Named (follow c f).prints (follow_all cs g).prints p.prints q.prints;
          written = append_each (λ x. x < n) (follow c f).written (follow_all cs g).written p.written q.written;
          forms = q.forms;
        }

  -- ---- needs
  named_prints : (ps : List Linear) (ds : List Delta) → Each Named ps → Each IsNamed ds → Each IsNamed (print_needs ps ds)
  unfolding follow_definitions plan_definitions
  named_prints [] ds h g = g
  named_prints (p ∷ ps) ds h g = each_puts IsNamed (support p) (print_needs ps ds) (named_support p h.0) (named_prints ps ds h.1 g)

  named_gain : (z : ℤ) (x : ℕ) (a : Linear) → x < n → Named a → Named (gain z x a)
  unfolding follow_definitions
  named_gain z x a l h =
      named_add (scale_form (negsuc 0) (object_form z x)) a (named_scale (negsuc 0) (object_form z x) (named_object z x l)) h

  named_writes : (b : ℕ → ℤ) (f : Forms) (xs : List ℕ) → AllNamed f → Each (λ x. x < n) xs → Each IsNamed (write_needs b f xs)
  unfolding follow_definitions plan_definitions
  named_writes b f [] h l = tt
  named_writes b f (x ∷ xs) h l =
      each_puts IsNamed (support (gain (b x) x (f (BaseAt x)))) (write_needs b f xs)
      (named_support (gain (b x) x (f (BaseAt x))) (named_gain (b x) x (f (BaseAt x)) l.0 (h (BaseAt x) l.0)))
      (named_writes b f xs h l.1)

  named_needed : (b : ℕ → ℤ) (r : Followed) → Goes r → Each IsNamed (needed b r)
  unfolding follow_definitions
  named_needed b r h = named_prints r.prints (write_needs b r.forms r.written) h.prints (named_writes b r.forms r.written h.forms h.written)

  -- ---- at sites
  module _ (k : ℕ) where
    placed_from : (j m x : ℕ) → x < n → j + m ≤ k → Each (IsPlaced n k) (deltas_from j m x)
    unfolding follow_definitions plan_definitions
    placed_from j zero x h l = tt
    placed_from j (suc m) x h l = (record { object = h; site = omega (arith, l) }, placed_from (suc j) m x h (omega (arith, l)))

    placed_deltas : (ds : List Delta) → Each IsNamed ds → Each (IsPlaced n k) (expanded_deltas k ds)
    unfolding follow_definitions plan_definitions
    placed_deltas [] h = tt
    placed_deltas (d ∷ ds) h =
        append_each (IsPlaced n k) (deltas_from 0 k d.object) (expanded_deltas k ds) (placed_from 0 k d.object h.0 (omega arith)) (placed_deltas ds h.1)

    placed_remote : (i : ℕ) (ds : List Delta) → Each (IsPlaced n k) ds → Each (IsPlaced n k) (remote i ds)
    unfolding plan_definitions
    placed_remote i [] h = tt
    placed_remote i (d ∷ ds) h = go (d.site == i) (placed_remote i ds h.1)
      where
        go : (v : Bool) → Each (IsPlaced n k) (remote i ds) → Each (IsPlaced n k) (cond v (remote i ds) (d ∷ remote i ds))
        go true r = r
        go false r = (h.0, r)

    placed_mixed : (atoms : List Linear) → Each Named atoms → Each (λ a. Each (IsPlaced n k) a.mixed) (map (expanded k) atoms)
    unfolding follow_definitions plan_definitions
    placed_mixed [] h = tt
    placed_mixed (a ∷ atoms) h = (placed_deltas a.mixed h.0.mixed, placed_mixed atoms h.1)

    module _ (b : ℕ → ℤ) (g : PlannedCall) (inside : g.site < k) (whole : IsWhole g.command) (named : NamesWithin n names g.command) where
      goes_here : Goes (followed b g.command)
      unfolding follow_definitions
      goes_here = goes g.command (object_forms b) named (named_at_base b)

      pub mixed_placed : Each (λ a. Each (IsPlaced n k) a.mixed) (atoms_of k b g)
      mixed_placed =
          subst (Each (λ (a : Linear). Each (IsPlaced n k) a.mixed)) (sym (atoms_are_followed k b g inside whole))
          (placed_mixed (followed b g.command).atoms goes_here.atoms)

      pub needs_placed : Each (IsPlaced n k) (needs_of k b g)
      needs_placed =
          subst (Each (IsPlaced n k)) (sym (needs_are_followed k b g inside whole))
          (placed_remote g.site (expanded_deltas k (needed b (followed b g.command)))
          (placed_deltas (needed b (followed b g.command)) (named_needed b (followed b g.command) goes_here)))
