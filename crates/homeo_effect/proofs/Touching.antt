-- The numbers at the objects that commands write are those of what they touch.
use Rattle.std.proofs.Common.{◌≡◌, ℕ, suc, ◌==◌, ◌<◌, ◌≤◌, ℤ, Bool, true, false, cond, ◌&&◌, List, [], ◌∷◌, map, length, refl, sym, ap, ap₂, ◌∙◌, subst}
use Rattle.std.proofs.lemmas.List.{length-map}
use Rattle.std.specs.Prelude.{◌||◌}
use Rattle.std.specs.List.{list_any}
use Rattle.std.specs.List.Sorted.{IsStrictlySortedBy}
use Rattle.std.specs.Ordering.{nat_cmp}
use Rattle.homeo_lemmas.proofs.Bools.{or_nothing}
use Rattle.homeo_plan.specs.Key.{definitions as plan_definitions}
use Rattle.homeo_plan.specs.Each.{Each}
use Rattle.homeo_plan.specs.declared.forms.Delta.{Delta}
use Rattle.homeo_plan.specs.declared.forms.Term.{Term}
use Rattle.homeo_plan.specs.Linear.{delta_of, same_delta}
use Rattle.homeo_plan.specs.Template.{Clause}
use Rattle.homeo_syntax.specs.Low.{Commands}
use Rattle.homeo_follow.specs.Key.{definitions as follow_definitions}
use Rattle.homeo_follow.specs.ObjectTemplate.{expanded_clause, expanded_template}
use Rattle.homeo_outline.specs.Key.{definitions as outline_definitions}
use Rattle.homeo_outline.specs.Numbers.{has, numbers_where, clauses_on}
use Rattle.homeo_outline.specs.ObjectPlan.{clauses_with, template_with, template_in}
use Rattle.homeo_outline.specs.Outlined.{Outlined}
use Rattle.homeo_outline.specs.declared.plan.ObjectPlan.{ObjectPlan}
use Rattle.homeo_effect.specs.Key.{definitions}
use Rattle.homeo_effect.specs.Indexed.{Indexed}
use Rattle.homeo_effect.specs.Touched.{written, WritesOwn, is_among, are_on, is_touched, touched_clauses, touched_freezes}
use Rattle.homeo_effect.specs.inner.Uses.{objects_of, is_clause_on, freezes_at, is_freeze_on}
use Rattle.homeo_effect.proofs.AtEachSite.{numbers_named, none_touched}
use Rattle.homeo_effect.proofs.RisingNumbers.{has_either, has_none, numbers_rise, same_rising}

module _ {X : Type 0} (test : List Delta → X → Bool) (none : (x : X) → test [] x ≡ false)
    (either : (d : Delta) (ds : List Delta) (x : X) → test (d ∷ ds) x ≡ (test (d ∷ []) x || test ds x)) (i first : ℕ) (xs : List X) (at : ℕ → List ℕ)
    (numbers : (x : ℕ) → at x ≡ numbers_where (test (delta_of x i ∷ [])) first xs)
  where
    all_at : (ds : List Delta) → Each (λ d. d.site ≡ i) ds → (n : ℕ) → list_any (λ x. has n (at x)) (objects_of ds) ≡ has n (numbers_where (test ds) first xs)
    unfolding plan_definitions
    all_at [] own n = sym (has_none (test []) none first n xs)
    all_at (d ∷ ds) own n =
        let same : delta_of d.object i ≡ d = ap (delta_of d.object) (sym own.0) in
        ap₂ ◌||◌ (ap (has n) (numbers d.object) ∙ ap (λ e. has n (numbers_where (test (e ∷ [])) first xs)) same) (all_at ds own.1 n)
        ∙ sym (has_either (test (d ∷ [])) (test ds) (test (d ∷ ds)) (either d ds) first n xs)

    numbers_are :
        (ds : List Delta) → Each (λ d. d.site ≡ i) ds → (ns : List ℕ) → IsStrictlySortedBy nat_cmp ns →
        ((n : ℕ) → has n ns ≡ list_any (λ x. has n (at x)) (objects_of ds)) → ns ≡ numbers_where (test ds) first xs
    numbers_are ds own ns rise h = same_rising ns (numbers_where (test ds) first xs) rise (numbers_rise (test ds) first xs) (λ n. h n ∙ all_at ds own n)

among_either : (d : Delta) (ds : List Delta) (e : Delta) → is_among (d ∷ ds) e ≡ (is_among (d ∷ []) e || is_among ds e)
unfolding definitions
among_either d ds e = go (same_delta e d) (is_among ds e)
  where
    go : (a b : Bool) → (a || b) ≡ ((a || false) || b)
    go true b = refl
    go false b = refl

none_on : (ts : List Term) → are_on [] ts ≡ false
unfolding definitions
none_on [] = refl
none_on (t ∷ ts) = none_on ts

on_either : (d : Delta) (ds : List Delta) (ts : List Term) → are_on (d ∷ ds) ts ≡ (are_on (d ∷ []) ts || are_on ds ts)
unfolding definitions
on_either d ds [] = refl
on_either d ds (t ∷ ts) =
    ap₂ ◌||◌ (among_either d ds t.delta) (on_either d ds ts)
    ∙ go (is_among (d ∷ []) t.delta) (is_among ds t.delta) (are_on (d ∷ []) ts) (are_on ds ts)
  where
    go : (a b p q : Bool) → ((a || b) || (p || q)) ≡ ((a || p) || (b || q))
    go true b p q = refl
    go false true true q = refl
    go false true false q = refl
    go false false p q = refl

-- ---- clauses
module _ (i k : ℕ) (ds : List Delta) (own : Each (λ d. d.site ≡ i) ds) where
  clauses_on_are :
      (cs : List Clause) (at : ℕ → List ℕ) → ((x : ℕ) → at x ≡ numbers_where (is_touched (delta_of x i ∷ [])) 0 (map (expanded_clause k) cs)) → (ns : List ℕ) →
      IsStrictlySortedBy nat_cmp ns → ((n : ℕ) → has n ns ≡ list_any (λ x. has n (at x)) (objects_of ds)) →
      ns ≡ numbers_where (is_touched ds) 0 (map (expanded_clause k) cs)
  unfolding definitions
  clauses_on_are cs at numbers ns rise h =
      numbers_are is_touched (λ c. none_on c.terms) (λ d es c. on_either d es c.terms) i 0 (map (expanded_clause k) cs) at numbers ds own ns rise h

  clauses_are :
      i < k → (tss : List (List Term)) (ss : List ℤ) (ns : List ℕ) → IsStrictlySortedBy nat_cmp ns →
      ((n : ℕ) → has n ns ≡ is_clause_on tss n (objects_of ds)) → ns ≡ numbers_where (is_touched ds) 0 (map (expanded_clause k) (clauses_with tss ss))
  clauses_are l tss ss ns rise h = clauses_on_are (clauses_with tss ss) (λ x. clauses_on x tss) (λ x. numbers_named x i k l 0 tss ss) ns rise h

  -- where there is no such site
  no_clauses_are : k ≤ i → (cs : List Clause) → [] ≡ numbers_where (is_touched ds) 0 (map (expanded_clause k) cs)
  unfolding IsStrictlySortedBy
  no_clauses_are l cs = clauses_on_are cs (λ x. []) (λ x. none_touched x i k l 0 cs) [] tt (λ n. nowhere (objects_of ds))
    where
      nowhere : (xs : List ℕ) → false ≡ list_any (λ x. false) xs
      nowhere [] = refl
      nowhere (x ∷ xs) = nowhere xs

-- ---- freezes
none_among : (d : Delta) → is_among [] d ≡ false
unfolding definitions
none_among d = refl

at_site : (i x n : ℕ) (fs : List Delta) → numbers_where (λ d. (d.object == x) && (d.site == i)) n fs ≡ numbers_where (is_among (delta_of x i ∷ [])) n fs
unfolding definitions plan_definitions
at_site i x n [] = refl
at_site i x n (f ∷ fs) = ap₂ (λ v ns. cond v (n ∷ ns) ns) (or_nothing ((f.object == x) && (f.site == i))) (at_site i x (suc n) fs)

freezes_are :
    (i : ℕ) (o : Outlined) (ds : List Delta) → Each (λ d. d.site ≡ i) ds → (ns : List ℕ) → IsStrictlySortedBy nat_cmp ns →
    ((n : ℕ) → has n ns ≡ is_freeze_on o i n (objects_of ds)) → (first : ℕ) → length o.terms ≡ first → ns ≡ numbers_where (is_among ds) first o.freezes
freezes_are i o ds own ns rise h first e =
    numbers_are is_among none_among among_either i (length o.terms) o.freezes (λ x. freezes_at x i o) (λ x. at_site i x (length o.terms) o.freezes) ds own ns
    rise h
    ∙ ap (λ m. numbers_where (is_among ds) m o.freezes) e

clause_count : (tss : List (List Term)) (ss : List ℤ) → length tss ≡ length (clauses_with tss ss)
unfolding outline_definitions
clause_count [] ss = refl
clause_count (ts ∷ tss) [] = ap suc (clause_count tss [])
clause_count (ts ∷ tss) (s ∷ ss) = ap suc (clause_count tss ss)

-- ---- an index over a plan
module _ (site : ℕ) (p : ObjectPlan) (index : Indexed) (view : record { site = site; template = template_in p } ≡ index) (o : Outlined) (is : o ≡ p.outline.value)
    (cs : Commands) (writes : WritesOwn index.site cs)
  where
    own : Each (λ d. d.site ≡ site) (written cs)
    unfolding definitions
    own = subst (λ (x : Indexed). WritesOwn x.site cs) (sym view) writes

    -- the template that the index has
    template_of : template_in p ≡ index.template
    template_of = ap (λ (x : Indexed). x.template) view

    expanded : expanded_template o.sites (template_with o p.slacks.items) ≡ template_in p
    unfolding outline_definitions
    expanded = ap (λ (q : Outlined). expanded_template q.sites (template_with q p.slacks.items)) is

    pub index_clauses :
        site < o.sites → (ns : List ℕ) → IsStrictlySortedBy nat_cmp ns → ((n : ℕ) → has n ns ≡ is_clause_on o.terms n (objects_of (written cs))) →
        ns ≡ touched_clauses (written cs) index.template
    unfolding definitions follow_definitions outline_definitions
    index_clauses l ns rise h =
        clauses_are site o.sites (written cs) own l o.terms p.slacks.items ns rise h ∙ ap (touched_clauses (written cs)) (expanded ∙ template_of)

    pub index_no_clauses : o.sites ≤ site → [] ≡ touched_clauses (written cs) index.template
    unfolding definitions follow_definitions outline_definitions
    index_no_clauses l =
        no_clauses_are site o.sites (written cs) own l (clauses_with o.terms p.slacks.items) ∙ ap (touched_clauses (written cs)) (expanded ∙ template_of)

    pub index_freezes :
        (ns : List ℕ) → IsStrictlySortedBy nat_cmp ns → ((n : ℕ) → has n ns ≡ is_freeze_on o site n (objects_of (written cs))) →
        ns ≡ touched_freezes (written cs) index.template
    unfolding definitions follow_definitions outline_definitions
    index_freezes ns rise h =
        freezes_are site o (written cs) own ns rise h (length (map (expanded_clause o.sites) clauses))
        (clause_count o.terms p.slacks.items ∙ sym (length-map clauses (expanded_clause o.sites)))
        ∙ ap (touched_freezes (written cs)) (expanded ∙ template_of)
      where
        clauses : List Clause
        clauses = clauses_with o.terms p.slacks.items
