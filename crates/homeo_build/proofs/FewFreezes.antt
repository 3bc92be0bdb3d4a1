-- The template of an accepted workload freezes few deltas: each once, of its objects at its sites.
use Rattle.homeo_meaning.specs.Key.{definitions as meaning_definitions}
use Rattle.homeo_plan.specs.Key.{definitions as plan_definitions}
use Rattle.std.proofs.Common.{◌≡◌, ℕ, ◌+◌, ◌*◌, ◌^◌, ◌<◌, ◌≤◌, true, List, [], ◌∷◌, map, length, ℤ, sym, ap, subst, arith}
use Rattle.std.proofs.lemmas.Bool.Decides.{nat_tests}
use Rattle.std.proofs.lemmas.List.{length-map}
use Rattle.homeo_syntax.specs.Source as s
use Rattle.homeo_meaning.specs.declared.call.Purpose.TheVariants.{Run}
use Rattle.homeo_meaning.specs.Acceptance.{IsAccepted}
use Rattle.homeo_meaning.specs.Bounds.{all_bounds}
use Rattle.homeo_meaning.specs.Ground.{Ground, grounds}
use Rattle.homeo_meaning.specs.NamesWithin.{NamesWithin}
use Rattle.homeo_meaning.specs.Schema.{schema_of}
use Rattle.homeo_meaning.specs.Serial.{values_of}
use Rattle.homeo_meaning.proofs.FaultParts.{NoFault, parts}
use Rattle.homeo_meaning.proofs.SoundRelations.{objects-fit}
use Rattle.homeo_lform.proofs.NamedWithin.{named_law}
use Rattle.homeo_lform.proofs.ObjectBounds.{bounds_count}
use Rattle.homeo_plan.specs.Each.{Each}
use Rattle.homeo_plan.specs.declared.forms.Delta.{Delta}
use Rattle.homeo_plan.specs.Linear.{AreInOrder, delta_before, Linear}
use Rattle.homeo_plan.specs.Planned.{sites_of, planned_call, planned, template_at}
use Rattle.homeo_plan.specs.PlanView.{plain_clause}
use Rattle.homeo_plan.specs.declared.round.RoundPlan.{RoundPlan}
use Rattle.homeo_plan.specs.Template.{PlannedCall, atoms_of, needs_of, atoms_of_sets, put_all, Template, template}
use Rattle.homeo_follow.specs.Key.{definitions as follow_definitions}
use Rattle.homeo_follow.specs.ObjectTemplate.{expanded_clause, expanded_template}
use Rattle.homeo_outline.specs.Key.{definitions as outline_definitions}
use Rattle.homeo_outline.specs.ObjectPlan.{template_with}
use Rattle.homeo_outline.specs.declared.plan.ObjectPlan.{ObjectPlan}
use Rattle.homeo_outline.proofs.Slacks.{clause_count}
use Rattle.homeo_plan.proofs.DeltaLists.{After, in_order_puts, each_put_all}
use Rattle.homeo_plan.proofs.Atoms.{append_each}
use Rattle.homeo_build.specs.Plan.{IsPlanOf, IsObjectPlan}
use Rattle.homeo_build.proofs.FewClauses.{IsSited, planned_sited, clauses_few}
use Rattle.homeo_build.proofs.FewSites.{sites_few}
use Rattle.homeo_build.proofs.NamedDeltas.{IsPlaced, mixed_placed, needs_placed}

-- ---- deltas in order, each once
-- the place of a delta among those of 16 sites
abbrev place : Delta → ℕ
place d = d.object * 16 + d.site

module _ (n : ℕ) where
  rises : (d e : Delta) → d.site < 16 → delta_before d e ≡ true → place d < place e
  unfolding plan_definitions
  rises d e l h = grind (arith, nat_tests, l, h)

  behind : (d : Delta) (es : List Delta) → d.site < 16 → After d es → Each (λ e. place d + 1 ≤ place e) es
  unfolding plan_definitions
  behind d [] l h = tt
  behind d (e ∷ es) l h = (omega (arith, rises d e l h.0), behind d es l h.1)

  -- those from place m on
  few_from : (m : ℕ) (ds : List Delta) → m ≤ n * 16 → AreInOrder ds → Each (IsPlaced n 16) ds → Each (λ d. m ≤ place d) ds → m + length ds ≤ n * 16
  unfolding plan_definitions
  few_from m [] l o p h = omega (arith, l)
  few_from m (d ∷ ds) l o p h =
      let inside = p.0.object in
      let site = p.0.site in
      let rest = few_from (place d + 1) ds (omega (arith, inside, site)) o.1 p.1 (behind d ds site o.0) in
      omega (arith, rest, h.0)

  from_first : (ds : List Delta) → Each (λ d. 0 ≤ place d) ds
  unfolding plan_definitions
  from_first [] = tt
  from_first (d ∷ ds) = (omega arith, from_first ds)

  placed_few : (ds : List Delta) → AreInOrder ds → Each (IsPlaced n 16) ds → length ds ≤ n * 16
  placed_few ds o p = omega (arith, few_from 0 ds (omega arith) o p (from_first ds))

-- ---- what is frozen
each_mixed : (P : Delta → Type 0) (atoms : List Linear) → Each (λ a. Each P a.mixed) atoms → Each (Each P) (map (λ a. a.mixed) atoms)
unfolding plan_definitions
each_mixed P [] h = tt
each_mixed P (a ∷ atoms) h = (h.0, each_mixed P atoms h.1)

-- at a site of k, over n whole objects
abbrev IsReady : ℕ → ℕ → ℕ → PlannedCall → Type 0
IsReady n names k g = IsSited k g × NamesWithin n names g.command

module _ (n names k : ℕ) (b : ℕ → ℤ) where
  all_mixed : (gs : List PlannedCall) → Each (IsReady n names k) gs → Each (λ a. Each (IsPlaced n k) a.mixed) (atoms_of_sets (map (atoms_of k b) gs))
  unfolding plan_definitions
  all_mixed [] h = tt
  all_mixed (g ∷ gs) h =
      append_each (λ (a : Linear). Each (IsPlaced n k) a.mixed) (atoms_of k b g) (atoms_of_sets (map (atoms_of k b) gs))
      (mixed_placed n names k b g h.0.0.0 h.0.0.1 h.0.1) (all_mixed gs h.1)

  all_needs : (gs : List PlannedCall) → Each (IsReady n names k) gs → Each (Each (IsPlaced n k)) (map (needs_of k b) gs)
  unfolding plan_definitions
  all_needs [] h = tt
  all_needs (g ∷ gs) h = (needs_placed n names k b g h.0.0.0 h.0.0.1 h.0.1, all_needs gs h.1)

  freezes_placed : (gs : List PlannedCall) → Each (IsReady n names k) gs → Each (IsPlaced n k) (template k b gs).freezes
  unfolding plan_definitions
  freezes_placed gs h =
      let atoms = atoms_of_sets (map (atoms_of k b) gs) in
      each_put_all (IsPlaced n k) (map (needs_of k b) gs) (put_all (map (λ a. a.mixed) atoms) []) (all_needs gs h)
      (each_put_all (IsPlaced n k) (map (λ a. a.mixed) atoms) [] (each_mixed (IsPlaced n k) atoms (all_mixed gs h)) tt)

  freezes_ordered : (gs : List PlannedCall) → AreInOrder (template k b gs).freezes
  unfolding plan_definitions
  freezes_ordered gs =
      let atoms = atoms_of_sets (map (atoms_of k b) gs) in
      in_order_puts (map (needs_of k b) gs) (put_all (map (λ a. a.mixed) atoms) []) (in_order_puts (map (λ a. a.mixed) atoms) [] tt)

-- ---- of a workload
module _ (w : s.Workload) (accepted : IsAccepted w) where
  objects_few : length (all_bounds (schema_of w)) ≤ 1024
  unfolding meaning_definitions
  objects_few =
      let p : NoFault Run w = parts Run w accepted.rules in
      subst (λ n. n ≤ 1024) (sym (bounds_count (schema_of w))) (objects-fit w p.text.limits)

  ready :
      (gs : List Ground) → Each (IsSited (sites_of w)) (map (planned_call w) gs) →
      Each (IsReady (length (all_bounds (schema_of w))) (length w.names) (sites_of w)) (map (planned_call w) gs)
  unfolding plan_definitions
  ready [] h = tt
  ready (g ∷ gs) h = ((h.0, named_law w g accepted), ready gs h.1)

  at_16 : (k : ℕ) (ds : List Delta) → k ≤ 16 → Each (IsPlaced (length (all_bounds (schema_of w))) k) ds → Each (IsPlaced (length (all_bounds (schema_of w))) 16) ds
  unfolding plan_definitions
  at_16 k [] l h = tt
  at_16 k (d ∷ ds) l h = (record { object = h.0.object; site = omega (arith, l, h.0.site) }, at_16 k ds l h.1)

pub freezes_few : (w : s.Workload) (base : List ℤ) → IsAccepted w → length (template_at w base).freezes ≤ 16384
unfolding plan_definitions
freezes_few w base accepted =
    let n = length (all_bounds (schema_of w)) in
    let k = sites_of w in
    let b = values_of base in
    let placed = freezes_placed n (length w.names) k b (planned w) (ready w accepted (grounds w) (planned_sited w accepted)) in
    let few = placed_few n (template_at w base).freezes (freezes_ordered n (length w.names) k b (planned w)) (at_16 w accepted k (template_at w base).freezes (sites_few w accepted).few placed) in
    omega (arith, few, objects_few w accepted)

-- ---- the clauses and freezes of a plan
pub plan_few :
    (w : s.Workload) (base : List ℤ) (p : RoundPlan) → IsAccepted w → IsPlanOf w base p →
    length p.template.clauses.items + length p.template.freezes.items < 2 ^ 32
plan_few w base p accepted plan =
    let clauses = ap (λ (t : Template). length t.clauses) plan.template in
    let freezes = ap (λ (t : Template). length t.freezes) plan.template in
    omega (arith, clauses, freezes, length-map p.template.clauses.items plain_clause, clauses_few w base accepted, freezes_few w base accepted)

-- of a template over whole objects
pub whole_few :
    (w : s.Workload) (base : List ℤ) (k : ℕ) (t : Template) → IsAccepted w → expanded_template k t ≡ template_at w base →
    length t.clauses + length t.freezes < 2 ^ 32
unfolding follow_definitions
whole_few w base k t accepted is =
    let clauses = ap (λ (u : Template). length u.clauses) is in
    let freezes = ap (λ (u : Template). length u.freezes) is in
    omega (arith, clauses, freezes, length-map t.clauses (expanded_clause k), clauses_few w base accepted, freezes_few w base accepted)

pub object_plan_few :
    (w : s.Workload) (base : List ℤ) (p : ObjectPlan) → IsAccepted w → IsObjectPlan w base p →
    length p.outline.value.terms + length p.outline.value.freezes < 2 ^ 32
unfolding outline_definitions
object_plan_few w base p accepted plan =
    let o = p.outline.value in
    let few = whole_few w base o.sites (template_with o p.slacks.items) accepted plan.template in
    omega (arith, few, clause_count o.terms p.slacks.items)
