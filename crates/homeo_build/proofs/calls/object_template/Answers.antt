-- The template by objects.
use Rattle.std.proofs.Common.{rules, ℕ, ◌<◌, List, [], map, length, sym, ap, ap₂, subst, ◌∙◌}
use Rattle.homeo_syntax.specs.LowView.{plain_lcommand}
use Rattle.homeo_syntax.specs.SourceView.{plain_workload}
use Rattle.homeo_meaning.specs.CallForm.{ground_form}
use Rattle.homeo_meaning.specs.Ground.{plain_ground}
use Rattle.homeo_meaning.specs.Serial.{values_of}
use Rattle.homeo_plan.specs.PlanView.{plain_atom}
use Rattle.homeo_plan.specs.Template.{Clause, clauses_from}
use Rattle.homeo_follow.specs.Key.{definitions}
use Rattle.homeo_follow.specs.Brought.{Brought, brought}
use Rattle.homeo_follow.specs.ObjectTemplate.{expanded_clause}
use Rattle.homeo_follow.specs.declared.part.PlanPart.{PlanPart}
use Rattle.homeo_build.specs.inner.Frozen.{frozen_from}
use Rattle.homeo_build.proofs.ByObjects.{sets_asked, places_within, small_asked, template_is, none_frozen, frozen_next, all_frozen}
use Rattle.homeo_build.proofs.Following.{shared_part, shared_atoms, brought_each, atoms_each, place_within, made_there}
use Rattle.homeo_build.proofs.FormsMade.{form_here, made_each}
use Rattle.homeo_build.proofs.GroundCalls.{can_here}
use Rattle.homeo_build.proofs.calls.object_template.Goals as goal

pub object_clauses-requires : goal.object_clauses-requires
object_clauses-requires c =
    let w = plain_workload c.args.c.now in
    let base = c.args.base.now.items in
    let forms = c.forms.ensures.forms in
    let fs = map plain_lcommand c.forms.result.now.forms.items in
    let places = c.forms.result.now.places.items in
    let parts = c.args.parts.now in
    let are = brought_each w base fs places forms parts c.requires.parts in
    let atoms = atoms_each (values_of base) fs parts are in
    record {
      places = places_within shared_atoms w (values_of base) fs parts places c.as_slice-places.result.now forms atoms c.as_slice-places.ensures.value;
      small = small_asked w base c.requires.accepted c.requires.within shared_atoms fs parts (made_each w fs places c.requires.accepted forms) atoms;
    }

pub bounds-places-i : goal.bounds-places-i
bounds-places-i c =
    let here =
    form_here (plain_workload c.args.c.now) (map plain_lcommand c.forms.result.now.forms.items) c.forms.result.now.places.items
    c.calls-call-items.result.now c.loop-i.i c.call-item.result c.forms.ensures.forms c.calls-call-items.ensures c.loop-i-test.true c.call-item.is in
    subst (λ (ps : List ℕ). c.loop-i.i < length ps) (sym c.as_slice-places.ensures.value) here.within

pub bounds-parts-places : goal.bounds-parts-places
bounds-parts-places c =
    let w = plain_workload c.args.c.now in
    let base = c.args.base.now.items in
    let forms = c.forms.ensures.forms in
    let fs = map plain_lcommand c.forms.result.now.forms.items in
    let places = c.forms.result.now.places.items in
    let parts = c.args.parts.now in
    let are = brought_each w base fs places forms parts c.requires.parts in
    let here =
    form_here w fs places c.calls-call-items.result.now c.loop-i.i c.call-item.result forms c.calls-call-items.ensures c.loop-i-test.true c.call-item.is in
    place_within shared_part (brought (values_of base)) fs parts places c.as_slice-places.result.now c.loop-i.i are c.as_slice-places.ensures.value here.below

pub offset_bounds-parts-places : goal.offset_bounds-parts-places
offset_bounds-parts-places c =
    let h = bounds-parts-places c in
    search rules

pub loop-i-init : goal.loop-i-init
loop-i-init c = none_frozen (plain_workload c.args.c.now) (values_of c.args.base.now.items) c.new-frozen.result c.new-frozen.ensures

pub loop-i-preserved : goal.loop-i-preserved
unfolding definitions
loop-i-preserved c =
    let w = plain_workload c.args.c.now in
    let base = c.args.base.now.items in
    let forms = c.forms.ensures.forms in
    let fs = map plain_lcommand c.forms.result.now.forms.items in
    let places = c.forms.result.now.places.items in
    let parts = c.args.parts.now in
    let are = brought_each w base fs places forms parts c.requires.parts in
    let here =
    form_here w fs places c.calls-call-items.result.now c.loop-i.i c.call-item.result forms c.calls-call-items.ensures c.loop-i-test.true c.call-item.is in
    let b = values_of base in
    let calls = c.calls-call-items in
    let call = c.call-item.result in
    let g = plain_ground call in
    let i = c.loop-i.i in
    let within = c.loop-i-test.true in
    let is = c.call-item.is in
    let part =
    made_there shared_part (brought b) fs parts places c.as_slice-places.result.now i are c.as_slice-places.ensures.value here.below
    c.index-parts-places.result (ground_form w g) c.index-parts-places.is here.at in
    let site = (can_here w calls.result.now i call c.requires.accepted calls.ensures within is).site in
    frozen_next w b calls.result.now i call within is site c.loop-i.frozen c.mix.new.self c.need.new.self _ _
    (ap (map plain_atom) c.as_slice.ensures ∙ ap (λ (p : PlanPart). map plain_atom p.atoms.atoms.items) c.deref.ensures ∙ ap (λ (r : Brought). r.atoms) part)
    (c.as_slice-in-loop-i.ensures ∙ ap (λ (p : PlanPart). p.needs.deltas.items) c.deref-in-loop-i.ensures ∙ ap (λ (r : Brought). r.needs) part)
    c.loop-i.invariant c.in_ok-mix.ensures c.in_ok-need.ensures

pub returns-clause-template : goal.returns-clause-template
unfolding definitions
returns-clause-template c =
    let w = plain_workload c.args.c.now in
    let base = c.args.base.now.items in
    let forms = c.forms.ensures.forms in
    let fs = map plain_lcommand c.forms.result.now.forms.items in
    let places = c.forms.result.now.places.items in
    let parts = c.args.parts.now in
    let are = brought_each w base fs places forms parts c.requires.parts in
    let atoms = atoms_each (values_of base) fs parts are in
    let b = values_of base in
    let calls = c.calls-call-items in
    template_is w base c.requires.accepted c.requires.within _ _ c.loop-i.frozen
    (ap₂ (λ n (l : List Clause). map (expanded_clause n) l) c.requires.sites
    (c.in_ok-clauses.ensures
    ∙ ap (clauses_from [])
    (sets_asked shared_atoms w b fs parts places c.as_slice-places.result.now forms atoms c.as_slice-places.ensures.value)))
    (ap (λ l. l.items) c.from_vec.ensures ∙ c.in_ok-freezes.ensures ∙ ap (λ n. frozen_from n 0 c.loop-i.frozen.objects.items) c.requires.sites)
    (all_frozen w b calls.result.now c.loop-i.i c.loop-i.frozen c.loop-i-test.false calls.ensures c.loop-i.invariant)
