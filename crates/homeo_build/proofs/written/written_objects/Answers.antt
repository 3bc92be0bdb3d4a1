-- The form of each call marks the row of the call's site.
use Rattle.std.proofs.Common.{map, arith}
use Rattle.std.proofs.lemmas.List.{length-map}
use Rattle.homeo_lemmas.proofs.Places.{one_placed}
use Rattle.homeo_syntax.specs.LowView.{plain_lcommand}
use Rattle.homeo_syntax.specs.SourceView.{plain_workload}
use Rattle.homeo_meaning.specs.CallForm.{ground_form}
use Rattle.homeo_meaning.specs.Ground.{plain_ground}
use Rattle.homeo_build.proofs.FormsMade.{form_here}
use Rattle.homeo_build.proofs.GroundCalls.{can_here}
use Rattle.homeo_build.proofs.WrittenDeltas.{tell_begin, tell_more, tell_all}
use Rattle.homeo_build.proofs.written.written_objects.Goals as goal

pub loop-i-init : goal.loop-i-init
loop-i-init c = tell_begin (plain_workload c.args.w.now) c.args.calls.now _ _ c.site_count-sites.ensures.sites c.in_ok-rows.ensures

pub form-form-requires-clause-within : goal.form-form-requires-clause-within
form-form-requires-clause-within c =
    (form_here (plain_workload c.args.w.now) (map plain_lcommand c.args.forms.now.forms.items) c.args.forms.now.places.items c.args.calls.now c.loop-i.i
    c.index-calls-i.result c.requires.forms c.requires.calls c.loop-i-test.true c.index-calls-i.is).within

pub form-form-requires-clause-placed : goal.form-form-requires-clause-placed
form-form-requires-clause-placed c =
    let forms = c.args.forms.now in
    let h =
    form_here (plain_workload c.args.w.now) (map plain_lcommand forms.forms.items) forms.places.items c.args.calls.now c.loop-i.i
    c.index-calls-i.result c.requires.forms c.requires.calls c.loop-i-test.true c.index-calls-i.is in
    omega (arith, h.below, length-map forms.forms.items plain_lcommand)

pub index_mut-requires : goal.index_mut-requires
index_mut-requires c =
    let w = plain_workload c.args.w.now in
    let can = can_here w c.args.calls.now c.loop-i.i c.index-calls-i.result c.site_count-sites.ensures.accepted c.requires.calls c.loop-i-test.true c.index-calls-i.is in
    let site = can.site in
    let count = c.loop-i.invariant.count in
    omega (arith, site, count, length-map c.loop-i.rows.items (λ row. row.items))

pub loop-i-preserved : goal.loop-i-preserved
loop-i-preserved c =
    let w = plain_workload c.args.w.now in
    let forms = c.args.forms.now in
    let calls = c.args.calls.now in
    let i = c.loop-i.i in
    let call = c.index-calls-i.result in
    let can = can_here w calls i call c.site_count-sites.ensures.accepted c.requires.calls c.loop-i-test.true c.index-calls-i.is in
    let h =
    form_here w (map plain_lcommand forms.forms.items) forms.places.items calls i call c.requires.forms c.requires.calls c.loop-i-test.true c.index-calls-i.is in
    let form = one_placed (map plain_lcommand forms.forms.items) _ (plain_lcommand c.form-form.result.now) (ground_form w (plain_ground call)) c.form-form.ensures h.at in
    tell_more w calls i call c.loop-i-test.true c.index-calls-i.is (λ row. row.items) c.loop-i.rows.items c.index_mut.result.now c.mark.new.row
    (plain_lcommand c.form-form.result.now) can.site form c.index_mut.ensures.value c.in_ok-mark.ensures c.loop-i.invariant

pub returns : goal.returns
returns c = tell_all (plain_workload c.args.w.now) c.args.calls.now c.loop-i.i _ c.loop-i-test.false c.requires.calls c.loop-i.invariant
