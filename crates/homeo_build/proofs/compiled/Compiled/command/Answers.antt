-- The form at the number is that of the ground call there, so its transform is the call's.
use Rattle.std.proofs.Common.{◌<◌, map, Some, sym, ap, ap₂, subst, ◌∙◌, arith}
use Rattle.std.specs.Prelude.{slice_get}
use Rattle.std.proofs.lemmas.List.{length-map}
use Rattle.std.proofs.lemmas.Result.{IfOk-weaker}
use Rattle.homeo_lemmas.proofs.Places.{one_placed}
use Rattle.homeo_syntax.specs.LowView.{plain_lcommand}
use Rattle.homeo_syntax.specs.SourceView.{plain_workload}
use Rattle.homeo_syntax.specs.declared.workload.Workload.{Workload}
use Rattle.homeo_meaning.specs.Acceptance.{IsAccepted}
use Rattle.homeo_meaning.specs.CallForm.{ground_form}
use Rattle.homeo_meaning.specs.Ground.{plain_ground}
use Rattle.homeo_meaning.specs.Whole.{IsWhole}
use Rattle.homeo_lform.proofs.Wholes.{ground_whole}
use Rattle.homeo_plan.specs.Key.{definitions as plan_definitions}
use Rattle.homeo_plan.specs.Planned.{sites_of}
use Rattle.homeo_plan.specs.Split.{shift}
use Rattle.homeo_plan.specs.Template.{shifted}
use Rattle.homeo_build.proofs.FormsMade.{form_here, placed_map}
use Rattle.homeo_build.proofs.GroundCalls.{of_call, of_calls, can_here, ground_below}
use Rattle.homeo_build.proofs.compiled.Compiled.command.Goals as goal

pub bounds-calls-number : goal.bounds-calls-number
bounds-calls-number c = ground_below (plain_workload c.args.self.now) c.calls-calls.result.now c.args.number c.calls-calls.ensures c.requires

pub form-form-requires-clause-within : goal.form-form-requires-clause-within
form-form-requires-clause-within c =
    let w = plain_workload c.args.self.now in
    let calls = c.calls-calls in
    let within = ground_below w calls.result.now c.args.number calls.ensures c.requires in
    (form_here w _ _ calls.result.now c.args.number c.index-calls-number.result c.forms.ensures.forms calls.ensures within c.index-calls-number.is).within

pub form-form-requires-clause-placed : goal.form-form-requires-clause-placed
form-form-requires-clause-placed c =
    let w = plain_workload c.args.self.now in
    let calls = c.calls-calls in
    let within = ground_below w calls.result.now c.args.number calls.ensures c.requires in
    let h = form_here w _ _ calls.result.now c.args.number c.index-calls-number.result c.forms.ensures.forms calls.ensures within c.index-calls-number.is in
    omega (arith, h.below, length-map c.forms.result.now.forms.items plain_lcommand)

pub transform-requires-clause-whole : goal.transform-requires-clause-whole
transform-requires-clause-whole c =
    let w = plain_workload c.args.self.now in
    let calls = c.calls-calls in
    let call = c.index-calls-number.result in
    let within = ground_below w calls.result.now c.args.number calls.ensures c.requires in
    let h = form_here w _ _ calls.result.now c.args.number call c.forms.ensures.forms calls.ensures within c.index-calls-number.is in
    let form = one_placed (map plain_lcommand c.forms.result.now.forms.items) _ (plain_lcommand c.form-form.result.now) (ground_form w (plain_ground call)) c.form-form.ensures h.at in
    subst IsWhole (sym form) (ground_whole w (plain_ground call))

pub transform-requires-clause-site : goal.transform-requires-clause-site
transform-requires-clause-site c =
    let w = plain_workload c.args.self.now in
    let calls = c.calls-calls in
    let call = c.index-calls-number.result in
    let within = ground_below w calls.result.now c.args.number calls.ensures c.requires in
    let accepted = subst (λ (v : Workload). IsAccepted (plain_workload v)) c.workload.ensures c.site_count-sites.ensures.accepted in
    let can = can_here w calls.result.now c.args.number call accepted calls.ensures within c.index-calls-number.is in
    subst (λ k. call.site < k) (sym (c.site_count-sites.ensures.sites ∙ ap (λ (v : Workload). sites_of (plain_workload v)) c.workload.ensures)) can.site

pub returns : goal.returns
unfolding plan_definitions
returns c =
    let w = plain_workload c.args.self.now in
    let calls = c.calls-calls in
    let n = c.args.number in
    let call = c.index-calls-number.result in
    let within = ground_below w calls.result.now n calls.ensures c.requires in
    let h = form_here w _ _ calls.result.now n call c.forms.ensures.forms calls.ensures within c.index-calls-number.is in
    let form = one_placed (map plain_lcommand c.forms.result.now.forms.items) _ (plain_lcommand c.form-form.result.now) (ground_form w (plain_ground call)) c.form-form.ensures h.at in
    let sites = c.site_count-sites.ensures.sites ∙ ap (λ (v : Workload). sites_of (plain_workload v)) c.workload.ensures in
    IfOk-weaker c.transform.result _ _ (λ d is.
    sym (ap (λ l. slice_get l n) (of_calls w (shifted (sites_of w)) calls.result.now calls.ensures))
    ∙ placed_map (of_call w (shifted (sites_of w))) calls.result.now n call within c.index-calls-number.is
    ∙ ap Some (sym (is ∙ ap₂ (λ k f. shift k call.site f) sites form))) c.transform.ensures.form
