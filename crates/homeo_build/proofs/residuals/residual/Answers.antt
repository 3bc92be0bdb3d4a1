-- The command at the number is that of the ground call there, so the row that is walked is the call's.
use Rattle.std.proofs.Common.{Some, sym, ap, subst, ◌∙◌}
use Rattle.std.specs.Prelude.{slice_get}
use Rattle.homeo_syntax.specs.Low.{Command}
use Rattle.homeo_syntax.specs.LowView.{plain_lcommand}
use Rattle.homeo_syntax.specs.SourceView.{plain_workload}
use Rattle.homeo_syntax.specs.declared.workload.Workload.{Workload}
use Rattle.homeo_meaning.specs.Acceptance.{IsAccepted}
use Rattle.homeo_meaning.specs.Ground.{plain_ground}
use Rattle.homeo_meaning.specs.LowMeaning.{whole}
use Rattle.homeo_meaning.specs.Serial.{values_of}
use Rattle.homeo_plan.specs.Key.{definitions as plan_definitions}
use Rattle.homeo_plan.specs.Planned.{sites_of}
use Rattle.homeo_plan.specs.Table.{Row, table, row_at}
use Rattle.homeo_split.specs.CanExec.{run_limit, can_exec}
use Rattle.homeo_build.specs.Key.{definitions}
use Rattle.homeo_build.specs.Plan.{residual_at}
use Rattle.homeo_build.proofs.FormsMade.{placed_map}
use Rattle.homeo_build.proofs.GroundCalls.{of_call, of_calls, command_is, can_here, ground_below}
use Rattle.homeo_build.proofs.Planning.{can_plan}
use Rattle.homeo_build.proofs.Undivided.{undivided}
use Rattle.homeo_build.proofs.residuals.residual.Goals as goal

pub bounds-calls-number : goal.bounds-calls-number
bounds-calls-number c =
    let calls = c.calls-calls in
    ground_below (plain_workload c.args.c.now) calls.result.now c.args.number calls.ensures c.requires.number

pub walk-requires : goal.walk-requires
walk-requires c =
    let w = plain_workload c.args.c.now in
    let base = c.args.base.now.items in
    let calls = c.calls-calls in
    let n = c.args.number in
    let call = c.index-calls-number.result in
    let command = c.in_ok-command.command in
    let within = ground_below w calls.result.now n calls.ensures c.requires.number in
    let accepted = subst (λ (v : Workload). IsAccepted (plain_workload v)) c.workload.ensures c.workload-workload.ensures.accepted in
    let can = can_here w calls.result.now n call accepted calls.ensures within c.index-calls-number.is in
    let plan = can_plan w (plain_ground call) base accepted can.called.made c.requires.within can.site in
    let same = command_is w calls.result.now n call (plain_lcommand command) calls.ensures within c.index-calls-number.is c.in_ok-command.ensures in
    ap (can_exec run_limit (plain_lcommand command)) (undivided c.in_ok-split.split c.in_ok-split.ensures.deltas)
    ∙ ap (λ values. can_exec run_limit (plain_lcommand command) (whole (values_of values))) c.in_ok-split.ensures.base
    ∙ ap (λ (d : Command). can_exec run_limit d (whole (values_of base))) same ∙ plan.runs

pub returns : goal.returns
unfolding plan_definitions definitions
returns c =
    let w = plain_workload c.args.c.now in
    let k = sites_of w in
    let base = c.args.base.now.items in
    let b = values_of base in
    let calls = c.calls-calls in
    let n = c.args.number in
    let call = c.index-calls-number.result in
    let command = c.in_ok-command.command in
    let within = ground_below w calls.result.now n calls.ensures c.requires.number in
    let same = command_is w calls.result.now n call (plain_lcommand command) calls.ensures within c.index-calls-number.is c.in_ok-command.ensures in
    let row =
    c.in_ok-row.ensures.row ∙ ap (row_at (table (plain_lcommand command))) (undivided c.in_ok-split.split c.in_ok-split.ensures.deltas)
    ∙ ap (λ values. row_at (table (plain_lcommand command)) (whole (values_of values))) c.in_ok-split.ensures.base
    ∙ ap (λ (d : Command). row_at (table d) (whole b)) same in
    let residual = ap (λ (r : Row). r.residual) row in
    sym (ap (λ l. slice_get l n) (of_calls w (residual_at k b) calls.result.now calls.ensures))
    ∙ placed_map (of_call w (residual_at k b)) calls.result.now n call within c.index-calls-number.is
    ∙ sym (λ at. Some (record { site = call.site; residual = residual at }))
