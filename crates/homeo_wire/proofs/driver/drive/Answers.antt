use Rattle.homeo_wire.specs.Key.{definitions}
use Rattle.std.proofs.Common.{◌≡◌, ◌+◌, ◌*◌, length, Some, ap, subst, ◌∙◌}
use Rattle.std.specs.Prelude.{IfErr, IfOk, option_map}
use Rattle.std.proofs.lemmas.Result.{IfOk-weaker}
use Rattle.homeo_syntax.specs.Source as s
use Rattle.homeo_syntax.specs.SourceView.{plain_workload}
use Rattle.homeo_wire.specs.Drive.{calls_in, excess, turns, until_made}
use Rattle.homeo_wire.specs.Nodes.{after, at_start}
use Rattle.homeo_wire.specs.Read.{history_in}
use Rattle.homeo_wire.specs.WireView.{WireValue}
use Rattle.homeo_wire.proofs.Driving.{driven, too_many}
use Rattle.homeo_wire.proofs.driver.drive.Goals as goal

pub unreachable-requires : goal.unreachable-requires
unreachable-requires c =
    let w = plain_workload c.args.c.value in
    let same : plain_workload c.workload.result.now ≡ w = ap plain_workload (c.workload.ensures ∙ c.deref.ensures) in
    let past : option_map (λ (k : s.Call). k.name) (excess (plain_workload c.workload.result.now)) ≡ Some c.in-Err.field-0 = subst (λ r. IfErr r (λ name. option_map (λ (k : s.Call). k.name) (excess (plain_workload c.workload.result.now)) ≡ Some name)) c.in-Err.is c.count_calls.ensures.excess in
    too_many w c.in-Err.field-0 (subst (λ v. option_map (λ (k : s.Call). k.name) (excess v) ≡ Some c.in-Err.field-0) same past) c.requires

pub returns-clause-history : goal.returns-clause-history
unfolding definitions
returns-clause-history c =
    let w = plain_workload c.args.c.value in
    let same : plain_workload c.workload.result.now ≡ w = ap plain_workload (c.workload.ensures ∙ c.deref.ensures) in
    let counted : c.in-Ok.calls ≡ length (calls_in w) = subst (λ r. IfOk r (λ k. k ≡ length (calls_in (plain_workload c.workload.result.now)))) c.in-Ok.is c.count_calls.ensures.counted ∙ ap (λ v. length (calls_in v)) same in
    let begun : c.in_ok-wire.wire ≡ record { work = c.args.c.value; world = at_start w } = c.in_ok-wire.ensures in
    let work : plain_workload c.turns.new.wire.work ≡ w = ap plain_workload c.in_ok-turns.ensures.work ∙ ap (λ (v : WireValue). plain_workload v.work) begun in
    let first : c.turns.new.wire.world ≡ after w (turns w (at_start w) c.args.number (16 * c.in-Ok.calls + 16)) (at_start w) =
    c.in_ok-turns.ensures.world ∙ ap (λ (v : WireValue). after (plain_workload v.work) (turns (plain_workload v.work) v.world c.args.number (16 * c.in-Ok.calls + 16)) v.world) begun in
    let then : c.until_made.new.wire.world ≡ after w (until_made w c.turns.new.wire.world (c.in-Ok.calls + 1)) c.turns.new.wire.world =
    c.in_ok-until_made.ensures.world ∙ ap (λ v. after v (until_made v c.turns.new.wire.world (c.in-Ok.calls + 1)) c.turns.new.wire.world) work in
    IfOk-weaker c.finish.result _ _ (λ h is. is ∙ ap history_in (driven w c.args.number c.in-Ok.calls c.turns.new.wire.world c.until_made.new.wire.world counted first then)) c.finish.ensures.history
