-- The next call is one of those that are called.
use Rattle.std.proofs.Common.{◌<◌, sym, ap, ◌∙◌, subst}
use Rattle.std.proofs.lemmas.List.{get_or-map, length-map}
use Rattle.std.proofs.lemmas.List.Elements.{All-get_or}
use Rattle.homeo_syntax.specs.SourceView.{plain_workload}
use Rattle.homeo_meaning.specs.Ground.{plain_ground}
use Rattle.homeo_ground.specs.Grounding.{IsCalled}
use Rattle.homeo_tests.proofs.forms.run_round.Goals as goal

pub run_both-prints-requires-clause-called : goal.run_both-prints-requires-clause-called
run_both-prints-requires-clause-called g c =
    let Called = IsCalled (plain_workload c.args.w.now) in
    let i = c.loop-call.call-index in
    let call = c.call-item.result in
    let within = subst (λ n. i < n) (sym (length-map c.args.calls.now plain_ground)) c.loop-call-test.true in
    subst Called (get_or-map plain_ground c.args.calls.now i call (plain_ground call) c.loop-call-test.true ∙ ap plain_ground (sym c.call-item.is)) (All-get_or Called _ i (plain_ground call) within c.requires.called)
