use Rattle.std.proofs.Common.{◌++◌, map, take, append-nil, append_assoc, sym, ap, ◌∙◌}
use Rattle.homeo_syntax.specs.SourceView.{plain_workload}
use Rattle.homeo_history.specs.Key.{definitions as history_definitions}
use Rattle.homeo_history.specs.HistoryView.{plain_round}
use Rattle.homeo_report.specs.Key.{definitions}
use Rattle.homeo_report.specs.Report.{round_text, rounds_text}
use Rattle.homeo_report.proofs.RoundLines.{rounds_more}
use Rattle.homeo_report.proofs.rounds.push_rounds.Goals as goal

pub loop-number-init : goal.loop-number-init
unfolding definitions history_definitions
loop-number-init c = sym (append-nil c.args.out.now.items)

pub loop-number-preserved : goal.loop-number-preserved
loop-number-preserved c =
    let w = plain_workload c.args.w.now in
    let k = c.loop-number.number in
    let rounds = c.args.rounds.now in
    let item = c.index-rounds-number.result in
    let r = plain_round item in
    let before = rounds_text w (map plain_round (take k rounds)) in
    c.in_ok-push_round.ensures ∙ ap (λ l. l ++ round_text w k r) c.loop-number.invariant ∙ append_assoc c.args.out.now.items before (round_text w k r)
    ∙ ap (λ l. c.args.out.now.items ++ l) (sym (rounds_more w rounds k item c.loop-number-test.true c.index-rounds-number.is))
