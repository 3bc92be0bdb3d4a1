use Rattle.homeo_history.specs.Key.{definitions as history_definitions}
use Rattle.homeo_wire.specs.Key.{definitions}
use Rattle.std.proofs.Common.{[], ◌∷◌, ◌++◌, Some, map, sym, ap, ◌∙◌}
use Rattle.std.proofs.lemmas.List.{map-append}
use Rattle.homeo_lemmas.proofs.Lists.{take_past}
use Rattle.homeo_history.specs.HistoryView.{plain_round}
use Rattle.homeo_wire.specs.Read.{rounds_left}
use Rattle.homeo_wire.specs.WireView.{plain_left, plain_journal}
use Rattle.homeo_wire.proofs.Histories.{left_next, left_none}
use Rattle.homeo_wire.proofs.history.rounds_left.Goals as goal

pub loop-i-init : goal.loop-i-init
loop-i-init c = ap (λ l. map plain_round l.items) c.new-rounds.ensures ∙ left_none (map plain_journal c.args.nodes.now) c.args.left.now

pub loop-i-preserved : goal.loop-i-preserved
unfolding history_definitions definitions
loop-i-preserved c =
    let js = map plain_journal c.args.nodes.now in
    let before = c.loop-i.rounds.items in
    ap (λ l. map plain_round l.items) c.in_ok-push.ensures.ok
    ∙ map-append plain_round before (_ ∷ [])
    ∙ (λ k. c.loop-i.invariant k ++ record { base = (c.in_ok-copy_values.ensures ∙ c.as_slice.ensures) k; segments = c.in_ok-ran_by_all.ensures k; closing = Some (c.in_ok-copy_closing.ensures k) } ∷ [])
    ∙ sym (left_next js c.args.left.now c.loop-i.i c.index-left-i.result c.loop-i-test.true c.index-left-i.is)

pub returns : goal.returns
returns c = c.loop-i.invariant ∙ ap (λ ls. rounds_left (map plain_journal c.args.nodes.now) 0 (map plain_left ls)) (take_past c.args.left.now c.loop-i.i c.loop-i-test.false)
