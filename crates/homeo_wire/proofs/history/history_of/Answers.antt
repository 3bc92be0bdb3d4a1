use Rattle.homeo_history.specs.Key.{definitions as history_definitions}
use Rattle.homeo_wire.specs.Key.{definitions}
use Rattle.std.proofs.Common.{◌≡◌, [], map, sym, ap, ◌∙◌}
use Rattle.std.specs.Prelude.{◌==◌}
use Rattle.std.specs.Option.{option_map_or}
use Rattle.std.proofs.lemmas.Result.{IfOk-weaker}
use Rattle.std.proofs.lemmas.Bool.{eq-eqb, ne_eqb}
use Rattle.homeo_lemmas.proofs.Places.{get_read}
use Rattle.homeo_history.specs.HistoryView.{plain_round}
use Rattle.homeo_wire.specs.Nodes.{Journal}
use Rattle.homeo_wire.specs.Read.{last_round, history_by}
use Rattle.homeo_wire.specs.WireView.{plain_journal}
use Rattle.homeo_wire.proofs.Histories.{find_next, find_here, find_end}
use Rattle.homeo_wire.proofs.history.history_of.Goals as goal

pub history_by-requires-clause-rounds : goal.history_by-requires-clause-rounds
history_by-requires-clause-rounds c =
    (c.requires.own c.loop-node.node-index c.node-item.result (get_read c.args.nodes.now c.loop-node.node-index c.node-item.result c.loop-node-test.true c.node-item.is)).rounds

pub history_by-requires-clause-base : goal.history_by-requires-clause-base
history_by-requires-clause-base c =
    (c.requires.own c.loop-node.node-index c.node-item.result (get_read c.args.nodes.now c.loop-node.node-index c.node-item.result c.loop-node-test.true c.node-item.is)).base_is

pub history_by-requires-clause-fits : goal.history_by-requires-clause-fits
history_by-requires-clause-fits c =
    c.requires.fits c.loop-node.node-index c.node-item.result (get_read c.args.nodes.now c.loop-node.node-index c.node-item.result c.loop-node-test.true c.node-item.is) (sym c.round.ensures ∙ c.if-round-last.true ∙ c.last_round-last.ensures)

pub returns-then-round-last : goal.returns-then-round-last
unfolding definitions
returns-then-round-last c =
    let js = map plain_journal c.args.nodes.now in
    let x = c.node-item.result in
    let same : x.site.state.round ≡ last_round js = sym c.round.ensures ∙ c.if-round-last.true ∙ c.last_round-last.ensures in
    let is = c.loop-node.invariant ∙ find_here (λ (j : Journal). j.site.round == last_round js) c.args.nodes.now c.loop-node.node-index x c.loop-node-test.true c.node-item.is (eq-eqb x.site.state.round (last_round js) same) in
    IfOk-weaker c.history_by.result _ _ (λ h e. e ∙ ap (λ o. option_map_or (history_by js) o (record { rounds = []; last = [] })) (sym is)) c.history_by.ensures

pub loop-node-preserved : goal.loop-node-preserved
unfolding definitions
loop-node-preserved c =
    let js = map plain_journal c.args.nodes.now in
    let x = c.node-item.result in
    c.loop-node.invariant ∙ find_next (λ (j : Journal). j.site.round == last_round js) c.args.nodes.now c.loop-node.node-index x c.loop-node-test.true c.node-item.is (ne_eqb x.site.state.round (last_round js) (λ e. c.if-round-last.false (c.round.ensures ∙ e ∙ sym c.last_round-last.ensures)))

pub returns : goal.returns
unfolding definitions history_definitions
returns c =
    let js = map plain_journal c.args.nodes.now in
    let is = c.loop-node.invariant ∙ find_end (λ (j : Journal). j.site.round == last_round js) c.args.nodes.now c.loop-node.node-index c.loop-node-test.false in
    (λ k. record { rounds = ap (λ l. map plain_round l.items) c.new.ensures k; last = ap (λ l. l.items) c.new-2.ensures k })
    ∙ ap (λ o. option_map_or (history_by js) o (record { rounds = []; last = [] })) (sym is)
