use Rattle.std.proofs.Common.{map, sym, ap, ◌∙◌}
use Rattle.std.proofs.lemmas.List.{take_all}
use Rattle.homeo_lemmas.proofs.Options.{some_of}
use Rattle.homeo_nodes.specs.Nodes.{all_of}
use Rattle.homeo_live.specs.LiveView.{plain_state}
use Rattle.homeo_live.proofs.LiveLists.{kept_next}
use Rattle.homeo_live.proofs.StateLists.{state_missing}
use Rattle.homeo_live.proofs.states.kept_states.Goals as goal

pub unreachable-requires : goal.unreachable-requires
unreachable-requires c =
    let all = some_of (all_of (map plain_state c.args.states.now)) c.requires in
    state_missing c.args.states.now c.loop-state.state-index c.state-item.result all.0 all.1 c.loop-state-test.true c.state-item.is c.in-None.is

pub loop-state-preserved : goal.loop-state-preserved
loop-state-preserved c =
    kept_next c.args.states.now c.loop-state.state-index c.state-item.result c.in-Some.said c.loop-state.all.items c.push.new.self.items c.in_ok-copy-in-Some.field-0 c.loop-state-test.true c.state-item.is c.in-Some.is c.in_ok-push-in-Some.ensures.items c.in_ok-copy-in-Some.ensures c.loop-state.invariant

pub returns : goal.returns
returns c = ap (λ xs. all_of (map plain_state xs)) (sym (take_all _ _ c.loop-state-test.false)) ∙ c.loop-state.invariant
