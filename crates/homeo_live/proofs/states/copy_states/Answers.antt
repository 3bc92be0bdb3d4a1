use Rattle.homeo_live.specs.LiveView.{plain_state}
use Rattle.homeo_live.proofs.LiveLists.{pushed}
use Rattle.homeo_live.proofs.states.copy_states.Goals as goal

pub loop-state-preserved : goal.loop-state-preserved
loop-state-preserved c =
    pushed plain_state c.args.states.now c.loop-state.state-index c.state-item.result c.loop-state.copies.items c.push.new.self.items c.in_ok-copy.copy c.loop-state-test.true c.state-item.is c.in_ok-push.ensures.items c.in_ok-copy.ensures c.loop-state.invariant
