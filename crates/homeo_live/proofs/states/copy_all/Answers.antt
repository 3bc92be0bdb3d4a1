use Rattle.homeo_carry.specs.CarryView.{plain_said}
use Rattle.homeo_live.proofs.LiveLists.{pushed}
use Rattle.homeo_live.proofs.states.copy_all.Goals as goal

pub loop-said-preserved : goal.loop-said-preserved
loop-said-preserved c =
    pushed plain_said c.args.states.now c.loop-said.said-index c.said-item.result c.loop-said.copies.items c.push.new.self.items c.in_ok-copy.field-0 c.loop-said-test.true c.said-item.is c.in_ok-push.ensures.items c.in_ok-copy.ensures c.loop-said.invariant
