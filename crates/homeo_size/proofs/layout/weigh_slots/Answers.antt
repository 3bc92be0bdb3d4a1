-- One more slot is weighed.
use Rattle.std.proofs.Common.{map}
use Rattle.homeo_meaning.specs.Schema.{declared_range}
use Rattle.homeo_size.proofs.Layouts.{slot_weighed, slots_weighed}
use Rattle.homeo_size.proofs.layout.weigh_slots.Goals as goal

pub loop-left-preserved : goal.loop-left-preserved
loop-left-preserved c =
    slot_weighed c.args.fields.now c.loop-left.left c.loop-left.weights.items c.weigh_slot.new.weights.items _ c.loop-left-test.true c.in_ok-weigh_slot.ensures c.loop-left.invariant

pub returns : goal.returns
returns c = slots_weighed (map declared_range c.args.fields.now) c.loop-left.left c.loop-left.weights.items _ c.loop-left-test.false c.loop-left.invariant
