-- One more delta is added.
use Rattle.homeo_form.proofs.Orders.{adds_start, adds_step, adds_end}
use Rattle.homeo_form.proofs.deltas.collected.Goals as goal

pub loop-delta-init : goal.loop-delta-init
loop-delta-init c = let s = adds_start c.args.deltas.now c.new-once.result.items c.new-once.ensures.items in record { order = s.0; left = s.1 }

pub loop-delta-preserved : goal.loop-delta-preserved
loop-delta-preserved c =
    let s =
    adds_step c.args.deltas.now c.loop-delta.once.items c.add_delta.new.deltas.items _ c.loop-delta.delta-index _ c.loop-delta-test.true
    c.loop-delta.invariant.order c.in_ok-add_delta.ensures c.loop-delta.invariant.left in
    record { order = s.0; left = s.1 }

pub returns : goal.returns
returns c = adds_end c.args.deltas.now c.loop-delta.once.items _ c.loop-delta.delta-index c.loop-delta-test.false c.loop-delta.invariant.left
