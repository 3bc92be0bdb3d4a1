use Rattle.std.proofs.Common.{◌∙◌}
use Rattle.homeo_live.proofs.LivePackets.{said_here}
use Rattle.homeo_live.proofs.live.LiveNode.said.Goals as goal

pub returns : goal.returns
returns c =
    let i = c.self.inside in
    said_here i.planner i.site.state i.mode i.decided i.states.items i.past i.queue.items c.args.self.now _ c.self.view_is (c.in_ok-copy_values.ensures ∙ c.deltas.ensures.deltas) (c.in_ok-from_slice.ensures.items ∙ c.as_slice.ensures.value)
