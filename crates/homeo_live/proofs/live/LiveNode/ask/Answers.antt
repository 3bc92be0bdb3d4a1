use Rattle.homeo_live.specs.Key.{definitions}
use Rattle.std.proofs.Common.{◌<◌, ◌≤◌, length, subst, ◌∙◌}
use Rattle.homeo_live.specs.LiveView.{LiveValue}
use Rattle.homeo_live.proofs.LiveViews.{held_node, held_step, queued_node, queued_step}
use Rattle.homeo_live.proofs.live.LiveNode.ask.Goals as goal

pub returns-then-len-ge-MOST_WAITING-clause-node : goal.returns-then-len-ge-MOST_WAITING-clause-node
returns-then-len-ge-MOST_WAITING-clause-node c =
    held_node c.args.call c.args.self.now.node (subst (λ (v : LiveValue). 64 ≤ length v.node.queue) c.self.view_is (subst (λ k. 64 ≤ k) (c.len.ensures ∙ c.self.inside.queue.ok.0) c.if-len-ge-MOST_WAITING.true))

pub returns-then-len-ge-MOST_WAITING-clause-came_to : goal.returns-then-len-ge-MOST_WAITING-clause-came_to
unfolding definitions
returns-then-len-ge-MOST_WAITING-clause-came_to c =
    held_step c.args.call c.args.self.now.node (subst (λ (v : LiveValue). 64 ≤ length v.node.queue) c.self.view_is (subst (λ k. 64 ≤ k) (c.len.ensures ∙ c.self.inside.queue.ok.0) c.if-len-ge-MOST_WAITING.true))

pub returns-clause-node : goal.returns-clause-node
returns-clause-node c =
    let i = c.self.inside in
    queued_node i.planner i.site.state i.mode i.decided i.states.items i.past i.queue.items c.args.self.now c.self.view_is c.args.call c.push.new.self.items (subst (λ k. k < 64) (c.len.ensures ∙ i.queue.ok.0) c.if-len-ge-MOST_WAITING.false) c.in_ok-push.ensures.items

pub returns-clause-came_to : goal.returns-clause-came_to
unfolding definitions
returns-clause-came_to c =
    queued_step c.args.call c.args.self.now.node (subst (λ (v : LiveValue). length v.node.queue < 64) c.self.view_is (subst (λ k. k < 64) (c.len.ensures ∙ c.self.inside.queue.ok.0) c.if-len-ge-MOST_WAITING.false))
