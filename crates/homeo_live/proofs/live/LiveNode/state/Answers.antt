use Rattle.homeo_live.specs.Key.{definitions}
use Rattle.std.proofs.Common.{ap, map, ◌∙◌}
use Rattle.homeo_live.specs.LiveView.{LiveValue, plain_state}
use Rattle.homeo_live.proofs.Begun.{state_is}
use Rattle.homeo_live.proofs.live.LiveNode.state.Goals as goal

pub returns : goal.returns
unfolding definitions
returns c =
    state_is c.self.inside.site.state c.self.inside.mode c.self.inside.decided c.in_ok-copy_states.field-0.items c.self.inside.states.items c.self.inside.past c.in_ok-copy_past.field-0 c.self.inside.queue.items c.in_ok-from_slice.field-0.items c.number.result c.round.result c.in_ok-copy_values.field-0.items c.in_ok-copy_values-2.field-0.items c.number.ensures.number c.round.ensures (c.in_ok-copy_values.ensures ∙ c.base.ensures.base) (c.in_ok-copy_values-2.ensures ∙ c.deltas.ensures.deltas) (c.in_ok-copy_states.ensures ∙ ap (map plain_state) c.as_slice.ensures.value) c.in_ok-copy_past.ensures (c.in_ok-from_slice.ensures.items ∙ c.as_slice-2.ensures.value)
    ∙ ap (λ (v : LiveValue). v.node) c.self.view_is
