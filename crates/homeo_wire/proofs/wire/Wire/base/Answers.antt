use Rattle.homeo_wire.specs.Key.{definitions}
use Rattle.std.proofs.Common.{ap, ◌∙◌}
use Rattle.homeo_wire.specs.Nodes.{Node}
use Rattle.homeo_wire.proofs.wire.Wire.base.Goals as goal

pub returns : goal.returns
unfolding definitions
returns c = λ m there. c.node.ensures.base ∙ ap (λ (x : Node). x.journal.site.base) (c.node.ensures.view m there)
