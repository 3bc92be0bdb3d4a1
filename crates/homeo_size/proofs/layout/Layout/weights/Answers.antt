-- The weights are those of the schema's bounds.
use Rattle.std.proofs.Common.{map, ap, ◌∙◌}
use Rattle.homeo_meaning.specs.Bounds.{all_bounds}
use Rattle.homeo_size.specs.inner.Laid.{capped_weight}
use Rattle.homeo_size.proofs.layout.Layout.weights.Goals as goal

pub returns : goal.returns
returns c =
    c.as_slice.ensures.value ∙ c.self.invariant ∙ ap (λ x. map capped_weight (all_bounds x)) c.self.view_is
