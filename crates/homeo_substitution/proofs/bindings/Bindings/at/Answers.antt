-- What the map has at the place.
use Rattle.std.proofs.Common.{◌∙◌}
use Rattle.homeo_substitution.specs.Bindings.{bound}
use Rattle.homeo_substitution.specs.Shared.{plain_shared}
use Rattle.homeo_substitution.proofs.Bound.{map-copied, bound-at}
use Rattle.homeo_substitution.proofs.bindings.Bindings.at.Goals as goal

pub returns : goal.returns
unfolding bound
returns c =
    map-copied (λ e. plain_shared e.value) c.get.result
    ∙ bound-at (λ e. plain_shared e.value) c.args.self.now.expressions c.args.place _ c.get.ensures.value
