-- The same expressions at the same places.
use Rattle.homeo_substitution.specs.Bindings.{bound}
use Rattle.homeo_substitution.specs.Shared.{plain_shared}
use Rattle.homeo_split.proofs.SamePlaces.{is_at}
use Rattle.homeo_substitution.proofs.Bound.{bound-same}
use Rattle.homeo_substitution.proofs.bindings.Bindings.copy.Goals as goal

pub returns : goal.returns
unfolding bound
returns c = λ i l. bound-same (λ e. e.value) plain_shared _ _ c.in_ok-clone.ensures.cases (is_at l) i
