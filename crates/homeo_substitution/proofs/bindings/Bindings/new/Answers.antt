-- No place is set.
use Rattle.std.proofs.Common.{ap}
use Rattle.std.specs.Map.{lookup}
use Rattle.std.specs.Option.{option_map}
use Rattle.homeo_substitution.specs.Bindings.{bound}
use Rattle.homeo_substitution.specs.Shared.{plain_shared}
use Rattle.homeo_split.proofs.SamePlaces.{is_at}
use Rattle.homeo_substitution.proofs.bindings.Bindings.new.Goals as goal

pub returns : goal.returns
unfolding bound
returns c = λ i l. ap (λ es. option_map (λ e. plain_shared e.value) (lookup (is_at l) es)) c.new.ensures.empty i
