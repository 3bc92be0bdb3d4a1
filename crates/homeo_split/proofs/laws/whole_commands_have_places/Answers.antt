use Rattle.homeo_split.proofs.WholePlaces.{places_law}
use Rattle.homeo_split.proofs.laws.whole_commands_have_places.Goals as goal

pub returns : goal.returns
returns c = places_law
