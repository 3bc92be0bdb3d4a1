use Rattle.homeo_delta.proofs.ShiftedPlaces.{places_law}
use Rattle.homeo_delta.proofs.laws.transformed_commands_have_places.Goals as goal

pub returns : goal.returns
returns c = places_law
