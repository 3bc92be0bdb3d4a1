use Rattle.homeo.proofs.Verdicts.{valid_is_sound}
use Rattle.homeo.proofs.laws.valid_bytes_are_sound.Goals as goal

pub returns : goal.returns
returns c = valid_is_sound
