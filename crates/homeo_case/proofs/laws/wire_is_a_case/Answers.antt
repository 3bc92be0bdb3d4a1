use Rattle.homeo_case.proofs.Worlds.{is_case}
use Rattle.homeo_case.proofs.laws.wire_is_a_case.Goals as goal

pub returns : goal.returns
returns c = is_case
