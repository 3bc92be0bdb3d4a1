use Rattle.homeo_follow.proofs.PlannedAtoms.{atoms_are_followed}
use Rattle.homeo_follow.proofs.laws.atoms_are_followed.Goals as goal

pub returns : goal.returns
returns c = atoms_are_followed
