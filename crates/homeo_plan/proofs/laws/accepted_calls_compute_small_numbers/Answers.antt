use Rattle.homeo_plan.proofs.GroundNumbers.{fold_numbers}
use Rattle.homeo_plan.proofs.laws.accepted_calls_compute_small_numbers.Goals as goal

pub returns : goal.returns
returns c = fold_numbers
