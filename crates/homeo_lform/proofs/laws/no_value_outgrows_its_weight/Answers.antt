use Rattle.homeo_lform.proofs.Light.{value_covered, run_covered, covers_start}
use Rattle.homeo_lform.proofs.laws.no_value_outgrows_its_weight.Goals as goal

pub returns-clause-expressions : goal.returns-clause-expressions
returns-clause-expressions c = value_covered

pub returns-clause-commands : goal.returns-clause-commands
returns-clause-commands c = run_covered

pub returns-clause-calls : goal.returns-clause-calls
returns-clause-calls c = covers_start
