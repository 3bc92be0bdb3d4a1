use Rattle.homeo_delta.proofs.SmallShifts.{runs_law, leaves_law}
use Rattle.homeo_delta.proofs.laws.transformed_commands_can_run.Goals as goal

pub returns-clause-runs : goal.returns-clause-runs
returns-clause-runs c = runs_law

pub returns-clause-leaves : goal.returns-clause-leaves
returns-clause-leaves c = leaves_law
