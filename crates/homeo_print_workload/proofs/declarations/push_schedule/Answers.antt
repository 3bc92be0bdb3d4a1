use Rattle.homeo_print_workload.proofs.DeclarationSteps.{no_schedule}
use Rattle.homeo_print_workload.proofs.declarations.push_schedule.Goals as goal

pub returns-in-None : goal.returns-in-None
returns-in-None c = record { pushed = no_schedule c.args.out.now c.args.schedule.now c.in-None.is }
