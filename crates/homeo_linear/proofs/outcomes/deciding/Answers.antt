-- The only test, or the first that fails.
use Rattle.std.proofs.Common.{arith}
use Rattle.homeo_form.specs.Standing.{forms_of}
use Rattle.homeo_linear.proofs.Keeping.{only_decides}
use Rattle.homeo_linear.proofs.outcomes.deciding.Goals as goal

pub returns-then-ts-eq1 : goal.returns-then-ts-eq1
returns-then-ts-eq1 c = only_decides (forms_of c.args.standing.now) c.args.ts.now (omega arith) c.requires
