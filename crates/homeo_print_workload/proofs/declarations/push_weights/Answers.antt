use Rattle.std.proofs.Common.{sym}
use Rattle.std.proofs.lemmas.Bool.{eqb-true}
use Rattle.homeo_print_workload.specs.Key.{definitions}
use Rattle.homeo_print_workload.proofs.DeclarationSteps.{no_weights, some_weights}
use Rattle.homeo_print_workload.proofs.declarations.push_weights.Goals as goal

pub returns-then-is_empty : goal.returns-then-is_empty
returns-then-is_empty c = record { pushed = no_weights c.args.out.now c.args.weights.now (eqb-true _ _ (sym c.if-is_empty.ensures)) }

pub returns : goal.returns
unfolding definitions
returns c = record {
  pushed = some_weights c.args.out.now c.mark.new.self c.push_numbers.new.out c.args.weights.now c.if-is_empty.ensures c.in_ok-mark.ensures.pushed c.in_ok-push_numbers.ensures.pushed;
}
