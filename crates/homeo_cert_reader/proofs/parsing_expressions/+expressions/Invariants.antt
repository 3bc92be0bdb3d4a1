use Rattle.std.proofs.Common.{◌+◌, ◌*◌}
use Rattle.homeo_syntax.specs.LowView.{plain_lexpr}
use Rattle.homeo_certificate.specs.Parse.{parse_expr}
use Rattle.homeo_cert_reader.proofs.ParseSteps.{SoFar}
use Rattle.homeo_cert_reader.proofs.parsing_expressions.+expressions.Given as goal

abbrev pub decreases-expression : goal.decreases-expression
decreases-expression l = 2 * l.levels

abbrev pub decreases-expressions : goal.decreases-expressions
decreases-expressions l = 2 * l.levels + 1

abbrev pub invariant-expressions-loop : goal.invariant-expressions-loop
invariant-expressions-loop l = SoFar (parse_expr l.levels) plain_lexpr l.count l.initial.nodes l.counter l.es.items l.nodes
