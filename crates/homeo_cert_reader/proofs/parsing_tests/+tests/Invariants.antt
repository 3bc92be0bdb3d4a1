use Rattle.std.proofs.Common.{◌+◌, ◌*◌}
use Rattle.homeo_syntax.specs.LowView.{plain_ltest}
use Rattle.homeo_certificate.specs.Parse.{parse_test}
use Rattle.homeo_cert_reader.proofs.ParseSteps.{SoFar}
use Rattle.homeo_cert_reader.proofs.parsing_tests.+tests.Given as goal

abbrev pub decreases-test : goal.decreases-test
decreases-test l = 2 * l.levels

abbrev pub decreases-tests : goal.decreases-tests
decreases-tests l = 2 * l.levels + 1

abbrev pub invariant-tests-loop : goal.invariant-tests-loop
invariant-tests-loop l = SoFar (parse_test l.levels) plain_ltest l.count l.initial.nodes l.counter l.tests.items l.nodes
