-- The objects of the next part stand behind those of the parts before it.
use Rattle.std.proofs.Common.{append-nil, sym}
use Rattle.homeo_syntax.specs.LowView.{plain_ltest}
use Rattle.homeo_follow.specs.Named.{named_in_test}
use Rattle.homeo_build.proofs.NamedObjects.{tests_flat, named_more, named_done}
use Rattle.homeo_build.proofs.names.+conditions.Goals as goal

pub push_in_tests-loop-test-init : goal.push_in_tests-loop-test-init
push_in_tests-loop-test-init n c = sym (append-nil c.args.names.now.items)

pub push_in_tests-loop-test-preserved : goal.push_in_tests-loop-test-preserved
push_in_tests-loop-test-preserved n c =
    named_more (λ t. named_in_test (plain_ltest t)) c.args.tests.now c.loop-test.test-index c.test-item.result _ c.loop-test.names.items c.args.names.now.items
    c.loop-test-test.true c.test-item.is c.in_ok-push_in_test.ensures c.loop-test.invariant

pub push_in_tests-returns : goal.push_in_tests-returns
push_in_tests-returns n c =
    named_done (λ t. named_in_test (plain_ltest t)) c.args.tests.now c.loop-test.test-index c.loop-test.names.items c.args.names.now.items _
    c.loop-test-test.false c.loop-test.invariant (tests_flat plain_ltest c.args.tests.now)
