-- One more of a list, and the end.
use Rattle.homeo_cert.proofs.Listings.{tests_listed, one_more, none_left}
use Rattle.homeo_cert.proofs.listing.+test_nodes.Goals as goal

pub push_tests-loop-t-preserved : goal.push_tests-loop-t-preserved
push_tests-loop-t-preserved t c = one_more tests_listed c.args.ts.now c.loop-t.t-index c.t-item.result _ _ _ c.loop-t-test.true c.t-item.is c.in_ok-push_test.ensures c.loop-t.invariant

pub push_tests-returns : goal.push_tests-returns
push_tests-returns t c = none_left tests_listed c.args.ts.now c.loop-t.t-index _ _ c.loop-t-test.false c.loop-t.invariant
