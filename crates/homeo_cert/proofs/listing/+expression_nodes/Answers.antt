-- One more of a list, and the end.
use Rattle.homeo_cert.proofs.Listings.{exprs_listed, one_more, none_left}
use Rattle.homeo_cert.proofs.listing.+expression_nodes.Goals as goal

pub push_exprs-loop-e-preserved : goal.push_exprs-loop-e-preserved
push_exprs-loop-e-preserved t c = one_more exprs_listed c.args.es.now c.loop-e.e-index c.e-item.result _ _ _ c.loop-e-test.true c.e-item.is c.in_ok-push_expr.ensures c.loop-e.invariant

pub push_exprs-returns : goal.push_exprs-returns
push_exprs-returns t c = none_left exprs_listed c.args.es.now c.loop-e.e-index _ _ c.loop-e-test.false c.loop-e.invariant
