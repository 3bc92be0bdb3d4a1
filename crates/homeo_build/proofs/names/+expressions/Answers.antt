-- The objects of the next part stand behind those of the parts before it.
use Rattle.std.proofs.Common.{append-nil, sym}
use Rattle.homeo_syntax.specs.LowView.{plain_lexpr}
use Rattle.homeo_follow.specs.Named.{named_in_expr}
use Rattle.homeo_build.proofs.NamedObjects.{exprs_flat, named_more, named_done}
use Rattle.homeo_build.proofs.names.+expressions.Goals as goal

pub push_in_exprs-loop-e-init : goal.push_in_exprs-loop-e-init
push_in_exprs-loop-e-init n c = sym (append-nil c.args.names.now.items)

pub push_in_exprs-loop-e-preserved : goal.push_in_exprs-loop-e-preserved
push_in_exprs-loop-e-preserved n c =
    named_more (λ e. named_in_expr (plain_lexpr e)) c.args.es.now c.loop-e.e-index c.e-item.result _ c.loop-e.names.items c.args.names.now.items
    c.loop-e-test.true c.e-item.is c.in_ok-push_in_expr.ensures c.loop-e.invariant

pub push_in_exprs-returns : goal.push_in_exprs-returns
push_in_exprs-returns n c =
    named_done (λ e. named_in_expr (plain_lexpr e)) c.args.es.now c.loop-e.e-index c.loop-e.names.items c.args.names.now.items _
    c.loop-e-test.false c.loop-e.invariant (exprs_flat plain_lexpr c.args.es.now)
