use Rattle.std.proofs.Common.{rules, ap, ◌∙◌}
use Rattle.homeo_syntax.specs.SourceView.{plain_expr}
use Rattle.homeo_meaning.specs.Acceptance.{weight_limit}
use Rattle.homeo_meaning.specs.Meaning.{value}
use Rattle.homeo_eval.specs.inner.CanRun.{expr_fits}
use Rattle.homeo_eval.specs.inner.States.{state_of}
use Rattle.homeo_eval.proofs.InForce.{context_bound}
use Rattle.homeo_meaning.proofs.Numbers.{kept_is}
use Rattle.homeo_eval.proofs.changes.value_at.Goals as goal

pub value-requires : goal.value-requires
value-requires c =
    let inner = context_bound c.args.context.now c.with.result c.args.row c.args.slot.now c.with.ensures.declared c.with.ensures.arguments c.with.ensures.rows in
    ap (λ x. expr_fits weight_limit x (plain_expr c.args.e.now) (state_of c.args.state.now)) inner ∙ c.requires

pub returns : goal.returns
returns c =
    let inner = context_bound c.args.context.now c.with.result c.args.row c.args.slot.now c.with.ensures.declared c.with.ensures.arguments c.with.ensures.rows in
    kept_is c.value.result _ (search rules) (c.value.ensures ∙ ap (λ x. value x (plain_expr c.args.e.now) (state_of c.args.state.now)) inner)
