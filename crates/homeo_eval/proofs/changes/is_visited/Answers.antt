use Rattle.std.proofs.Common.{◌&&◌, sym, ap, ◌∙◌}
use Rattle.homeo_syntax.specs.SourceView.{plain_cond}
use Rattle.homeo_meaning.specs.Acceptance.{weight_limit}
use Rattle.homeo_meaning.specs.Context.{bind}
use Rattle.homeo_meaning.specs.Meaning.{holds}
use Rattle.homeo_eval.specs.inner.CanRun.{cond_fits}
use Rattle.homeo_context.specs.Contexts.{plain_context}
use Rattle.homeo_eval.specs.inner.States.{state_of}
use Rattle.homeo_context.specs.Slots.{plain_slot}
use Rattle.homeo_eval.proofs.InForce.{context_bound}
use Rattle.homeo_eval.proofs.changes.is_visited.Goals as goal

pub holds-requires : goal.holds-requires
holds-requires c =
    let inner = context_bound c.args.context.now c.with.result c.args.row c.args.slot.now c.with.ensures.declared c.with.ensures.arguments c.with.ensures.rows in
    ap (λ x. cond_fits weight_limit x (plain_cond c.args.test.now) (state_of c.args.state.now)) inner ∙ c.requires

pub returns : goal.returns
returns c =
    let inner = context_bound c.args.context.now c.with.result c.args.row c.args.slot.now c.with.ensures.declared c.with.ensures.arguments c.with.ensures.rows in
    let whole = holds (bind (plain_context c.args.context.now) c.args.row (plain_slot c.args.slot.now)) (plain_cond c.args.test.now) (state_of c.args.state.now) in
    c.holds.ensures ∙ ap (λ x. holds x (plain_cond c.args.test.now) (state_of c.args.state.now)) inner
    ∙ sym (ap (λ b. b && whole) (sym c.is_used.ensures ∙ c.if-not-is_used.false))
