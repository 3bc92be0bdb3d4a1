-- The first residual can be run at its site.
use Rattle.std.proofs.Common.{length, sym, ap, subst, arith}
use Rattle.std.proofs.lemmas.Bool.{eqb-false}
use Rattle.std.proofs.lemmas.List.{length-map}
use Rattle.std.proofs.lemmas.Result.{IfOk-at_ok}
use Rattle.homeo_syntax.specs.SourceView.{plain_workload}
use Rattle.homeo_syntax.specs.declared.workload.Workload.{Workload}
use Rattle.homeo_meaning.specs.Acceptance.{IsAccepted}
use Rattle.homeo_meaning.specs.Ground.{plain_ground}
use Rattle.homeo_tests.proofs.KeptResiduals.{can_keep}
use Rattle.homeo_tests.proofs.effects.first_effects.Goals as goal

pub residual-requires-clause-within : goal.residual-requires-clause-within
residual-requires-clause-within g c = c.requires.plan.within

pub residual-requires-clause-number : goal.residual-requires-clause-number
residual-requires-clause-number g c =
    omega (arith, eqb-false _ _ (sym c.if-is_empty.ensures), ap length c.calls.ensures, length-map c.calls.result.now plain_ground)

pub effects-requires-clause-straight : goal.effects-requires-clause-straight
effects-requires-clause-straight g c =
    (can_keep (plain_workload c.args.c.now) c.args.base.now.items 0 c.expect-residual.result (IfOk-at_ok _ c.expect-residual.ensures c.residual.ensures)
    (subst (λ (w : Workload). IsAccepted (plain_workload w)) c.workload.ensures c.workload-workload.ensures.accepted) c.requires.plan.within).straight

pub effects-requires-clause-own : goal.effects-requires-clause-own
effects-requires-clause-own g c =
    (can_keep (plain_workload c.args.c.now) c.args.base.now.items 0 c.expect-residual.result (IfOk-at_ok _ c.expect-residual.ensures c.residual.ensures)
    (subst (λ (w : Workload). IsAccepted (plain_workload w)) c.workload.ensures c.workload-workload.ensures.accepted) c.requires.plan.within).own

pub effects-requires-clause-small : goal.effects-requires-clause-small
effects-requires-clause-small g c =
    (can_keep (plain_workload c.args.c.now) c.args.base.now.items 0 c.expect-residual.result (IfOk-at_ok _ c.expect-residual.ensures c.residual.ensures)
    (subst (λ (w : Workload). IsAccepted (plain_workload w)) c.workload.ensures c.workload-workload.ensures.accepted) c.requires.plan.within).small
