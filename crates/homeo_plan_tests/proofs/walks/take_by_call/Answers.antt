-- The call can be transformed, and then executed.
use Rattle.std.proofs.Common.{ap, ◌∙◌, sym, subst, arith}
use Rattle.std.proofs.lemmas.Result.{IfOk-at_ok}
use Rattle.homeo_syntax.specs.Low.{Command}
use Rattle.homeo_syntax.specs.LowView.{plain_lcommand}
use Rattle.homeo_syntax.specs.SourceView.{plain_workload}
use Rattle.homeo_meaning.specs.Ground.{plain_ground}
use Rattle.homeo_meaning.specs.Whole.{IsWhole}
use Rattle.homeo_lform.proofs.Wholes.{ground_whole}
use Rattle.homeo_plan.specs.Split.{shift}
use Rattle.homeo_plan_tests.proofs.CallExample.{can_run}
use Rattle.homeo_plan_tests.proofs.walks.take_by_call.Goals as goal

pub transform-requires-clause-whole : goal.transform-requires-clause-whole
transform-requires-clause-whole g c =
    subst IsWhole (sym (IfOk-at_ok _ c.expect-form.ensures c.desugar.ensures.form)) (ground_whole (plain_workload c.args.w.now) (plain_ground c.args.call.now))

pub take-taken-requires : goal.take-taken-requires
take-taken-requires g c =
    can_run (plain_workload c.args.w.now) (plain_ground c.args.call.now) c.args.database.now.items 0
    c.workload-workload.ensures.accepted c.requires.called.made c.requires.within (omega arith)
    c.undivided-base.result (plain_lcommand c.expect-shifted.result) c.undivided-base.ensures
    ((IfOk-at_ok _ c.expect-shifted.ensures c.transform.ensures.form) ∙ ap (λ (t : Command). shift 2 0 t) (IfOk-at_ok _ c.expect-form.ensures c.desugar.ensures.form))
