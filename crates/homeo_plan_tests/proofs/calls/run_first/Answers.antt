-- The call can be transformed and run, and the database folded afterwards.
use Rattle.std.proofs.Common.{ap, ◌∙◌, sym, subst}
use Rattle.std.proofs.lemmas.Result.{IfOk-at_ok}
use Rattle.homeo_syntax.specs.Low.{Command}
use Rattle.homeo_syntax.specs.LowView.{plain_lcommand}
use Rattle.homeo_syntax.specs.SourceView.{plain_workload}
use Rattle.homeo_meaning.specs.Ground.{plain_ground}
use Rattle.homeo_meaning.specs.Whole.{IsWhole}
use Rattle.homeo_lform.proofs.Wholes.{ground_whole}
use Rattle.homeo_plan.specs.Split.{shift}
use Rattle.homeo_plan_tests.proofs.CallExample.{can_run, has_sites, can_fold}
use Rattle.homeo_plan_tests.proofs.calls.run_first.Goals as goal

pub transform-requires-clause-whole : goal.transform-requires-clause-whole
transform-requires-clause-whole g c =
    subst IsWhole (sym (IfOk-at_ok _ c.expect-form.ensures c.desugar.ensures.form)) (ground_whole (plain_workload c.args.w.now) (plain_ground c.args.call.now))

pub eval_l-requires-clause-places : goal.eval_l-requires-clause-places
eval_l-requires-clause-places g c =
    has_sites (plain_workload c.args.w.now) (plain_ground c.args.call.now) c.args.database.now.items c.args.site
    c.workload-workload.ensures.accepted c.requires.called.made c.requires.within c.requires.site
    c.undivided-split.result (plain_lcommand c.expect-shifted.result) c.undivided-split.ensures
    ((IfOk-at_ok _ c.expect-shifted.ensures c.transform.ensures.form) ∙ ap (λ (t : Command). shift 2 c.args.site t) (IfOk-at_ok _ c.expect-form.ensures c.desugar.ensures.form))

pub eval_l-requires-clause-small : goal.eval_l-requires-clause-small
eval_l-requires-clause-small g c =
    can_run (plain_workload c.args.w.now) (plain_ground c.args.call.now) c.args.database.now.items c.args.site
    c.workload-workload.ensures.accepted c.requires.called.made c.requires.within c.requires.site
    c.undivided-split.result (plain_lcommand c.expect-shifted.result) c.undivided-split.ensures
    ((IfOk-at_ok _ c.expect-shifted.ensures c.transform.ensures.form) ∙ ap (λ (t : Command). shift 2 c.args.site t) (IfOk-at_ok _ c.expect-form.ensures c.desugar.ensures.form))

pub returns : goal.returns
returns g c =
    can_fold (plain_workload c.args.w.now) (plain_ground c.args.call.now) c.args.database.now.items c.args.site
    c.workload-workload.ensures.accepted c.requires.called.made c.requires.within c.requires.site
    c.undivided-split.result c.eval_l.new.database (plain_lcommand c.expect-shifted.result) c.undivided-split.ensures
    ((IfOk-at_ok _ c.expect-shifted.ensures c.transform.ensures.form) ∙ ap (λ (t : Command). shift 2 c.args.site t) (IfOk-at_ok _ c.expect-form.ensures c.desugar.ensures.form))
    (IfOk-at_ok _ c.expect-prints.ensures c.eval_l.ensures.database) c.eval_l.ensures.shape
