-- The L form can be run on the whole database.
use Rattle.std.proofs.Common.{map, pos, ◌∙◌}
use Rattle.std.proofs.lemmas.Result.{IfOk-at_ok}
use Rattle.homeo_syntax.specs.LowView.{plain_lcommand}
use Rattle.homeo_syntax.specs.SourceView.{plain_workload}
use Rattle.homeo_meaning.specs.Ground.{plain_ground}
use Rattle.homeo_split.specs.CanExec.{run_limit, can_exec}
use Rattle.homeo_split.specs.Key.{definitions}
use Rattle.homeo_split.specs.States.{state_with}
use Rattle.homeo_tests.proofs.CallForms.{form_can_run}
use Rattle.homeo_tests.proofs.forms.run_both.Goals as goal

pub eval_l-requires-clause-small : goal.eval_l-requires-clause-small
unfolding definitions
eval_l-requires-clause-small g c =
    (λ i. can_exec run_limit (plain_lcommand c.expect-form.result) (state_with (c.whole-split.ensures.base i) (map (λ d. d.items) (c.whole-split.ensures.deltas i)) (λ t. pos 0)))
    ∙ form_can_run (plain_workload c.args.w.now) (plain_ground c.args.call.now) (plain_lcommand c.expect-form.result) c.args.database.now.items c.requires.called (IfOk-at_ok _ c.expect-form.ensures c.desugar.ensures.form) c.requires.within
