-- The command can be transformed and run, and the database folded before and after it.
use Rattle.std.proofs.Common.{ap, ◌∙◌}
use Rattle.std.proofs.lemmas.Result.{IfOk-at_ok}
use Rattle.homeo_syntax.specs.Low.{Command}
use Rattle.homeo_syntax.specs.LowView.{plain_lcommand}
use Rattle.homeo_plan.specs.Split.{shift}
use Rattle.homeo_plan_tests.proofs.SplitExample.{raise-whole, has_sites, can_shift, start_sums, raised_sums}
use Rattle.homeo_plan_tests.proofs.sites.a_site_raises_an_object_of_the_fold.Goals as goal

pub fold-requires : goal.fold-requires
fold-requires g c = record { fits = start_sums c.start-split.result c.start-split.ensures }

pub transform-requires-clause-whole : goal.transform-requires-clause-whole
transform-requires-clause-whole g c = raise-whole (plain_lcommand c.raise-command.result) c.raise-command.ensures

pub eval_l-requires-clause-places : goal.eval_l-requires-clause-places
eval_l-requires-clause-places g c =
    has_sites c.start-split.result (plain_lcommand c.expect-shifted.result) c.start-split.ensures
    ((IfOk-at_ok _ c.expect-shifted.ensures c.transform.ensures.form) ∙ ap (λ (t : Command). shift 2 1 t) c.raise-command.ensures)

pub eval_l-requires-clause-small : goal.eval_l-requires-clause-small
eval_l-requires-clause-small g c =
    can_shift c.start-split.result (plain_lcommand c.expect-shifted.result) c.start-split.ensures
    ((IfOk-at_ok _ c.expect-shifted.ensures c.transform.ensures.form) ∙ ap (λ (t : Command). shift 2 1 t) c.raise-command.ensures)

pub fold-requires-2 : goal.fold-requires-2
fold-requires-2 g c =
    record {
      fits = raised_sums c.start-split.result c.eval_l.new.database (plain_lcommand c.expect-shifted.result) c.start-split.ensures
          ((IfOk-at_ok _ c.expect-shifted.ensures c.transform.ensures.form) ∙ ap (λ (t : Command). shift 2 1 t) c.raise-command.ensures)
          (IfOk-at_ok _ c.expect-prints.ensures c.eval_l.ensures.database) c.eval_l.ensures.shape;
    }
