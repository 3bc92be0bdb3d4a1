-- The command can be run on the database.
use Rattle.homeo_syntax.specs.LowView.{plain_lcommand}
use Rattle.homeo_plan_tests.proofs.SplitExample.{own_places, own_runs}
use Rattle.homeo_plan_tests.proofs.splits.a_site_writes_its_own_delta.Goals as goal

pub eval_l-requires-clause-places : goal.eval_l-requires-clause-places
eval_l-requires-clause-places g c = own_places c.start-state.result (plain_lcommand c.raise_own-command.result) c.start-state.ensures c.raise_own-command.ensures

pub eval_l-requires-clause-small : goal.eval_l-requires-clause-small
eval_l-requires-clause-small g c = own_runs c.start-state.result (plain_lcommand c.raise_own-command.result) c.start-state.ensures c.raise_own-command.ensures
