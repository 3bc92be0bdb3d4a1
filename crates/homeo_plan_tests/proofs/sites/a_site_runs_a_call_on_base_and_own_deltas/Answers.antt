-- The command can be run on base plus own deltas.
use Rattle.std.proofs.Common.{◌∙◌}
use Rattle.homeo_syntax.specs.LowView.{plain_lcommand}
use Rattle.homeo_plan_tests.proofs.LocalExample.{step_places, step_sums, step_runs}
use Rattle.homeo_plan_tests.proofs.sites.a_site_runs_a_call_on_base_and_own_deltas.Goals as goal

pub local_step-requires-clause-places : goal.local_step-requires-clause-places
local_step-requires-clause-places g c =
    step_places (plain_lcommand c.raise-command.result) c.as_slice-2.result.now c.raise-command.ensures (c.as_slice-2.ensures ∙ c.values-deltas.ensures)

pub local_step-requires-clause-sums : goal.local_step-requires-clause-sums
local_step-requires-clause-sums g c =
    step_sums c.as_slice.result.now c.as_slice-2.result.now (c.as_slice.ensures ∙ c.values-base.ensures) (c.as_slice-2.ensures ∙ c.values-deltas.ensures)

pub local_step-requires-clause-small : goal.local_step-requires-clause-small
local_step-requires-clause-small g c =
    step_runs (plain_lcommand c.raise-command.result) c.as_slice.result.now c.as_slice-2.result.now c.raise-command.ensures
    (c.as_slice.ensures ∙ c.values-base.ensures) (c.as_slice-2.ensures ∙ c.values-deltas.ensures)
