-- They are those of the residual, so the law of needs is about them.
use Rattle.std.proofs.Common.{map, ap, ◌∙◌}
use Rattle.homeo_syntax.specs.LowView.{low_commands, plain_lcommand}
use Rattle.homeo_meaning.specs.Serial.{values_of}
use Rattle.homeo_plan.specs.Needs.{needs}
use Rattle.homeo_plan.specs.PlanView.{plain_residual}
use Rattle.homeo_atoms.specs.inner.Following.{needs_of}
use Rattle.homeo_atoms.proofs.Needing.{needs_mean}
use Rattle.homeo_atoms.proofs.residuals.needs.Goals as goal

pub returns-clause-means : goal.returns-clause-means
returns-clause-means c =
    let i = c.args.residual.now.site in
    let cs = plain_residual c.args.residual.now in
    needs_mean i c.args.base.now.items cs c.from_vec.result.items
    (ap (λ v. v.items) c.from_vec.ensures ∙ c.in_ok-needed.ensures ∙ c.in_ok-follow_all.ensures
    ∙ ap (λ l. needs_of c.new-following.result (low_commands (map plain_lcommand l))) c.as_slice-2.ensures ∙ c.new-following.ensures.needs cs
    ∙ ap (λ l. needs i (values_of l) cs) c.as_slice.ensures)
    c.requires.straight
