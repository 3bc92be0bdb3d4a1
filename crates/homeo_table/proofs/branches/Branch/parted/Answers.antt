-- The command is pushed, and the condition's negation is to be asked.
use Rattle.std.proofs.Common.{◌∷◌, [], ◌++◌, map, refl, ap, ◌∙◌}
use Rattle.homeo_syntax.specs.LowView.{plain_lcond, plain_lcommand}
use Rattle.homeo_plan.specs.Table.{last_row, test_before, otherwise}
use Rattle.homeo_table.specs.inner.Partings.{rows_from}
use Rattle.homeo_table.specs.inner.Branches.{left_of}
use Rattle.homeo_table.specs.inner.Makings.{completed}
use Rattle.homeo_table.proofs.Following.{pushed-left}
use Rattle.homeo_table.proofs.Parted.{parted-rows}
use Rattle.homeo_table.proofs.branches.Branch.parted.Goals as goal

pub returns-clause-rows : goal.returns-clause-rows
unfolding left_of rows_from
returns-clause-rows c =
    let fails = test_before (otherwise (plain_lcond c.args.test.now)) in
    let left = c.in_ok-left.ensures.items ∙ c.as_slice.ensures.value in
    parted-rows (completed c.args.self.now.row) _ fails (map (λ c. plain_lcommand c.now) c.args.self.now.left.items) _ (plain_lcommand c.args.no.now) (last_row ∷ [])
    c.in_ok-mark.ensures.row
    (pushed-left c.in_ok-left.left.items c.push.new.self.items _ _ c.in_ok-push.ensures.items refl
    ∙ ap (λ cs. map (λ c. plain_lcommand c.now) cs ++ plain_lcommand c.args.no.now ∷ []) left)
