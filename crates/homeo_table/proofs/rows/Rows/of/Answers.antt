-- The first branch alone is still to be followed.
use Rattle.std.proofs.Common.{◌∷◌, [], ◌++◌, ap, ◌∙◌}
use Rattle.homeo_syntax.specs.LowView.{plain_lcommand}
use Rattle.homeo_plan.specs.Table.{table}
use Rattle.homeo_table.proofs.Cursors.{begun, none-passed}
use Rattle.homeo_table.proofs.Parted.{first-nested, first-come}
use Rattle.homeo_table.proofs.rows.Rows.of.Goals as goal

pub invariant_of-result : goal.invariant_of-result
invariant_of-result c =
    let one = c.in_ok-push.ensures.items ∙ ap (λ ps. ps ++ c.in_ok-first.field-0 ∷ []) c.new-partings.ensures.items in
    let first = c.in_ok-first.ensures in
    begun (table (plain_lcommand c.args.c.now)) c.new.result.row c.push.new.self.items
    (first-nested _ _ c.push.new.self.items c.in_ok-first.field-0 one first.tests first.commands)
    (first-come _ _ c.push.new.self.items c.in_ok-first.field-0 _ one first.rows)

pub returns-clause-first : goal.returns-clause-first
returns-clause-first c =
    let one = c.in_ok-push.ensures.items ∙ ap (λ ps. ps ++ c.in_ok-first.field-0 ∷ []) c.new-partings.ensures.items in
    none-passed (table (plain_lcommand c.args.c.now)) _ (first-come _ _ c.push.new.self.items c.in_ok-first.field-0 _ one c.in_ok-first.ensures.rows)
