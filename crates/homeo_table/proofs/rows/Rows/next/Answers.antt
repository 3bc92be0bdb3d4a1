-- The next branch is followed, or there is none.
use Rattle.std.proofs.Common.{◌∷◌, length, sym, ap, subst, ◌≡◌, ◌∙◌}
use Rattle.std.proofs.lemmas.List.{nil_from_length}
use Rattle.homeo_syntax.specs.LowView.{plain_lcommand}
use Rattle.homeo_plan.specs.Table.{table}
use Rattle.homeo_substitution.specs.Bindings.{bound}
use Rattle.homeo_table.specs.Rows.{RowsValue, all_rows}
use Rattle.homeo_table.specs.inner.Branches.{rows_behind}
use Rattle.homeo_table.specs.inner.Makings.{completed}
use Rattle.homeo_table.specs.inner.Partings.{tests_of, commands_of}
use Rattle.homeo_table.proofs.Cursors.{gone_on, all-passed, ended}
use Rattle.homeo_table.proofs.Makings.{row-last}
use Rattle.homeo_table.proofs.Parted.{next-come}
use Rattle.homeo_table.proofs.rows.Rows.next.Goals as goal

pub returns-in_default-clause-none : goal.returns-in_default-clause-none
returns-in_default-clause-none c = λ _.
    let r = c.self.inside in
    let none = nil_from_length r.partings.items (sym r.partings.ok.0 ∙ c.in_default.ensures.cases.0) in
    subst (λ (v : RowsValue). v.passed ≡ length (all_rows v)) c.self.view_is
    (all-passed (table (plain_lcommand r.command.now)) r.branch.row r.partings.items none)

pub returns-in_default-clause-end : goal.returns-in_default-clause-end
returns-in_default-clause-end c = λ _.
    let ps = c.pop.new.self in
    all-passed (table (plain_lcommand c.self.inside.command.now)) c.self.inside.branch.row ps.items
    (nil_from_length ps.items (sym ps.ok.0 ∙ c.in_default.ensures.cases.1))

pub invariant_of-self-in-Ok : goal.invariant_of-self-in-Ok
unfolding completed
invariant_of-self-in-Ok c =
    let r = c.self.inside in
    let now = c.go_on.new.self.row in
    gone_on (table (plain_lcommand r.command.now)) r.branch.row now r.partings.items c.go_on.new.partings.items r.there c.self.invariant c.in-Ok.ensures.nested
    (next-come (tests_of r.branch.row) (commands_of r.branch.row) r.partings.items c.pop.new.self.items c.in-Some.parting c.in-Some.ensures.items
    ∙ sym c.in-Ok.ensures.rows
    ∙ ap (λ r. r ∷ rows_behind now c.go_on.new.partings.items) (sym (row-last (tests_of now) (commands_of now) (bound now.bindings))))

pub invariant_of-self-in-Err : goal.invariant_of-self-in-Err
invariant_of-self-in-Err c = ended (table (plain_lcommand c.self.inside.command.now)) c.go_on.new.self.row c.clear.new.self.items c.clear.ensures.items

pub returns-in-Err-clause-end : goal.returns-in-Err-clause-end
returns-in-Err-clause-end c = λ _.
    all-passed (table (plain_lcommand c.self.inside.command.now)) c.go_on.new.self.row c.clear.new.self.items c.clear.ensures.items
