-- What is below the mark stays as it was.
use Rattle.std.proofs.Common.{◌++◌, reverse, ap, ◌∙◌}
use Rattle.std.proofs.lemmas.Result.{on_ok_weaker}
use Rattle.homeo_table.specs.inner.Partings.{tests_of, commands_of, rows_of_all}
use Rattle.homeo_table.proofs.Parted.{back-nested, back-rows}
use Rattle.homeo_table.proofs.branches.Branch.go_on.Goals as goal

pub go_back-requires : goal.go_back-requires
go_back-requires c = record { tests = c.requires.0; commands = c.requires.1.0 }

pub follow-requires : goal.follow-requires
follow-requires c =
    back-nested (tests_of c.args.self.now.row) _ (commands_of c.args.self.now.row) _ c.args.parting (reverse c.args.partings.now.items) c.requires
    c.in_ok-go_back.ensures.tests c.in_ok-go_back.ensures.commands

pub returns-clause-rows : goal.returns-clause-rows
returns-clause-rows c =
    let back = back-rows (tests_of c.args.self.now.row) (tests_of c.go_back.new.self.row) (commands_of c.args.self.now.row) (commands_of c.go_back.new.self.row) c.args.parting (reverse c.args.partings.now.items) c.requires
    c.in_ok-go_back.ensures.tests c.in_ok-go_back.ensures.commands in
    on_ok_weaker c.follow.result
    (λ h. h ∙ ap (λ rows. rows ++ rows_of_all (tests_of c.go_back.new.self.row) (commands_of c.go_back.new.self.row) (reverse c.args.partings.now.items)) c.in_ok-go_back.ensures.rows ∙ back)
    c.follow.ensures.rows
