-- What stands before the mark, and then the condition that failed.
use Rattle.std.proofs.lemmas.Result.{on_ok_weaker}
use Rattle.homeo_lemmas.proofs.Lists.{take_whole}
use Rattle.homeo_table.specs.inner.Partings.{tests_of, commands_of, rows_from}
use Rattle.homeo_table.specs.inner.Branches.{left_of, rows_of}
use Rattle.homeo_table.proofs.Parted.{failed-rows, unasked-rows, back-front}
use Rattle.homeo_table.proofs.branches.Branch.go_back.Goals as goal

pub returns-in-Some-clause-rows : goal.returns-in-Some-clause-rows
unfolding rows_of left_of rows_from
returns-in-Some-clause-rows c = on_ok_weaker c.where_fails.result (λ h. failed-rows _ _ _ _ _ _ c.in-Some.is h c.go_back.ensures.row) c.where_fails.ensures.row

pub returns-in-Some-clause-tests : goal.returns-in-Some-clause-tests
returns-in-Some-clause-tests c =
    on_ok_weaker c.where_fails.result (λ h. back-front c.args.parting.mark.tests (tests_of c.args.self.now.row) _ _ c.requires.tests c.go_back.ensures.tests h.tests)
    c.where_fails.ensures.begins

pub returns-in-Some-clause-commands : goal.returns-in-Some-clause-commands
returns-in-Some-clause-commands c =
    on_ok_weaker c.where_fails.result
    (λ h. back-front c.args.parting.mark.commands (commands_of c.args.self.now.row) _ _ c.requires.commands c.go_back.ensures.commands h.commands)
    c.where_fails.ensures.begins

pub returns-in-None-clause-rows : goal.returns-in-None-clause-rows
unfolding rows_of left_of rows_from
returns-in-None-clause-rows c = unasked-rows _ _ _ _ c.in-None.is c.go_back.ensures.row

pub returns-in-None-clause-tests : goal.returns-in-None-clause-tests
returns-in-None-clause-tests c = back-front c.args.parting.mark.tests (tests_of c.args.self.now.row) _ _ c.requires.tests c.go_back.ensures.tests (take_whole _)

pub returns-in-None-clause-commands : goal.returns-in-None-clause-commands
returns-in-None-clause-commands c =
    back-front c.args.parting.mark.commands (commands_of c.args.self.now.row) _ _ c.requires.commands c.go_back.ensures.commands (take_whole _)
