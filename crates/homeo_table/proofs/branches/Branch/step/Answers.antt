-- The rows that are left stay, command by command, and there is less to follow.
use Rattle.std.proofs.Common.{◌∷◌, [], ◌++◌, map, reverse, sym, ap, ap₂, ◌∙◌}
use Rattle.std.proofs.lemmas.Result.{on_ok_weaker}
use Rattle.homeo_syntax.specs.LowView.{plain_lexpr, plain_lcond, plain_lcommand}
use Rattle.homeo_syntax.proofs.LowViews.{low_Skip, low_Assign, low_Write, low_Print, low_Seq, low_If}
use Rattle.homeo_plan.specs.Table.{last_row, set_before, test_before, otherwise, before}
use Rattle.homeo_table.specs.inner.Partings.{left_before}
use Rattle.homeo_table.specs.inner.Branches.{left_of, rows_of, rows_behind}
use Rattle.homeo_table.specs.inner.Makings.{completed, command_before}
use Rattle.homeo_split.specs.Places.{plain_place}
use Rattle.homeo_table.proofs.Following.{less-before, less-Seq, less-If, over-Skip, over-Assign, over-Write, over-Print, over-Seq, rows-through, rows-front, rows-both, pushed-left}
use Rattle.homeo_table.proofs.Parted.{more-nested, more-behind, part-nested, part-behind}
use Rattle.homeo_table.proofs.WalkSteps.{on_ok_both}
use Rattle.homeo_table.proofs.branches.Branch.step.Goals as goal

pub returns-in-Skip-clause-rows : goal.returns-in-Skip-clause-rows
unfolding rows_of
returns-in-Skip-clause-rows c =
    let rows = left_before (left_of c.args.self.now) (last_row ∷ []) in
    ap (λ rows. map (completed c.args.self.now.row) rows ++ rows_behind c.args.self.now.row c.args.partings.now.items)
    (sym (over-Skip (plain_lcommand c.args.c.now) rows (ap plain_lcommand c.in-Skip.is ∙ low_Skip)))

pub returns-in-Skip-clause-less : goal.returns-in-Skip-clause-less
returns-in-Skip-clause-less c = less-before (plain_lcommand c.args.c.now) (left_of c.args.self.now)

pub returns-in-Assign-clause-nested : goal.returns-in-Assign-clause-nested
returns-in-Assign-clause-nested c =
    on_ok_weaker c.follow_set.result (λ b. more-nested c.args.self.now.row _ c.args.partings.now.items b c.requires) c.follow_set.ensures.begins

pub returns-in-Assign-clause-rows : goal.returns-in-Assign-clause-rows
unfolding rows_of left_of
returns-in-Assign-clause-rows c =
    let k = plain_lcommand c.args.c.now in
    let e = plain_lexpr c.in-Assign.value in
    let place = plain_place c.place_of_temp.result in
    let rows = left_before (left_of c.args.self.now) (last_row ∷ []) in
    let is = ap plain_lcommand c.in-Assign.is ∙ low_Assign c.in-Assign.target c.in-Assign.value in
    on_ok_both c.follow_set.result
    (λ h b. ap₂ ◌++◌
    (rows-through (completed c.args.self.now.row) _ (set_before k place e) k rows h (over-Assign k c.in-Assign.target e place rows is c.place_of_temp.ensures))
    (more-behind c.args.self.now.row _ c.args.partings.now.items b c.requires))
    c.follow_set.ensures.row c.follow_set.ensures.begins

pub returns-in-Assign-clause-less : goal.returns-in-Assign-clause-less
unfolding left_of
returns-in-Assign-clause-less c =
    on_ok_weaker c.follow_set.result (λ h. less-before (plain_lcommand c.args.c.now) (left_of c.args.self.now)) c.follow_set.ensures.row

pub returns-in-Write-clause-nested : goal.returns-in-Write-clause-nested
returns-in-Write-clause-nested c =
    on_ok_weaker c.follow_set-in-Write.result (λ b. more-nested c.args.self.now.row _ c.args.partings.now.items b c.requires) c.follow_set-in-Write.ensures.begins

pub returns-in-Write-clause-rows : goal.returns-in-Write-clause-rows
unfolding rows_of left_of
returns-in-Write-clause-rows c =
    let k = plain_lcommand c.args.c.now in
    let e = plain_lexpr c.in-Write.value in
    let place = plain_place c.place_of.result in
    let rows = left_before (left_of c.args.self.now) (last_row ∷ []) in
    let is = ap plain_lcommand c.in-Write.is ∙ low_Write c.in-Write.target c.in-Write.value in
    on_ok_both c.follow_set-in-Write.result
    (λ h b. ap₂ ◌++◌
    (rows-through (completed c.args.self.now.row) _ (set_before k place e) k rows h (over-Write k c.in-Write.target e place rows is c.place_of.ensures))
    (more-behind c.args.self.now.row _ c.args.partings.now.items b c.requires))
    c.follow_set-in-Write.ensures.row c.follow_set-in-Write.ensures.begins

pub returns-in-Write-clause-less : goal.returns-in-Write-clause-less
unfolding left_of
returns-in-Write-clause-less c =
    on_ok_weaker c.follow_set-in-Write.result (λ h. less-before (plain_lcommand c.args.c.now) (left_of c.args.self.now)) c.follow_set-in-Write.ensures.row

pub returns-in-Print-clause-nested : goal.returns-in-Print-clause-nested
returns-in-Print-clause-nested c =
    on_ok_weaker c.follow.result (λ b. more-nested c.args.self.now.row _ c.args.partings.now.items b c.requires) c.follow.ensures.begins

pub returns-in-Print-clause-rows : goal.returns-in-Print-clause-rows
unfolding rows_of left_of
returns-in-Print-clause-rows c =
    let k = plain_lcommand c.args.c.now in
    let rows = left_before (left_of c.args.self.now) (last_row ∷ []) in
    let is = ap plain_lcommand c.in-Print.is ∙ low_Print c.in-Print.value in
    on_ok_both c.follow.result
    (λ h b. ap₂ ◌++◌
    (rows-through (completed c.args.self.now.row) _ (command_before k) k rows h (over-Print k (plain_lexpr c.in-Print.value) rows is))
    (more-behind c.args.self.now.row _ c.args.partings.now.items b c.requires))
    c.follow.ensures.row c.follow.ensures.begins

pub returns-in-Print-clause-less : goal.returns-in-Print-clause-less
unfolding left_of
returns-in-Print-clause-less c =
    on_ok_weaker c.follow.result (λ h. less-before (plain_lcommand c.args.c.now) (left_of c.args.self.now)) c.follow.ensures.row

pub returns-in-Seq-clause-nested : goal.returns-in-Seq-clause-nested
returns-in-Seq-clause-nested c = on_ok_weaker c.push_all.result (λ h. c.requires) c.push_all.ensures

pub returns-in-Seq-clause-rows : goal.returns-in-Seq-clause-rows
unfolding rows_of left_of
returns-in-Seq-clause-rows c =
    let ds = map plain_lcommand c.in-Seq.commands.items in
    let is = ap plain_lcommand c.in-Seq.is ∙ low_Seq c.in-Seq.commands in
    on_ok_weaker c.push_all.result
    (λ h. ap (λ rows. map (completed c.args.self.now.row) rows ++ rows_behind c.args.self.now.row c.args.partings.now.items)
    (over-Seq (plain_lcommand c.args.c.now) ds (left_of c.args.self.now) _ (last_row ∷ []) is
    (h ∙ ap (λ cs. left_of c.args.self.now ++ reverse (map plain_lcommand cs)) c.as_slice.ensures)))
    c.push_all.ensures

pub returns-in-Seq-clause-less : goal.returns-in-Seq-clause-less
unfolding left_of
returns-in-Seq-clause-less c =
    let ds = map plain_lcommand c.in-Seq.commands.items in
    let is = ap plain_lcommand c.in-Seq.is ∙ low_Seq c.in-Seq.commands in
    on_ok_weaker c.push_all.result
    (λ h. less-Seq (plain_lcommand c.args.c.now) ds (left_of c.args.self.now) _ is
    (h ∙ ap (λ cs. left_of c.args.self.now ++ reverse (map plain_lcommand cs)) c.as_slice.ensures))
    c.push_all.ensures

pub returns-in_ok-push-in-If-2-clause-nested : goal.returns-in_ok-push-in-If-2-clause-nested
returns-in_ok-push-in-If-2-clause-nested c =
    part-nested c.args.self.now.row _ c.args.partings.now.items _ c.in_ok-parted-in-If.field-0 c.in_ok-where_holds-in-If.ensures.begins c.requires
    c.in_ok-parted-in-If.ensures.tests c.in_ok-parted-in-If.ensures.commands c.in_ok-push-in-If.ensures.items

pub returns-in_ok-push-in-If-2-clause-rows : goal.returns-in_ok-push-in-If-2-clause-rows
unfolding rows_of left_of
returns-in_ok-push-in-If-2-clause-rows c =
    let k = plain_lcommand c.args.c.now in
    let b = plain_lcond c.in-If.test in
    let yes = plain_lcommand c.in-If.yes.value in
    let no = plain_lcommand c.in-If.no.value in
    let m = completed c.args.self.now.row in
    let is = ap plain_lcommand c.in-If.is ∙ low_If c.in-If.test c.in-If.yes c.in-If.no in
    let left = left_of c.args.self.now in
    let rows = left_before left (last_row ∷ []) in
    let pushed = pushed-left c.args.self.now.left.items c.push-in-If.new.self.items _ yes c.in_ok-push-in-If-2.ensures.items (ap plain_lcommand c.deref-in-If.ensures) in
    let front = rows-front m _ (test_before b) left _ yes (last_row ∷ []) c.in_ok-where_holds-in-If.ensures.row pushed in
    let behind = part-behind c.args.self.now.row _ c.args.partings.now.items _ c.in_ok-parted-in-If.field-0 c.in_ok-where_holds-in-If.ensures.begins c.requires
    c.in_ok-parted-in-If.ensures.tests c.in_ok-parted-in-If.ensures.commands c.in_ok-push-in-If.ensures.items in
    let failed = c.in_ok-parted-in-If.ensures.rows ∙ ap (λ d. map m (map (test_before (otherwise b)) (before (plain_lcommand d) rows))) c.deref.ensures in
    rows-both m k b yes no rows (rows_behind c.args.self.now.row c.args.partings.now.items) _ _ _ is front failed behind

pub returns-in_ok-push-in-If-2-clause-less : goal.returns-in_ok-push-in-If-2-clause-less
unfolding left_of
returns-in_ok-push-in-If-2-clause-less c =
    let yes = plain_lcommand c.in-If.yes.value in
    let is = ap plain_lcommand c.in-If.is ∙ low_If c.in-If.test c.in-If.yes c.in-If.no in
    less-If (plain_lcommand c.args.c.now) _ yes _ (left_of c.args.self.now) _ is
    (pushed-left c.args.self.now.left.items c.push-in-If.new.self.items _ yes c.in_ok-push-in-If-2.ensures.items (ap plain_lcommand c.deref-in-If.ensures))
