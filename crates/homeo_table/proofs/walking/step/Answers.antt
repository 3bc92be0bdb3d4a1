-- One more command of the walk.
use Rattle.std.proofs.Common.{true, false, ◌++◌, map, reverse, ap, ◌∙◌}
use Rattle.std.proofs.lemmas.Result.{on_ok_weaker}
use Rattle.homeo_syntax.specs.LowView.{plain_lexpr, plain_lcond, plain_lcommand}
use Rattle.homeo_syntax.proofs.LowViews.{low_Skip, low_Assign, low_Write, low_Print, low_Seq, low_If}
use Rattle.homeo_split.specs.States.{state_of}
use Rattle.homeo_substitution.specs.Bindings.{bound}
use Rattle.homeo_table.specs.inner.Makings.{completed}
use Rattle.homeo_split.specs.Places.{plain_place}
use Rattle.homeo_table.specs.inner.Walks.{after, to_come}
use Rattle.homeo_table.proofs.NoTemps.{no_temps}
use Rattle.homeo_table.proofs.WalkSteps.{pushed, pushed-all, less-one, less-all, less-branch, on_ok_both, sets-Assign, sets-Write, goes-set, goes-Skip, goes-Print, goes-Seq, asks, goes-If}
use Rattle.homeo_table.proofs.walking.step.Goals as goal

-- ---- nothing
pub returns-in-Skip-clause-goes : goal.returns-in-Skip-clause-goes
returns-in-Skip-clause-goes c =
    let row = completed c.args.row.now in
    let b = bound c.args.row.now.bindings in
    let is = ap plain_lcommand c.in-Skip.is ∙ low_Skip in
    goes-Skip row row b b _ (no_temps c.args.base.now) (plain_lcommand c.args.c.now) _ c.requires is

pub returns-in-Skip-clause-less : goal.returns-in-Skip-clause-less
returns-in-Skip-clause-less c = less-one (plain_lcommand c.args.c.now) (to_come c.args.left.now.items)

-- ---- a value is set
pub returns-in-Assign-clause-goes : goal.returns-in-Assign-clause-goes
returns-in-Assign-clause-goes c =
    let row = completed c.args.row.now in
    let b = bound c.args.row.now.bindings in
    let s = state_of c.args.base.now in
    let place = plain_place c.place_of_temp.result in
    let e = plain_lexpr c.in-Assign.value in
    let is = ap plain_lcommand c.in-Assign.is ∙ low_Assign c.in-Assign.target c.in-Assign.value in
    let sets = sets-Assign (plain_lcommand c.args.c.now) c.in-Assign.target e place (after b s) is c.place_of_temp.ensures in
    on_ok_both c.follow_set.result
    (λ g h. goes-set row _ b _ s (no_temps c.args.base.now) (plain_lcommand c.args.c.now) _ c.requires place e sets g h)
    c.follow_set.ensures.row c.follow_set.ensures.bound

pub returns-in-Assign-clause-less : goal.returns-in-Assign-clause-less
returns-in-Assign-clause-less c =
    on_ok_weaker c.follow_set.result (λ h. less-one (plain_lcommand c.args.c.now) (to_come c.args.left.now.items)) c.follow_set.ensures.row

pub returns-in-Write-clause-goes : goal.returns-in-Write-clause-goes
returns-in-Write-clause-goes c =
    let row = completed c.args.row.now in
    let b = bound c.args.row.now.bindings in
    let s = state_of c.args.base.now in
    let place = plain_place c.place_of.result in
    let e = plain_lexpr c.in-Write.value in
    let is = ap plain_lcommand c.in-Write.is ∙ low_Write c.in-Write.target c.in-Write.value in
    let sets = sets-Write (plain_lcommand c.args.c.now) c.in-Write.target e place (after b s) is c.place_of.ensures in
    on_ok_both c.follow_set-in-Write.result
    (λ g h. goes-set row _ b _ s (no_temps c.args.base.now) (plain_lcommand c.args.c.now) _ c.requires place e sets g h)
    c.follow_set-in-Write.ensures.row c.follow_set-in-Write.ensures.bound

pub returns-in-Write-clause-less : goal.returns-in-Write-clause-less
returns-in-Write-clause-less c =
    on_ok_weaker c.follow_set-in-Write.result (λ h. less-one (plain_lcommand c.args.c.now) (to_come c.args.left.now.items)) c.follow_set-in-Write.ensures.row

-- ---- a value is printed
pub returns-in-Print-clause-goes : goal.returns-in-Print-clause-goes
returns-in-Print-clause-goes c =
    let row = completed c.args.row.now in
    let b = bound c.args.row.now.bindings in
    let is = ap plain_lcommand c.in-Print.is ∙ low_Print c.in-Print.value in
    on_ok_both c.follow.result
    (λ g h. goes-Print row _ b _ _ (no_temps c.args.base.now) (plain_lcommand c.args.c.now) _ c.requires (plain_lexpr c.in-Print.value) is g h)
    c.follow.ensures.row c.follow.ensures.bound

pub returns-in-Print-clause-less : goal.returns-in-Print-clause-less
returns-in-Print-clause-less c =
    on_ok_weaker c.follow.result (λ h. less-one (plain_lcommand c.args.c.now) (to_come c.args.left.now.items)) c.follow.ensures.row

-- ---- commands one after another
pub returns-in-Seq-clause-goes : goal.returns-in-Seq-clause-goes
returns-in-Seq-clause-goes c =
    let row = completed c.args.row.now in
    let b = bound c.args.row.now.bindings in
    let ds = map plain_lcommand c.in-Seq.commands.items in
    let is = ap plain_lcommand c.in-Seq.is ∙ low_Seq c.in-Seq.commands in
    on_ok_weaker c.push_all.result
    (λ h. goes-Seq row row b b _ (no_temps c.args.base.now) (plain_lcommand c.args.c.now) _ c.requires ds _ is
    (pushed-all c.args.left.now.items c.push_all.new.left.items ds
    (h ∙ ap (λ cs. map (λ c. plain_lcommand c.now) c.args.left.now.items ++ reverse (map plain_lcommand cs)) c.as_slice.ensures)))
    c.push_all.ensures

pub returns-in-Seq-clause-less : goal.returns-in-Seq-clause-less
returns-in-Seq-clause-less c =
    let ds = map plain_lcommand c.in-Seq.commands.items in
    let is = ap plain_lcommand c.in-Seq.is ∙ low_Seq c.in-Seq.commands in
    on_ok_weaker c.push_all.result
    (λ h. less-all (plain_lcommand c.args.c.now) ds (to_come c.args.left.now.items) _ is
    (pushed-all c.args.left.now.items c.push_all.new.left.items ds
    (h ∙ ap (λ cs. map (λ c. plain_lcommand c.now) c.args.left.now.items ++ reverse (map plain_lcommand cs)) c.as_slice.ensures)))
    c.push_all.ensures

-- ---- a choice
pub decide-requires : goal.decide-requires
decide-requires c =
    let row = completed c.args.row.now in
    let b = bound c.args.row.now.bindings in
    let is = ap plain_lcommand c.in-If.is ∙ low_If c.in-If.test c.in-If.yes c.in-If.no in
    asks row row b b _ (no_temps c.args.base.now) (plain_lcommand c.args.c.now) _ c.requires (plain_lcond c.in-If.test)
    (plain_lcommand c.in-If.yes.value) (plain_lcommand c.in-If.no.value) is

pub returns-in_ok-push-in-If-clause-goes : goal.returns-in_ok-push-in-If-clause-goes
returns-in_ok-push-in-If-clause-goes c =
    let row = completed c.args.row.now in
    let b = bound c.args.row.now.bindings in
    let yes = plain_lcommand c.in-If.yes.value in
    let no = plain_lcommand c.in-If.no.value in
    let is = ap plain_lcommand c.in-If.is ∙ low_If c.in-If.test c.in-If.yes c.in-If.no in
    let next = pushed c.args.left.now.items c.push.new.self.items _ yes c.in_ok-push-in-If.ensures.items (ap plain_lcommand c.deref.ensures) in
    goes-If row _ b _ _ (no_temps c.args.base.now) (plain_lcommand c.args.c.now) _ c.requires (plain_lcond c.in-If.test) yes no is
    c.in_ok-decide-in-If.field-0 true _ c.in_ok-decide-in-If.ensures.taken c.if-branch.true c.in_ok-decide-in-If.ensures.row
    c.in_ok-decide-in-If.ensures.bound next

pub returns-in_ok-push-in-If-clause-less : goal.returns-in_ok-push-in-If-clause-less
returns-in_ok-push-in-If-clause-less c =
    let yes = plain_lcommand c.in-If.yes.value in
    let no = plain_lcommand c.in-If.no.value in
    let is = ap plain_lcommand c.in-If.is ∙ low_If c.in-If.test c.in-If.yes c.in-If.no in
    less-branch (plain_lcommand c.args.c.now) true (plain_lcond c.in-If.test) yes no (to_come c.args.left.now.items) _ is
    (pushed c.args.left.now.items c.push.new.self.items _ yes c.in_ok-push-in-If.ensures.items (ap plain_lcommand c.deref.ensures))

pub returns-in_ok-push-in-If-2-clause-goes : goal.returns-in_ok-push-in-If-2-clause-goes
returns-in_ok-push-in-If-2-clause-goes c =
    let row = completed c.args.row.now in
    let b = bound c.args.row.now.bindings in
    let yes = plain_lcommand c.in-If.yes.value in
    let no = plain_lcommand c.in-If.no.value in
    let is = ap plain_lcommand c.in-If.is ∙ low_If c.in-If.test c.in-If.yes c.in-If.no in
    let next = pushed c.args.left.now.items c.push-else-branch.new.self.items _ no c.in_ok-push-in-If-2.ensures.items (ap plain_lcommand c.deref-else-branch.ensures) in
    goes-If row _ b _ _ (no_temps c.args.base.now) (plain_lcommand c.args.c.now) _ c.requires (plain_lcond c.in-If.test) yes no is
    c.in_ok-decide-in-If.field-0 false _ c.in_ok-decide-in-If.ensures.taken c.if-branch.false c.in_ok-decide-in-If.ensures.row
    c.in_ok-decide-in-If.ensures.bound next

pub returns-in_ok-push-in-If-2-clause-less : goal.returns-in_ok-push-in-If-2-clause-less
returns-in_ok-push-in-If-2-clause-less c =
    let yes = plain_lcommand c.in-If.yes.value in
    let no = plain_lcommand c.in-If.no.value in
    let is = ap plain_lcommand c.in-If.is ∙ low_If c.in-If.test c.in-If.yes c.in-If.no in
    less-branch (plain_lcommand c.args.c.now) false (plain_lcond c.in-If.test) yes no (to_come c.args.left.now.items) _ is
    (pushed c.args.left.now.items c.push-else-branch.new.self.items _ no c.in_ok-push-in-If-2.ensures.items (ap plain_lcommand c.deref-else-branch.ensures))
