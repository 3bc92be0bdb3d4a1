-- Branches, and one more command of a list.
use Rattle.std.proofs.Common.{rules, arith, refl, sym, ap, ◌∙◌}
use Rattle.homeo_syntax.specs.declared.low.LCommand.TheViews.{the_lemmas}
use Rattle.homeo_syntax.specs.LowView.{plain_lcommand}
use Rattle.homeo_syntax.proofs.LowViews.{low_command_views}
use Rattle.homeo_split.specs.CanExec.{run_limit}
use Rattle.homeo_split.specs.Shape.{has_places}
use Rattle.homeo_split.proofs.CommandSteps.{can_Seq, has_Seq, can_first, has_parts, run_step, has_yes, has_no, takes_yes, takes_no}
use Rattle.homeo_split.proofs.commands.+runs.Goals as goal

pub run-run_branch-requires : goal.run-run_branch-requires
run-run_branch-requires g t c =
    λ κs lives. (search (rules, the_lemmas), (lives, (has_yes run_limit _ (g.S.Reads.values c.args.state.now) c.in-If.is c.requires.places refl, takes_yes _ (g.S.Store.shape c.args.state.now) _ c.in-If.is c.requires.runs refl (sym c.holds.ensures ∙ c.if-holds.true))))

pub run-run_branch-requires-else-holds : goal.run-run_branch-requires-else-holds
run-run_branch-requires-else-holds g t c =
    λ κs lives. (search (rules, the_lemmas), (lives, (has_no run_limit _ (g.S.Reads.values c.args.state.now) c.in-If.is c.requires.places refl, takes_no _ (g.S.Store.shape c.args.state.now) _ c.in-If.is c.requires.runs refl (sym c.holds.ensures ∙ c.if-holds.false))))

pub run-run_all-requires : goal.run-run_all-requires
run-run_all-requires g t c = λ κs lives. (search (rules, the_lemmas), (lives, (grind (arith, low_command_views, has_Seq), grind (arith, low_command_views, can_Seq))))

pub run_all-run-requires : goal.run_all-run-requires
run_all-run-requires g t c =
    let has = has_parts (g.S.Store.shape c.args.state.now) c.args.cs.now c.loop-c.c-index c.c-item.result c.loop-c-test.true c.c-item.is c.loop-c.invariant.places in
    λ κs lives. (search (rules, the_lemmas), (lives, (ap (λ h. has_places h (plain_lcommand c.c-item.result)) (g.met.S.Store.keeps_shape _ _ c.loop-c.invariant.leads) ∙ has.0, can_first _ _ c.args.cs.now c.loop-c.c-index c.c-item.result c.loop-c-test.true c.c-item.is c.loop-c.invariant.can)))

pub run_all-loop-c-preserved : goal.run_all-loop-c-preserved
run_all-loop-c-preserved g t c =
    let s = g.S.Reads.values c.loop-c.state in
    let u = g.S.Reads.values c.run.new.state in
    let has = has_parts (g.S.Store.shape c.args.state.now) c.args.cs.now c.loop-c.c-index c.c-item.result c.loop-c-test.true c.c-item.is c.loop-c.invariant.places in
    let step = run_step run_limit s u c.loop-c.prints.items c.run.new.prints.items c.args.cs.now c.loop-c.c-index c.c-item.result c.loop-c-test.true c.c-item.is c.loop-c.invariant.can c.in_ok-run.ensures.run in
    record { places = has.1; can = step.rest; left = step.same ∙ c.loop-c.invariant.left; leads = g.met.S.Store.goes_on _ _ _ c.loop-c.invariant.leads c.in_ok-run.ensures.leads }
