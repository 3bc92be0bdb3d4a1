-- Each object is saved in a temporary of its own, and set again from it.
use Rattle.std.proofs.Common.{rules, ◌≡◌, suc, get_or, ◌++◌, ◌∷◌, [], map, refl, ap, ◌∙◌, pos}
use Rattle.homeo_syntax.specs.Low as L
use Rattle.homeo_syntax.specs.LowView.{low_commands, plain_lcommand, plain_lcond}
use Rattle.homeo_syntax.specs.Key.{definitions as syntax_definitions}
use Rattle.homeo_syntax.specs.declared.low.Temp.TheVariants as temp
use Rattle.homeo_syntax.specs.declared.low.SplitName.TheVariants as split
use Rattle.homeo_syntax.proofs.LowViews.{low_Assign, low_Write, low_Seq, low_Skip}
use Rattle.homeo_meaning.specs.Key.{definitions as meaning_definitions}
use Rattle.homeo_meaning.specs.LForm.{both, equal, one_test, saves, restores}
use Rattle.homeo_desugar.proofs.UndoSteps.{saved_step, restored_step, saved_end, restored_end, undo_made, undoing_made}
use Rattle.homeo_desugar.proofs.undoing.undoing.Goals as goal

pub loop-object-init : goal.loop-object-init
unfolding meaning_definitions syntax_definitions
loop-object-init c = record {
  saved =
      ap (λ l. both (low_commands (map plain_lcommand l.items)) (saves 1 c.args.saved.now L.NoCommand)) c.in_ok-push.ensures.ok
      ∙ ap (λ l. both (low_commands (map plain_lcommand (l.items ++ c.set_flag.result ∷ []))) (saves 1 c.args.saved.now L.NoCommand)) c.new-all.ensures
      ∙ ap (λ d. L.MoreCommand d (saves 1 c.args.saved.now L.NoCommand)) c.set_flag.ensures;
  restored = ap (λ l. both (low_commands (map plain_lcommand l.items)) (restores 1 c.args.saved.now)) c.new-restores.ensures;
}

pub loop-object-preserved : goal.loop-object-preserved
loop-object-preserved c =
    let next : c.in_ok-temp.temp ≡ suc c.loop-object.temp = search rules in
    let object = get_or c.args.saved.now c.loop-object.object-index 0 in
    record {
      saved = saved_step c.loop-object.temp c.in_ok-temp.temp c.args.saved.now c.loop-object.object-index object c.loop-object.all.items c.push-in-loop-object.new.self.items _ _ c.loop-object-test.true refl next
          (low_Assign _ _ ∙ ap (L.Assign (temp.Fresh c.in_ok-temp.temp)) c.read.ensures) (ap (λ l. l.items) c.in_ok-push-2.ensures.ok) c.loop-object.invariant.saved;
      restored = restored_step c.loop-object.temp c.in_ok-temp.temp c.args.saved.now c.loop-object.object-index object c.loop-object.restores.items c.push-in-loop-object-2.new.self.items _ _ c.loop-object-test.true refl next
          (low_Write _ _ ∙ ap (L.Write (split.Whole object)) c.fresh.ensures) (ap (λ l. l.items) c.in_ok-push-3.ensures.ok) c.loop-object.invariant.restored;
    }

pub returns : goal.returns
returns c =
    let test = c.in_ok-ended.ensures ∙ ap one_test (c.equal.ensures ∙ ap (λ e. equal e (pos 1)) c.flag.ensures) in
    let restores_all = restored_end c.loop-object.temp c.args.saved.now c.loop-object.object-index _ _ c.loop-object-test.false c.loop-object.invariant.restored in
    let undone = undo_made c.args.saved.now (plain_lcond c.in_ok-ended.ended) _ _ (plain_lcommand c.in_ok-undo.undo) _ test (low_Seq c.loop-object.restores) restores_all low_Skip c.in_ok-undo.ensures in
    low_Seq c.push-3.new.self
    ∙ undoing_made c.args.saved.now (low_commands (map plain_lcommand c.args.body.items)) c.loop-object.all.items c.push-2.new.self.items c.push-3.new.self.items _ c.in_ok-undo.undo
    (saved_end c.loop-object.temp c.args.saved.now c.loop-object.object-index _ _ c.loop-object-test.false c.loop-object.invariant.saved)
    (ap (λ l. l.items) c.in_ok-push-4.ensures.ok) (low_Seq c.args.body) (ap (λ l. l.items) c.in_ok-push-5.ensures.ok) undone
