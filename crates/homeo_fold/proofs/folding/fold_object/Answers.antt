use Rattle.std.proofs.Common.{rules, ◌<◌, length, get_or, pos, w64, to_z, of_z, ap, ◌∙◌, subst}
use Rattle.homeo_meaning.proofs.Numbers.{kept_is}
use Rattle.homeo_fold.proofs.Folds.{first_sum, next_fits, next_sum}
use Rattle.homeo_fold.proofs.folding.fold_object.Goals as goal

pub loop-deltas-init : goal.loop-deltas-init
loop-deltas-init c =
    ap (λ l. to_z w64 (of_z w64 (get_or l c.args.object (pos 0)))) c.as_slice.ensures
    ∙ first_sum c.args.split.now c.args.object c.requires.fits c.requires.object

pub overflow_add-sum : goal.overflow_add-sum
overflow_add-sum c =
    let x = c.args.object in
    let k = c.loop-deltas.deltas-index in
    let d = c.deltas-item.result in
    let item = c.deltas-item.is ∙ ap (λ l. get_or l k d) c.as_slice-deltas-items.ensures in
    let site = subst (λ l. k < length l) c.as_slice-deltas-items.ensures c.loop-deltas-test.true in
    let delta = kept_is c.item_or-sum.result _ (search rules) (c.item_or-sum.ensures ∙ ap (λ l. get_or l x (pos 0)) c.as_slice-in-loop-deltas.ensures) in
    next_fits c.args.split.now k x d _ _ c.requires.fits item site c.requires.object c.loop-deltas.invariant delta

pub loop-deltas-preserved : goal.loop-deltas-preserved
loop-deltas-preserved c =
    let x = c.args.object in
    let k = c.loop-deltas.deltas-index in
    let d = c.deltas-item.result in
    let item = c.deltas-item.is ∙ ap (λ l. get_or l k d) c.as_slice-deltas-items.ensures in
    let site = subst (λ l. k < length l) c.as_slice-deltas-items.ensures c.loop-deltas-test.true in
    let delta = kept_is c.item_or-sum.result _ (search rules) (c.item_or-sum.ensures ∙ ap (λ l. get_or l x (pos 0)) c.as_slice-in-loop-deltas.ensures) in
    next_sum c.args.split.now k x d _ _ c.requires.fits item site c.requires.object c.loop-deltas.invariant delta
