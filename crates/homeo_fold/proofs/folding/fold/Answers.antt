use Rattle.std.proofs.Common.{rules, ◌≡◌, ◌∷◌, ◌++◌, [], length, ap, ap₂, sym, ◌∙◌, arith}
use Rattle.homeo_meaning.specs.LowMeaning.{whole}
use Rattle.homeo_meaning.specs.Serial.{values_of, values_from}
use Rattle.homeo_meaning.proofs.Numbers.{kept_is}
use Rattle.homeo_fold.specs.Folding.{folded, folded_at}
use Rattle.homeo_fold.proofs.Folds.{one_more_object, all_objects, whole_fold}
use Rattle.homeo_fold.proofs.folding.fold.Goals as goal

pub loop-object-preserved : goal.loop-object-preserved
loop-object-preserved c =
    let f = folded_at c.args.split.now in
    let n = c.loop-object.object in
    let value = kept_is c.fold_object.result _ (search rules) c.fold_object.ensures in
    ap (λ l. l.items) c.in_ok-push.ensures.ok
    ∙ ap₂ (λ l v. l ++ v ∷ []) c.loop-object.invariant value
    ∙ sym (one_more_object n f)

pub returns : goal.returns
returns c =
    let s = c.args.split.now in
    let all : c.loop-object.object ≡ length c.as_slice-object-end.result.now =
    omega (arith, c.loop-object-test.false, c.loop-object.auto.object-end) in
    let fold : c.loop-object.database.items ≡ folded s =
    c.loop-object.invariant
    ∙ ap (λ n. values_from 0 n (folded_at s)) (all ∙ ap length c.as_slice-object-end.ensures)
    ∙ sym (all_objects s) in
    record { fold = fold; state = λ none. ap (λ l. whole (values_of l)) fold ∙ whole_fold s none }
