-- One term more, and then the constant.
use Rattle.std.proofs.Common.{◌≡◌, rules, to_z, of_z, ◌+ℤ◌, ap, ◌∙◌}
use Rattle.std.specs.Int.{w64, int_wrap}
use Rattle.std.proofs.lemmas.Int.{to_z-of_z}
use Rattle.homeo_meaning.specs.Serial.{values_of}
use Rattle.homeo_linear.proofs.Owning.{sum_begins, sum_more, form_is}
use Rattle.homeo_linear.proofs.effect.OwnForm.value.Goals as goal

pub loop-term-init : goal.loop-term-init
loop-term-init c = sum_begins (values_of c.args.deltas.now)

pub loop-term-preserved : goal.loop-term-preserved
loop-term-preserved c =
    let same : to_z w64 (of_z w64 c.with_term-sum.result) ≡ c.with_term-sum.result = search (rules, to_z-of_z) in
    sum_more c.as_slice-term-items.result.now c.loop-term.term-index _ (values_of c.args.deltas.now) _ _ c.loop-term-test.true
    c.loop-term.invariant (same ∙ c.with_term-sum.ensures)

pub returns : goal.returns
returns c =
    let same : to_z w64 (of_z w64 c.args.self.now.constant) ≡ c.args.self.now.constant = search (rules, to_z-of_z) in
    let whole : to_z w64 (of_z w64 c.plus.result) ≡ c.plus.result = search (rules, to_z-of_z) in
    form_is c.args.self.now c.as_slice-term-items.result.now c.loop-term.term-index (values_of c.args.deltas.now) _ _ c.as_slice-term-items.ensures
    c.loop-term-test.false c.loop-term.auto.term-index-end c.loop-term.invariant (whole ∙ c.plus.ensures ∙ ap (λ n. int_wrap w64 (n +ℤ to_z w64 c.loop-term.sum-bits)) same)
