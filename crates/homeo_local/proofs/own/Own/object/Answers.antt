-- The sum of base and delta, as i64 adds them.
use Rattle.std.proofs.Common.{rules, ◌∙◌, ap, ◌+ℤ◌, SFits, w64}
use Rattle.std.specs.Int.{int_wrap}
use Rattle.std.proofs.lemmas.Int.{wrapping_add_is}
use Rattle.homeo_meaning.specs.Serial.{values_of}
use Rattle.homeo_local.specs.inner.Key.{definitions}
use Rattle.homeo_local.proofs.own.Own.object.Goals as goal

pub returns : goal.returns
unfolding definitions
returns c =
    let base : SFits w64 c.item_or.result = search rules in
    let delta : SFits w64 c.item_or-2.result = search rules in
    let list = c.item_or-2.ensures ∙ ap (λ l. values_of l c.args.x) c.as_slice.ensures.value in
    wrapping_add_is w64 c.item_or.result c.item_or-2.result base delta ∙ (λ i. int_wrap w64 (c.item_or.ensures i +ℤ list i))
