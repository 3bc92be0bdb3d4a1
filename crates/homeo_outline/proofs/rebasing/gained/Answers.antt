-- A term more is added up.
use Rattle.std.proofs.Common.{◌+ℤ◌, ap, ◌∙◌, SFits, to_z, rules}
use mir.Syntax.{w128}
use Rattle.std.proofs.lemmas.Int.{to_z-of_z}
use Rattle.homeo_meaning.specs.Serial.{values_of}
use Rattle.homeo_follow.specs.Rebased.{gains}
use Rattle.homeo_outline.proofs.Rebased.{gained_more, gained_all}
use Rattle.homeo_outline.proofs.rebasing.gained.Goals as goal

pub loop-term-preserved : goal.loop-term-preserved
loop-term-preserved c =
    let g = gains (values_of c.args.from.now) (values_of c.args.to.now) in
    let sum = c.in_ok-sum.sum in
    let sum_fits : SFits w128 sum = search rules in
    let more = c.in_ok-gained_by.field-0 in
    let more_fits : SFits w128 more = search rules in
    gained_more g c.args.terms.now c.loop-term.term-index _ _ _ c.loop-term-test.true
    c.loop-term.invariant
    (to_z-of_z w128 sum sum_fits ∙ c.in_ok-sum.ensures.1
    ∙ ap (λ z. to_z w128 c.loop-term.sum-bits +ℤ z) (to_z-of_z w128 more more_fits ∙ c.in_ok-gained_by.ensures))

pub returns : goal.returns
returns c =
    let g = gains (values_of c.args.from.now) (values_of c.args.to.now) in
    gained_all g c.args.terms.now c.loop-term.term-index _ c.loop-term-test.false c.loop-term.invariant
