use Rattle.std.proofs.Common.{◌≡◌, ◌∙◌, SFits, to_z, of_z, rules}
use mir.Syntax.{w128}
use Rattle.std.proofs.lemmas.Int.{to_z-of_z}
use Rattle.homeo_meaning.specs.Serial.{values_of}
use Rattle.homeo_site.proofs.OwnTerms.{sum_next, product_fits, sum_fits}
use Rattle.homeo_site.proofs.own_treaty.own_sum.Goals as goal

pub loop-term-preserved : goal.loop-term-preserved
loop-term-preserved c =
    let fits : SFits w128 c.with_term-sum.result = search rules in
    let back : to_z w128 (of_z w128 c.with_term-sum.result) ≡ c.with_term-sum.result = to_z-of_z w128 c.with_term-sum.result fits in
    sum_next c.args.terms.now c.loop-term.term-index _ (values_of c.args.deltas.now) _ _ c.loop-term-test.true
    c.loop-term.invariant (back ∙ c.with_term-sum.ensures)

pub with_term-sum-requires-clause-product : goal.with_term-sum-requires-clause-product
with_term-sum-requires-clause-product c =
    product_fits c.args.terms.now c.loop-term.term-index _ (values_of c.args.deltas.now) c.loop-term-test.true c.requires

pub with_term-sum-requires-clause-total : goal.with_term-sum-requires-clause-total
with_term-sum-requires-clause-total c =
    sum_fits c.args.terms.now c.loop-term.term-index _ (values_of c.args.deltas.now) _ c.loop-term-test.true c.loop-term.invariant c.requires
