-- One more term is multiplied.
use Rattle.std.proofs.Common.{◌+◌, to_z, of_z, drop, ap, ◌∙◌}
use mir.Syntax.{w128}
use Rattle.std.proofs.lemmas.Int.{to_z-of_z}
use Rattle.homeo_plan.specs.Linear.{scale_terms}
use Rattle.homeo_form.proofs.Adding.{scaling_from, scaled_kept, scaled_none, scaled_end, small_next}
use Rattle.homeo_form.proofs.terms.scaled.Goals as goal
use Rattle.homeo_form.proofs.terms.scaled.Goals.{then-counts+in_ok-push, else-counts}

pub times-product-requires-clause-small : goal.times-product-requires-clause-small
times-product-requires-clause-small c = small_next c.args.terms.now c.loop-term.term-index _ c.loop-term-test.true c.requires.small

pub loop-term-preserved : goal.loop-term-preserved
loop-term-preserved c =
    let n = to_z w128 (of_z w128 c.args.factor) in
    let i = c.loop-term.term-index in
    let ts = c.args.terms.now in
    let out = c.loop-term.scaled.items in
    let made = c.times-product.ensures in
    elim c.if-counts.branch [ then-counts+in_ok-push w ↦ ap (λ v. scaling_from n v.items (drop (i + 1) ts)) w.scaled-is ∙ ap (λ l. scaling_from n l (drop (i + 1) ts)) w.in_ok-push.ensures.items ∙ scaled_kept n out ts i _ c.times-product.result c.loop-term-test.true made.delta made.factor w.if-counts.ensures ∙ c.loop-term.invariant | else-counts w ↦ ap (λ v. scaling_from n v.items (drop (i + 1) ts)) w.scaled-is ∙ scaled_none n out ts i _ c.times-product.result c.loop-term-test.true made.delta made.factor w.if-counts.ensures ∙ c.loop-term.invariant ]

pub returns : goal.returns
returns c =
    scaled_end (to_z w128 (of_z w128 c.args.factor)) c.loop-term.scaled.items c.args.terms.now c.loop-term.term-index c.loop-term-test.false
    ∙ c.loop-term.invariant ∙ ap (λ n. scale_terms n c.args.terms.now) (to_z-of_z w128 c.args.factor c.ranges.factor)
