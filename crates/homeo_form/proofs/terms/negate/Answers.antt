-- One more sign is turned.
use Rattle.std.proofs.Common.{sym, ◌∙◌, subst, arith}
use Rattle.homeo_meaning.specs.Small.{IsSmall}
use Rattle.homeo_plan.specs.declared.forms.Term.{Term}
use Rattle.homeo_plan.specs.Limit.{form_limit}
use Rattle.homeo_form.proofs.Adding.{small_next, left_at, turned_more, turned_end}
use Rattle.homeo_form.proofs.FormSteps.{one_is_small}
use Rattle.homeo_form.proofs.terms.negate.Goals as goal

pub times-requires-clause-factor : goal.times-requires-clause-factor
times-requires-clause-factor c = one_is_small

pub times-requires-clause-small : goal.times-requires-clause-small
times-requires-clause-small c =
    let ts = c.args.terms.now.items in
    let i = c.loop-place.place in
    subst (λ (t : Term). IsSmall form_limit t.factor)
    (sym (c.index.ensures ∙ left_at ts c.loop-place.terms.items i c.index.result.now (omega (arith, c.loop-place-test.true, c.len-place-end.ensures)) c.loop-place.invariant))
    (small_next ts i c.index.result.now (omega (arith, c.loop-place-test.true, c.len-place-end.ensures)) c.requires.small)

pub loop-place-preserved : goal.loop-place-preserved
loop-place-preserved c =
    turned_more c.args.terms.now.items c.loop-place.terms.items c.loop-place.place c.index.result.now c.times.result
    (omega (arith, c.loop-place-test.true, c.len-place-end.ensures)) c.loop-place.invariant c.index.ensures c.times.ensures.delta c.times.ensures.factor

pub returns : goal.returns
returns c =
    turned_end c.args.terms.now.items c.loop-place.terms.items c.loop-place.place (omega (arith, c.loop-place-test.false, c.len-place-end.ensures)) c.requires.counts
    c.loop-place.invariant
