-- The term is added to a copy.
use Rattle.std.proofs.Common.{negsuc, sym, ap, ◌∙◌, subst, arith}
use Rattle.homeo_plan.specs.Limit.{form_limit}
use Rattle.homeo_plan.specs.Linear.{AreInOrder, deltas_of, add_term}
use Rattle.homeo_form.specs.Key.{definitions}
use Rattle.homeo_form.specs.inner.Terms.{AreWithin, sum_limit}
use Rattle.homeo_form.proofs.Adding.{all_wider}
use Rattle.homeo_form.proofs.FormSteps.{one_is_small}
use Rattle.homeo_form.proofs.terms.with_one_less.Goals as goal

pub add_term-requires-clause-order : goal.add_term-requires-clause-order
add_term-requires-clause-order c = subst (λ l. AreInOrder (deltas_of l)) (sym c.in_ok-less.ensures.items) c.requires.order

pub add_term-requires-clause-factor : goal.add_term-requires-clause-factor
add_term-requires-clause-factor c = one_is_small

pub add_term-requires-clause-small : goal.add_term-requires-clause-small
unfolding definitions
add_term-requires-clause-small c =
    subst (AreWithin sum_limit) (sym c.in_ok-less.ensures.items) (all_wider form_limit sum_limit c.args.terms.now (omega arith) c.requires.small)

pub returns : goal.returns
returns c = c.in_ok-add_term.ensures ∙ ap (add_term c.args.delta (negsuc 0)) c.in_ok-less.ensures.items
