-- One more term is added.
use Rattle.std.proofs.Common.{◌*◌, arith}
use Rattle.homeo_plan.specs.Limit.{form_limit}
use Rattle.homeo_form.specs.inner.Terms.{sum_limit}
use Rattle.homeo_form.proofs.Adding.{small_next, all_wider, add_start, add_step, add_end}
use Rattle.homeo_form.proofs.terms.collected.Goals as goal

pub loop-term-init : goal.loop-term-init
loop-term-init c = add_start c.args.terms.now c.new-sums.result.items c.new-sums.ensures.items

pub add_term-requires-clause-factor : goal.add_term-requires-clause-factor
add_term-requires-clause-factor c = small_next c.args.terms.now c.loop-term.term-index _ c.loop-term-test.true c.requires

pub add_term-requires-clause-small : goal.add_term-requires-clause-small
add_term-requires-clause-small c =
    all_wider (c.loop-term.term-index * form_limit) sum_limit c.loop-term.sums.items (omega (arith, c.loop-term-test.true)) c.loop-term.invariant.within

pub loop-term-preserved : goal.loop-term-preserved
loop-term-preserved c =
    add_step c.args.terms.now c.loop-term.sums.items c.add_term.new.terms.items _ c.loop-term.term-index _ c.loop-term-test.true c.requires
    c.in_ok-add_term.ensures c.loop-term.invariant

pub returns : goal.returns
returns c = add_end c.args.terms.now c.loop-term.sums.items _ c.loop-term.term-index c.loop-term-test.false c.loop-term.invariant.left
