-- One stands before the delta, or none does.
use Rattle.std.proofs.Common.{arith}
use Rattle.homeo_plan.specs.Linear.{deltas_of}
use Rattle.homeo_form.proofs.Orders.{place_first}
use Rattle.homeo_form.proofs.Adding.{place_end_of, term_place_after, term_place_below}
use Rattle.homeo_form.proofs.terms.place.Goals as goal

pub loop-place-init : goal.loop-place-init
loop-place-init c = record { within = omega arith; behind = place_end_of c.args.delta c.args.terms.now }

pub loop-place-preserved : goal.loop-place-preserved
loop-place-preserved c = record {
  within = omega (arith, c.loop-place.invariant.within);
  behind = term_place_below c.args.delta c.args.terms.now c.loop-place.place _ c.loop-place-test.true c.loop-place.invariant.within c.if-is_before.ensures;
}

pub returns-then-is_before : goal.returns-then-is_before
returns-then-is_before c =
    term_place_after c.args.delta c.args.terms.now c.loop-place.place _ c.requires c.loop-place-test.true c.loop-place.invariant.within c.if-is_before.ensures
    c.loop-place.invariant.behind

pub returns : goal.returns
returns c = place_first c.args.delta (deltas_of c.args.terms.now) c.loop-place.place c.loop-place-test.false c.loop-place.invariant.behind
