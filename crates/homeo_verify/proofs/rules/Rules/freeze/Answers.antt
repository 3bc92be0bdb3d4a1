-- The next delta is frozen, or not.
use Rattle.std.proofs.Common.{get_or, refl}
use Rattle.homeo_plan.specs.Key.{definitions as plan_definitions}
use Rattle.homeo_plan.specs.declared.forms.Delta.{Delta}
use Rattle.homeo_verify.specs.inner.RulesView.{plain_rules}
use Rattle.homeo_verify.proofs.RuleSteps.{freeze_stops, freeze_goes_on, freeze_ends}
use Rattle.homeo_verify.proofs.rules.Rules.freeze.Goals as goal

pub returns-then-not-has : goal.returns-then-not-has
unfolding plan_definitions
returns-then-not-has c =
    let ds = c.args.deltas.now in
    let zero : Delta = record { object = 0; site = 0 } in
    freeze_stops (plain_rules c.args.self.now) ds c.loop-delta.delta-index (get_or ds c.loop-delta.delta-index zero) zero c.loop-delta-test.true refl
    c.loop-delta.invariant c.has.result c.has.ensures c.if-not-has.true

pub loop-delta-preserved : goal.loop-delta-preserved
unfolding plan_definitions
loop-delta-preserved c =
    let ds = c.args.deltas.now in
    let zero : Delta = record { object = 0; site = 0 } in
    freeze_goes_on (plain_rules c.args.self.now) ds c.loop-delta.delta-index (get_or ds c.loop-delta.delta-index zero) zero c.loop-delta-test.true refl
    c.loop-delta.invariant c.has.result c.has.ensures c.if-not-has.false

pub returns : goal.returns
returns c = freeze_ends (plain_rules c.args.self.now) c.args.deltas.now c.loop-delta.delta-index c.loop-delta-test.false c.loop-delta.invariant
