use Rattle.std.proofs.Common.{◌∙◌}
use Rattle.homeo_rules.specs.inner.Scopes.{scope_in}
use Rattle.homeo_rules.proofs.Tallied.{few_more, step_all}
use Rattle.homeo_rules.proofs.rules.schedule.tallied.Goals as goal

pub loop-x-preserved : goal.loop-x-preserved
loop-x-preserved c = record {
  few = few_more (scope_in c.args.scope.now) c.args.cs.now c.loop-x.t c.add.new.self _ c.loop-x.x-index c.add.ensures c.loop-x.invariant.few;
  so_far = step_all (scope_in c.args.scope.now) c.args.cs.now c.loop-x.t c.add.new.self c.args.xs.now c.loop-x.x-index _ c.loop-x-test.true c.add.ensures ∙ c.loop-x.invariant.so_far;
}
