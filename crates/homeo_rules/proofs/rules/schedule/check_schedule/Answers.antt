use Rattle.std.proofs.Common.{◌∙◌}
use Rattle.homeo_rules.specs.inner.Scopes.{scope_in}
use Rattle.homeo_rules.proofs.Tallied.{no_order, ordered}
use Rattle.homeo_rules.proofs.rules.schedule.check_schedule.Goals as goal

pub returns-in-None : goal.returns-in-None
returns-in-None c =
    c.check_no_order.ensures
    ∙ no_order c.args.purpose (scope_in c.args.scope.now) c.args.cs.now c.args.end c.args.best c.args.order.now c.in-None.is

pub returns-in_ok-t-in-Some : goal.returns-in_ok-t-in-Some
returns-in_ok-t-in-Some c =
    c.check_end.ensures
    ∙ ordered c.args.purpose (scope_in c.args.scope.now) c.args.cs.now c.args.names c.args.end c.args.best c.args.order.now c.in-Some.xs c.as_slice.result.now c.in-Some.is c.as_slice.ensures c.requires c.in_ok-t-in-Some.t c.in_ok-t-in-Some.ensures
