use Rattle.std.proofs.Common.{◌∙◌}
use Rattle.homeo_rules.specs.inner.Key.{definitions}
use Rattle.homeo_rules.specs.inner.Scopes.{scope_in}
use Rattle.homeo_rules.proofs.Whole.{in_all}
use Rattle.homeo_rules.proofs.transaction.check_transaction.Goals as goal

pub returns : goal.returns
unfolding definitions
returns c =
    c.best.ensures
    ∙ in_all (scope_in c.args.scope.now) c.args.names c.args.best c.check_ranges-best.result c.args.t.now c.in_ok-k.k c.enter_params.new.k c.walk_commands.new.k c.as_slice.result.now c.as_slice-2.result.now c.as_slice-3.result.now c.as_slice.ensures c.check_ranges-best.ensures c.as_slice-2.ensures c.in_ok-k.ensures c.enter_params.ensures c.as_slice-3.ensures c.in_ok-walk_commands.ensures c.requires
