use Rattle.std.proofs.Common.{◌≡◌, IfOk, subst, ap, length}
use Rattle.homeo_rules.specs.inner.Scopes.{scope_in}
use Rattle.homeo_rules.proofs.Joining.{order-named, schedule-along}
use Rattle.homeo_rules.proofs.decision.schedule.Goals as goal

pub check_schedule-requires : goal.check_schedule-requires
check_schedule-requires c = order-named c.args.w.now (length c.as_slice-names.result.now) c.requires.formed (ap length c.as_slice-names.ensures)

pub returns : goal.returns
returns c =
    let e = schedule-along c.args.w.now c.args.purpose (scope_in c.args.scope.now) c.args.best c.as_slice.result.now c.requires.names c.as_slice.ensures in
    subst (λ v. IfOk c.check_schedule.result (λ b. b ≡ v)) e c.check_schedule.ensures
