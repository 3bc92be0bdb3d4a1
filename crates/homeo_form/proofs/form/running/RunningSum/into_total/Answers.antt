-- Its numbers are small.
use Rattle.std.proofs.Common.{rules, refl}
use Rattle.homeo_form.proofs.RunningSums.{running_small}
use Rattle.homeo_form.proofs.Widths.{kept_is}
use Rattle.homeo_form.proofs.form.running.RunningSum.into_total.Goals as goal

pub returns-clause-small : goal.returns-clause-small
returns-clause-small c =
    running_small c.self.inside.constant _ c.self.inside.terms.items c.self.inside.mixed.items c.self.inside.settled c.self.inside.changed
    (kept_is c.self.inside.constant _ (search rules) refl) c.self.invariant
