-- The form, and then the deltas of other sites in it.
use Rattle.std.proofs.Common.{refl, subst}
use Rattle.homeo_syntax.specs.LowView.{plain_lexpr}
use Rattle.homeo_plan.specs.Linear.{form}
use Rattle.homeo_certificate.specs.Key.{definitions}
use Rattle.homeo_certificate.specs.Met.{met}
use Rattle.homeo_certificate.specs.Followed.{too_large, not_frozen, remote_deltas}
use Rattle.homeo_verify.specs.inner.Follows.{rules_in, forms_in}
use Rattle.homeo_verify.specs.inner.Stops.{Finds}
use Rattle.homeo_verify.proofs.Stopping.{stop_with, stop_sooner, finds_later, on_ok_always}
use Rattle.homeo_verify.proofs.following.Following.print.Goals as goal

pub returns-in_err-form-clause-faults : goal.returns-in_err-form-clause-faults
unfolding definitions
returns-in_err-form-clause-faults c =
    let s = c.args.self.now in
    let e = plain_lexpr c.args.value.now in
    stop_with _ c.from_residual.result _ c.from_residual.ensures.1
    (stop_sooner (too_large (met (forms_in s) e)) (not_frozen (rules_in s) (remote_deltas (rules_in s) (form (forms_in s) e))) _ c.in_err-form.ensures.faults)

pub returns-clause-faults : goal.returns-clause-faults
unfolding definitions
returns-clause-faults c =
    let s = c.args.self.now in
    let e = plain_lexpr c.args.value.now in
    finds_later (too_large (met (forms_in s) e)) (not_frozen (rules_in s) (remote_deltas (rules_in s) (form (forms_in s) e))) c.freeze_remote.result c.in_ok-form.ensures.faults
    (subst (λ a. Finds (not_frozen (rules_in s) (remote_deltas (rules_in s) a)) c.freeze_remote.result) c.in_ok-form.ensures.form c.freeze_remote.ensures)

pub returns-clause-after : goal.returns-clause-after
unfolding definitions
returns-clause-after c = on_ok_always c.freeze_remote.result (record { rules = refl; forms = refl; written = refl })
