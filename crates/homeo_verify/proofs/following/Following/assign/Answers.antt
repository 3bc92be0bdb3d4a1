-- The form, and then its place.
use Rattle.std.proofs.Common.{◌∙◌, ap₂, refl}
use Rattle.homeo_meaning.specs.LowMeaning.{put}
use Rattle.homeo_certificate.specs.Key.{definitions}
use Rattle.homeo_verify.specs.inner.Follows.{forms_in}
use Rattle.homeo_verify.proofs.Stopping.{stop_with}
use Rattle.homeo_verify.proofs.following.Following.assign.Goals as goal

pub returns-in_err-form-clause-faults : goal.returns-in_err-form-clause-faults
unfolding definitions
returns-in_err-form-clause-faults c = stop_with _ c.from_residual.result _ c.from_residual.ensures.1 c.in_err-form.ensures.faults

pub returns-clause-faults : goal.returns-clause-faults
unfolding definitions
returns-clause-faults c = c.in_ok-form.ensures.faults

pub returns-clause-after : goal.returns-clause-after
unfolding definitions
returns-clause-after c = record {
  rules = refl;
  forms = c.in_ok-set.ensures ∙ ap₂ (put (forms_in c.args.self.now)) c.place_of_temp.ensures c.in_ok-form.ensures.form;
  written = refl;
}
