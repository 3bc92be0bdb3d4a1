-- The site, then the form, and then its place.
use Rattle.std.proofs.Common.{◌∙◌, ap₂, refl}
use Rattle.homeo_syntax.specs.LowView.{plain_lexpr}
use Rattle.homeo_meaning.specs.LowMeaning.{put}
use Rattle.homeo_certificate.specs.Key.{definitions}
use Rattle.homeo_certificate.specs.Met.{met}
use Rattle.homeo_certificate.specs.Followed.{too_large, foreign}
use Rattle.homeo_verify.specs.inner.Follows.{rules_in, forms_in}
use Rattle.homeo_verify.proofs.Stopping.{stop_with, stop_sooner, stop_later, none_in_both}
use Rattle.homeo_verify.proofs.following.Following.write.Goals as goal

pub returns-in_err-own-clause-faults : goal.returns-in_err-own-clause-faults
unfolding definitions
returns-in_err-own-clause-faults c =
    let s = c.args.self.now in
    stop_with _ c.from_residual.result _ c.from_residual.ensures.1
    (stop_sooner (foreign (rules_in s) c.args.target) (too_large (met (forms_in s) (plain_lexpr c.args.value.now))) _ c.in_err-own.ensures)

pub returns-in_err-form-clause-faults : goal.returns-in_err-form-clause-faults
unfolding definitions
returns-in_err-form-clause-faults c =
    let s = c.args.self.now in
    stop_with _ c.from_residual-in_err-form.result _ c.from_residual-in_err-form.ensures.1
    (stop_later (foreign (rules_in s) c.args.target) (too_large (met (forms_in s) (plain_lexpr c.args.value.now))) _ c.in_ok-own.ensures c.in_err-form.ensures.faults)

pub returns-clause-faults : goal.returns-clause-faults
unfolding definitions
returns-clause-faults c =
    let s = c.args.self.now in
    none_in_both (foreign (rules_in s) c.args.target) (too_large (met (forms_in s) (plain_lexpr c.args.value.now))) c.in_ok-own.ensures c.in_ok-form.ensures.faults

pub returns-clause-after : goal.returns-clause-after
unfolding definitions
returns-clause-after c = record {
  rules = refl;
  forms = c.in_ok-set.ensures ∙ ap₂ (put (forms_in c.args.self.now)) c.place_of.ensures c.in_ok-form.ensures.form;
  written = c.in_ok-push_written.ensures;
}
