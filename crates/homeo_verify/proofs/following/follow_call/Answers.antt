-- The command's faults, and then those of what it wrote.
use Rattle.std.proofs.Common.{◌≡◌, ap, ◌∙◌}
use Rattle.homeo_meaning.specs.Serial.{values_of}
use Rattle.homeo_plan.specs.Linear.{base_forms}
use Rattle.homeo_certificate.specs.Key.{definitions}
use Rattle.homeo_certificate.specs.Certificate.{base_of}
use Rattle.homeo_certificate.specs.Followed.{rules_of}
use Rattle.homeo_cert_reader.specs.CertificateView.{plain_call, plain_certificate}
use Rattle.homeo_verify.specs.inner.Follows.{rules_in, forms_in}
use Rattle.homeo_verify.proofs.FollowSteps.{call_stops_in, call_ends}
use Rattle.homeo_verify.proofs.Stopping.{stop_with}
use Rattle.homeo_verify.proofs.following.follow_call.Goals as goal

pub returns-in_err-follow : goal.returns-in_err-follow
unfolding definitions
returns-in_err-follow c =
    let d = plain_certificate c.args.c.now in
    let g = plain_call c.args.call.now in
    let rules : rules_in c.new-following.result ≡ rules_of d g = c.new-following.ensures.rules ∙ λ i. record { site = g.site; clauses = c.requires i; freezes = d.freezes } in
    let forms : forms_in c.new-following.result ≡ base_forms (base_of d) = c.new-following.ensures.forms ∙ ap (λ l. base_forms (values_of l)) c.as_slice.ensures.value in
    stop_with _ c.from_residual.result _ c.from_residual.ensures.1
    (call_stops_in d g c.new-following.result rules forms _ c.in_err-follow.ensures.faults)

pub returns : goal.returns
unfolding definitions
returns c =
    let d = plain_certificate c.args.c.now in
    let g = plain_call c.args.call.now in
    let rules : rules_in c.new-following.result ≡ rules_of d g = c.new-following.ensures.rules ∙ λ i. record { site = g.site; clauses = c.requires i; freezes = d.freezes } in
    let forms : forms_in c.new-following.result ≡ base_forms (base_of d) = c.new-following.ensures.forms ∙ ap (λ l. base_forms (values_of l)) c.as_slice.ensures.value in
    call_ends d g c.new-following.result rules forms c.new-following.ensures.written c.follow.new.self c.in_ok-follow.ensures.faults c.in_ok-follow.ensures.after c.end.result c.end.ensures
