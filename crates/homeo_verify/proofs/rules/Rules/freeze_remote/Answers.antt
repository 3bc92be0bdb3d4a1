-- The deltas of other sites, each of them frozen or not.
use Rattle.std.proofs.Common.{◌∙◌, subst}
use Rattle.homeo_certificate.specs.Key.{definitions}
use Rattle.homeo_certificate.specs.Followed.{not_frozen}
use Rattle.homeo_verify.specs.inner.RulesView.{plain_rules}
use Rattle.homeo_verify.specs.inner.Stops.{Finds}
use Rattle.homeo_verify.proofs.rules.Rules.freeze_remote.Goals as goal

pub returns : goal.returns
unfolding definitions
returns c =
    subst (λ ds. Finds (not_frozen (plain_rules c.args.self.now) ds) c.freeze.result) (c.as_slice.ensures.value ∙ c.in_ok-remote.ensures) c.freeze.ensures
