-- A delta of the call's site, or not.
use Rattle.std.proofs.Common.{rules, ◌≡◌, ◌==◌, true, false, cond, [], ◌∷◌, ap, ◌∙◌}
use Rattle.homeo_certificate.specs.Key.{definitions}
use Rattle.homeo_certificate.specs.Followed.{foreign}
use Rattle.homeo_certificate.specs.declared.fault.Fault.TheVariants.{ForeignWrite}
use Rattle.homeo_verify.specs.inner.RulesView.{plain_rules}
use Rattle.homeo_verify.proofs.rules.Rules.own.Goals as goal

pub returns-then-site-self : goal.returns-then-site-self
unfolding definitions
returns-then-site-self c =
    let same : (c.in-Delta.site == c.args.self.now.site) ≡ true = search rules in
    ap (foreign (plain_rules c.args.self.now)) c.in-Delta.is ∙ ap (λ v. cond v [] (ForeignWrite ∷ [])) same

pub returns-else-site-self : goal.returns-else-site-self
unfolding definitions
returns-else-site-self c =
    let other : (c.in-Delta.site == c.args.self.now.site) ≡ false = search rules in
    ([], ap (foreign (plain_rules c.args.self.now)) c.in-Delta.is ∙ ap (λ v. cond v [] (ForeignWrite ∷ [])) other)

pub returns-in-Whole : goal.returns-in-Whole
unfolding definitions
returns-in-Whole c = ([], ap (foreign (plain_rules c.args.self.now)) c.in-Whole.is)

pub returns-in-Base : goal.returns-in-Base
unfolding definitions
returns-in-Base c = ([], ap (foreign (plain_rules c.args.self.now)) c.in-Base.is)
