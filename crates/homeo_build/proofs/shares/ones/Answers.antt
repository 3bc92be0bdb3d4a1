use Rattle.std.proofs.Common.{ap, ◌∙◌}
use Rattle.homeo_build.proofs.SiteShares.{ones_are}
use Rattle.homeo_build.proofs.shares.ones.Goals as goal

pub returns : goal.returns
returns c = ap (λ l. l.items) c.from_vec.ensures ∙ c.in_ok-ones.ensures ∙ ones_are c.args.sites
