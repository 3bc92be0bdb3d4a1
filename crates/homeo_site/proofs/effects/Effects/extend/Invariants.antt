use Rattle.homeo_site.specs.SiteView.{StartValue}
use Rattle.homeo_site.specs.inner.Effects.{AreKept}
use Rattle.homeo_site.proofs.effects.Effects.extend.Given as goal

abbrev pub invariant-loop : goal.invariant-loop
invariant-loop l = (v : StartValue) → AreKept v l.fn.self → AreKept v l.self
