-- That a form was run is no effect.
use Rattle.homeo_site.specs.declared.effects.Kept.TheVariants.{Run}
use Rattle.homeo_site.specs.inner.Effects.{IsKept}
use Rattle.homeo_site.proofs.EffectLists.{kept_set}
use Rattle.homeo_site.proofs.effects.Effects.runs.Goals as goal

pub returns-in-New : goal.returns-in-New
returns-in-New c = λ v h. kept_set (IsKept v) c.args.self.now.kept.items c.args.place Run h tt
