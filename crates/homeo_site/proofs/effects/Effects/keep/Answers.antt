-- What is kept at the place is what was found.
use Rattle.homeo_site.specs.inner.Effects.{IsKept}
use Rattle.homeo_site.proofs.EffectLists.{kept_set}
use Rattle.homeo_site.proofs.effects.Effects.keep.Goals as goal

pub returns-then-place-len : goal.returns-then-place-len
returns-then-place-len c = λ v h e.
    kept_set (IsKept v) c.args.self.now.kept.items c.args.place c.found.result h (c.found.ensures v c.args.place e)
