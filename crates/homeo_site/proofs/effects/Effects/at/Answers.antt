-- What is kept at the place.
use Rattle.std.proofs.Common.{◌≡◌, ◌<◌, length, get_or, ◌∙◌, sym, subst, arith}
use Rattle.homeo_site.specs.declared.effects.Kept.TheVariants.{New, Made}
use Rattle.homeo_site.specs.inner.Effects.{IsKept}
use Rattle.homeo_site.proofs.EffectLists.{kept_there}
use Rattle.homeo_site.proofs.effects.Effects.at.Goals as goal

pub returns-in-Made : goal.returns-in-Made
returns-in-Made c = λ v h.
    let less : c.args.place < length c.args.self.now.kept.items = omega arith in
    let same : get_or c.args.self.now.kept.items c.args.place New ≡ Made c.in-Made.effect =
    kept_there c.args.self.now.kept.items c.args.place New c.index.result.now less ∙ sym c.index.ensures ∙ c.in-Made.is in
    subst (IsKept v c.args.place) same (h c.args.place)
