use Rattle.homeo_site.proofs.effects.Effects.is_due.Goals as goal

pub returns : goal.returns
returns c = λ v h. c.runs.ensures v (c.extend.ensures v h)
