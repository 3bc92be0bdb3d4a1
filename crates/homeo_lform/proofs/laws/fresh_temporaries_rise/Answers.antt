use Rattle.homeo_meaning.specs.Aborts.{holds_abort}
use Rattle.homeo_lform.proofs.Fresh.{form_takes}
use Rattle.homeo_lform.proofs.laws.fresh_temporaries_rise.Goals as goal

pub returns : goal.returns
returns c x d n s = form_takes (holds_abort d) x d n s (λ e. e)
