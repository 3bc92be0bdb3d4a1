use Rattle.homeo_lform.proofs.NamedWithin.{named_law}
use Rattle.homeo_lform.proofs.laws.form_names_only_what_exists.Goals as goal

pub returns : goal.returns
returns c = named_law
