use Rattle.homeo_lform.proofs.FormLaw.{form_law}
use Rattle.homeo_lform.proofs.laws.form_means_the_program.Goals as goal

pub returns : goal.returns
returns c = form_law
