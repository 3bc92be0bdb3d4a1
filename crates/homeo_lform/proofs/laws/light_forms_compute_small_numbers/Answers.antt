use Rattle.homeo_lform.proofs.Light.{light_law}
use Rattle.homeo_lform.proofs.laws.light_forms_compute_small_numbers.Goals as goal

pub returns : goal.returns
returns c = light_law
