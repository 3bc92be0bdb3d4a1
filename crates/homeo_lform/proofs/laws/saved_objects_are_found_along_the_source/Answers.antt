use Rattle.std.specs.Prelude.{false, []}
use Rattle.homeo_meaning.specs.Key.{definitions}
use Rattle.homeo_lform.proofs.Written.{forms_written}
use Rattle.homeo_lform.proofs.laws.saved_objects_are_found_along_the_source.Goals as goal

pub returns : goal.returns
unfolding definitions
returns c x body = forms_written x false body 0 []
