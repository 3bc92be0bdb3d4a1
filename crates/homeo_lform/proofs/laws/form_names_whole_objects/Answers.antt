use Rattle.homeo_lform.proofs.Wholes.{whole_law, ground_whole}
use Rattle.homeo_lform.proofs.laws.form_names_whole_objects.Goals as goal

pub returns-clause-calls : goal.returns-clause-calls
returns-clause-calls c = whole_law

pub returns-clause-ground_calls : goal.returns-clause-ground_calls
returns-clause-ground_calls c = ground_whole
