use Rattle.homeo_lines.proofs.AcceptedNames.{accepted_named}
use Rattle.homeo_lines.proofs.laws.clients_are_named.Goals as goal

pub returns : goal.returns
returns c = λ w accepted. accepted_named w accepted
