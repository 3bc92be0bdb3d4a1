use Rattle.homeo_lines.proofs.AcceptedNames.{call_small}
use Rattle.homeo_lines.proofs.laws.calls_are_small.Goals as goal

pub returns : goal.returns
returns c = λ w site call accepted at. call_small w site call accepted at
