use Rattle.homeo_lines.proofs.StatesBack.{state_read_back}
use Rattle.homeo_lines.proofs.laws.states_read_back.Goals as goal

pub returns : goal.returns
returns c = λ w names from to f t number small x h. state_read_back w names from to f t number small x h
