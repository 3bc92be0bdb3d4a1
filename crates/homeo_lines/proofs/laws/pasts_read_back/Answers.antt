use Rattle.homeo_lines.proofs.ReadBack.{past_read_back}
use Rattle.homeo_lines.proofs.laws.pasts_read_back.Goals as goal

pub returns : goal.returns
returns c = λ w names from to f t p h. past_read_back w names from to f t p h
