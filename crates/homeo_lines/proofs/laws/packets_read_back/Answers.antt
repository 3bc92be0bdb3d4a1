use Rattle.homeo_lines.proofs.ReadBack.{packet_read_back}
use Rattle.homeo_lines.proofs.laws.packets_read_back.Goals as goal

pub returns : goal.returns
returns c = λ w names from to f t p h. packet_read_back w names from to f t p h
