use Rattle.homeo_history.proofs.Folds.{replays_are_serial}
use Rattle.homeo_history.proofs.laws.replayed_rounds_are_serial.Goals as goal

pub returns : goal.returns
returns c = replays_are_serial
