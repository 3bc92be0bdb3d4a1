use Rattle.homeo_live.specs.Key.{definitions}
use Rattle.homeo_desk.proofs.desk.Desk.stop.Goals as goal

pub returns-in-No-clause-moves : goal.returns-in-No-clause-moves
unfolding definitions
returns-in-No-clause-moves c = c.in_ok-delivered.ensures.delivers.move

pub returns-in_default-clause-moves : goal.returns-in_default-clause-moves
unfolding definitions
returns-in_default-clause-moves c = c.in_ok-delivered.ensures.delivers.move
