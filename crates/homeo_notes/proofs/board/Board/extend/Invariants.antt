use Rattle.std.proofs.Common.{◌++◌}
use Rattle.homeo_notes.proofs.board.Board.extend.Given as goal

-- the entry that is added
abbrev pub ghosts-add : goal.ghosts-add
ghosts-add g a = record { entry = a.head.now ++ a.body.now }
