use Rattle.homeo_notes.proofs.board.Board.deal.Given as goal

-- the lines that are dealt
abbrev pub ghosts-mark : goal.ghosts-mark
ghosts-mark g a = record { first = a.first; end = a.end }
