use Rattle.homeo_tests.proofs.boards.two_holders_agree.Given as goal

-- N names the blank board
abbrev pub ghosts-agree_within : goal.ghosts-agree_within
ghosts-agree_within g a = record { board = a.blank }
