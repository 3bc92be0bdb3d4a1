use Rattle.homeo_syntax.specs.SourceView.{plain_workload}
use Rattle.homeo_tests.proofs.answers.run_day.Given as goal

-- the board that was just made, and the workload
abbrev pub ghosts-run_day_on-N-ClusterNaming : goal.ghosts-run_day_on-N-ClusterNaming
ghosts-run_day_on-N-ClusterNaming g a = record { workload = plain_workload a.c.value }

abbrev pub ghosts-run_day_on-N-Naming : goal.ghosts-run_day_on-N-Naming
ghosts-run_day_on-N-Naming g a = record { board = a.blank }
