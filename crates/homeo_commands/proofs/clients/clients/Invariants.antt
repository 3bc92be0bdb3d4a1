use Rattle.homeo_syntax.specs.SourceView.{plain_workload}
use Rattle.homeo_commands.proofs.clients.clients.Given as goal

-- the board that was just made, and the workload
abbrev pub ghosts-clients_on-N-ClusterNaming : goal.ghosts-clients_on-N-ClusterNaming
ghosts-clients_on-N-ClusterNaming g a = record { workload = plain_workload a.c.value }

abbrev pub ghosts-clients_on-N-Naming : goal.ghosts-clients_on-N-Naming
ghosts-clients_on-N-Naming g a = record { board = a.blank }
