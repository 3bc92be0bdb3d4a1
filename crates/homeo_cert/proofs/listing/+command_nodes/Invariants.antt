-- What is listed, with what is left.
use Rattle.std.proofs.Common.{◌≡◌, ◌++◌, map, drop}
use Rattle.homeo_syntax.specs.LowView.{low_commands, plain_lcommand}
use Rattle.homeo_certificate.specs.Nodes.{commands_nodes}
use Rattle.homeo_cert.proofs.listing.+command_nodes.Given as goal

abbrev pub invariant-push_commands-loop-c : goal.invariant-push_commands-loop-c
invariant-push_commands-loop-c l = l.nodes.items ++ commands_nodes (low_commands (map plain_lcommand (drop l.c-index l.cs))) ≡ l.initial.nodes.items ++ commands_nodes (low_commands (map plain_lcommand l.cs))
