-- What is left, with what has been counted, is as much as the whole.
use Rattle.std.proofs.Common.{◌≡◌, map, drop}
use Rattle.homeo_syntax.specs.SourceView.{commands, plain_command}
use Rattle.homeo_size.specs.inner.Nodes.{commands_nodes}
use Rattle.homeo_size.specs.inner.Tables.{context_of}
use Rattle.homeo_size.proofs.frame.Frame.+command_nodes.Given as goal

abbrev pub invariant-commands_nodes-loop-c : goal.invariant-commands_nodes-loop-c
invariant-commands_nodes-loop-c l =
    commands_nodes (context_of l.self) (commands (map plain_command (drop l.c-index l.cs))) l.all ≡ commands_nodes (context_of l.self) (commands (map plain_command l.cs)) l.fn.first
