-- What is left, with what has been counted, is as much as the whole.
use Rattle.std.proofs.Common.{◌≡◌, map, drop}
use Rattle.homeo_syntax.specs.SourceView.{commands, plain_command}
use Rattle.homeo_size.specs.inner.Prints.{all_prints}
use Rattle.homeo_size.specs.inner.Tables.{context_of}
use Rattle.homeo_size.proofs.frame.Frame.+prints.Given as goal

abbrev pub invariant-all_prints-loop-c : goal.invariant-all_prints-loop-c
invariant-all_prints-loop-c l =
    all_prints (context_of l.self) (commands (map plain_command (drop l.c-index l.cs))) l.all ≡ all_prints (context_of l.self) (commands (map plain_command l.cs)) 0
