use Rattle.std.proofs.Common.{◌≡◌, ◌++◌, take}
use Rattle.homeo_syntax.specs.SourceView.{plain_workload}
use Rattle.homeo_print.specs.Treaties.{freezes_text}
use Rattle.homeo_print.proofs.treaties.push_freezes.Given as goal

abbrev pub invariant-loop-place : goal.invariant-loop-place
invariant-loop-place l = l.out.items ≡ l.fn.out.items ++ freezes_text (plain_workload l.w) l.first (take l.place l.freezes)
