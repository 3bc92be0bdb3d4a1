use Rattle.std.proofs.Common.{◌≡◌, ◌<◌, ◌≤◌, ◌^◌, ◌++◌, All, map, take, length}
use Rattle.homeo_syntax.specs.SourceView.{plain_workload}
use Rattle.homeo_meaning.specs.Ground.{plain_ground}
use Rattle.homeo_print.specs.Tables.{call_table}
use Rattle.homeo_commands.specs.inner.Tabulated.{calls_text}
use Rattle.homeo_commands.proofs.tables.push_calls.Given as goal

abbrev pub invariant-loop-number : goal.invariant-loop-number
invariant-loop-number l = record {
  text : l.out.items ≡ l.fn.out.items ++ calls_text (plain_workload l.c) (map plain_ground (take l.number l.calls));
  counts : map length (map (call_table (plain_workload l.c)) (map plain_ground (take l.number l.calls))) ≡ l.counts.items;
  some : All (λ n. 1 ≤ n) l.counts.items;
  counted : All (λ n. n < 2 ^ 32) l.counts.items;
}
