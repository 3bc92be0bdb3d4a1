use Rattle.std.proofs.Common.{◌≡◌, ◌++◌, drop, map}
use Rattle.homeo_syntax.specs.SourceView.{plain_workload}
use Rattle.homeo_meaning.specs.Schema.{schema_of}
use Rattle.homeo_meaning.specs.Bounds.{IsWithin}
use Rattle.homeo_meaning.specs.Serial.{serial}
use Rattle.homeo_eval.proofs.runs.run_each.Given as goal

abbrev pub invariant-loop-call : goal.invariant-loop-call
invariant-loop-call l =
    let w = plain_workload l.w in
    record {
      within : IsWithin (schema_of w) l.database.items;
      logs : map (λ p. p.items) l.logs.items ++ (serial w l.database.items (drop l.call-index l.calls)).logs ≡ (serial w l.initial.database.items l.calls).logs;
      last : (serial w l.database.items (drop l.call-index l.calls)).database ≡ (serial w l.initial.database.items l.calls).database;
    }
