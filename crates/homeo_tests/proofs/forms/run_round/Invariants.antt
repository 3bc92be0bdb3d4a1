-- The database stays within its bounds.
use Rattle.homeo_syntax.specs.SourceView.{plain_workload}
use Rattle.homeo_meaning.specs.Bounds.{IsWithin}
use Rattle.homeo_meaning.specs.Schema.{schema_of}
use Rattle.homeo_tests.proofs.forms.run_round.Given as goal

abbrev pub invariant-loop-call : goal.invariant-loop-call
invariant-loop-call g l = IsWithin (schema_of (plain_workload l.w)) l.database.items
