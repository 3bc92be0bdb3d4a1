use Rattle.std.proofs.Common.{◌≡◌, ◌++◌, map}
use Rattle.homeo_meaning.specs.Schema.{declared_range}
use Rattle.homeo_meaning.specs.Initial.{slot_starts}
use Rattle.homeo_eval.proofs.start.start_relation.Given as goal

abbrev pub invariant-loop : goal.invariant-loop
invariant-loop l = l.database.items ≡ l.fn.database.items ++ slot_starts l.counter (map declared_range l.relation.fields.items)
