-- The set has the names so far.
use Rattle.std.proofs.Common.{◌≡◌, ℕ, ◌==◌, [], drop, take}
use Rattle.std.specs.Prelude.{nat_eq}
use Rattle.std.specs.List.{list_any}
use Rattle.indexmap.specs.IndexSet.{contains}
use Rattle.homeo_rules.specs.inner.Listwise.{along_each}
use Rattle.homeo_rules.specs.inner.Relations.{named_twice}
use Rattle.homeo_rules.proofs.rules.fields.check_distinct.Given as goal

abbrev pub invariant-loop-f : goal.invariant-loop-f
invariant-loop-f l = record {
  names : (n : ℕ) → contains nat_eq l.names n ≡ list_any (λ f. f.field.name == n) (take l.f-index l.fields);
  so_far : along_each named_twice (take l.f-index l.fields) l.best (drop l.f-index l.fields) ≡ along_each named_twice [] l.initial.best l.fields;
}
