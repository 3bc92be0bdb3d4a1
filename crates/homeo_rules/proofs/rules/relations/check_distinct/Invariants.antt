-- The set has the names so far.
use Rattle.std.proofs.Common.{◌≡◌, ℕ, ◌==◌, [], drop, take}
use Rattle.std.specs.Prelude.{nat_eq}
use Rattle.std.specs.List.{list_any}
use Rattle.indexmap.specs.IndexSet.{contains}
use Rattle.homeo_rules.specs.inner.Listwise.{along_each}
use Rattle.homeo_rules.specs.inner.Relations.{declared_twice}
use Rattle.homeo_rules.proofs.rules.relations.check_distinct.Given as goal

abbrev pub invariant-loop-d : goal.invariant-loop-d
invariant-loop-d l = record {
  names : (n : ℕ) → contains nat_eq l.names n ≡ list_any (λ d. d.name.name == n) (take l.d-index l.ds);
  so_far : along_each declared_twice (take l.d-index l.ds) l.best (drop l.d-index l.ds) ≡ along_each declared_twice [] l.initial.best l.ds;
}
