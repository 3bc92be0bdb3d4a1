-- The table has the fields of the relations so far.
use Rattle.std.proofs.Common.{◌≡◌, ℕ, take}
use Rattle.std.specs.Prelude.{slice_get}
use Rattle.homeo_rules.specs.inner.Tabled.{has_name, is_tabled}
use Rattle.homeo_rules.proofs.names.field_table.tabled.Given as goal

abbrev pub invariant-loop-place : goal.invariant-loop-place
invariant-loop-place l = (k n : ℕ) → is_tabled l.keys k n ≡ has_name (slice_get (take l.place l.relations) k) n
