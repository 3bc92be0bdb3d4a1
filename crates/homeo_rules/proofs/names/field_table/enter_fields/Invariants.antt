-- The table has the fields so far.
use Rattle.std.proofs.Common.{◌≡◌, ℕ, ◌==◌, ◌&&◌, ◌||◌, take}
use Rattle.std.specs.List.{list_any}
use Rattle.homeo_rules.specs.inner.Tabled.{is_tabled}
use Rattle.homeo_rules.proofs.names.field_table.enter_fields.Given as goal

abbrev pub invariant-loop-d : goal.invariant-loop-d
invariant-loop-d l = (k n : ℕ) → is_tabled l.keys k n ≡ (is_tabled l.fn.keys k n || ((l.relation == k) && list_any (λ d. d.name.name == n) (take l.d-index l.fields)))
