use Rattle.std.proofs.Common.{◌≡◌, ℕ, ◌≤◌, drop}
use Rattle.std.specs.Prelude.{slice_index}
use Rattle.homeo_rules.specs.inner.Scopes.{scope_in}
use Rattle.homeo_rules.specs.inner.Tally.{tally_all}
use Rattle.homeo_rules.proofs.rules.schedule.tallied.Given as goal

abbrev pub invariant-loop-x : goal.invariant-loop-x
invariant-loop-x l = record {
  few : (n : ℕ) → slice_index l.t.counts n ≤ l.x-index;
  so_far : tally_all (scope_in l.scope) l.cs l.t (drop l.x-index l.xs) ≡ tally_all (scope_in l.scope) l.cs l.initial.t l.xs;
}
