use Rattle.std.proofs.Common.{◌≡◌, ℕ, ◌≤◌, drop, length, get_or}
use Rattle.homeo_meaning.specs.Declarations.{place_from}
use Rattle.homeo_context.proofs.declarations.Places.of.Given as goal

abbrev pub invariant-loop-place : goal.invariant-loop-place
invariant-loop-place l = record {
  within : l.place ≤ length l.names.items;
  slots : (n : ℕ) → get_or l.places.items n l.absent ≡ place_from l.place (drop l.place l.names.items) n;
}

abbrev pub decreases-loop-place : goal.decreases-loop-place
decreases-loop-place l = l.place
