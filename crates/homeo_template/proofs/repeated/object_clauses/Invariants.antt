-- The loop of `object_clauses`.
use Rattle.std.proofs.Common.{◌≡◌, [], map, take}
use Rattle.homeo_plan.specs.Template.{clauses_from, atoms_of_sets}
use Rattle.homeo_template.specs.Places.{set_at}
use Rattle.homeo_template.specs.inner.Keys.{clauses_in}
use Rattle.homeo_template.specs.inner.Met.{atoms_of_part, AreMet}
use Rattle.homeo_template.proofs.repeated.object_clauses.Given as goal

abbrev pub invariant-loop-place : goal.invariant-loop-place
invariant-loop-place l = record {
  met : AreMet l.met.items (map atoms_of_part l.parts) (clauses_in l.distinct);
  clauses : clauses_in l.distinct ≡ clauses_from [] (atoms_of_sets (map (set_at (map atoms_of_part l.parts)) (take l.place-index l.places)));
}
