-- The loop of `join_clauses`.
use Rattle.std.proofs.Common.{◌≡◌, [], map, take}
use Rattle.homeo_plan.specs.PlanView.{plain_atoms}
use Rattle.homeo_plan.specs.Template.{clauses_from, atoms_of_sets}
use Rattle.homeo_template.specs.inner.Keys.{clauses_in}
use Rattle.homeo_template.proofs.clauses.join_clauses.Given as goal

abbrev pub invariant-loop-set : goal.invariant-loop-set
invariant-loop-set l = clauses_in l.distinct ≡ clauses_from [] (atoms_of_sets (map plain_atoms (take l.set-index l.sets)))
