-- The loop of `put_all`.
use Rattle.std.proofs.Common.{◌≡◌, map, take}
use Rattle.homeo_plan.specs.PlanView.{plain_atom}
use Rattle.homeo_plan.specs.Template.{clauses_from}
use Rattle.homeo_template.specs.inner.Keys.{clauses_in}
use Rattle.homeo_template.proofs.clauses.DistinctClauses.put_all.Given as goal

abbrev pub invariant-loop-atom : goal.invariant-loop-atom
invariant-loop-atom l = clauses_in l.self ≡ clauses_from (clauses_in l.fn.self) (map plain_atom (take l.atom-index l.atoms))
