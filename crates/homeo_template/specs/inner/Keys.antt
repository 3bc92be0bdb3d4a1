-- What tells clauses apart, and the clauses that have keys.
use Rattle.std.specs.Prelude.{List, map}
use Rattle.homeo_plan.specs.Template.{Clause}
use Rattle.homeo_template.specs.declared.clauses.DistinctClauses.{DistinctClauses}
use Rattle.homeo_template.specs.declared.key.Key.{Key}

-- the clause that has the key
abbrev pub clause_at : Key → Clause
clause_at k = record { terms = k.terms.now; slack = k.slack }

abbrev pub clauses_in : DistinctClauses → List Clause
clauses_in d = map clause_at d.keys.keys
