-- All clauses are made.
use Rattle.std.proofs.Common.{map, ap, ◌∙◌}
use Rattle.homeo_plan.specs.PlanView.{plain_clause}
use Rattle.homeo_template.proofs.AtSites.{clauses_made}
use Rattle.homeo_template.proofs.expanding.clauses_at_sites.Goals as goal

pub returns : goal.returns
returns c =
    ap (λ l. map plain_clause l.items) c.from_vec.ensures
    ∙ clauses_made c.args.sites c.args.given.now c.loop-clause.clauses.items c.loop-clause.clause-index c.loop-clause-test.false c.loop-clause.invariant
