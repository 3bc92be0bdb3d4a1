-- The clauses of one atom after another.
use Rattle.homeo_meaning.specs.Small.{IsSmall}
use Rattle.homeo_plan.specs.Limit.{form_limit}
use Rattle.homeo_plan.specs.PlanView.{plain_atom}
use Rattle.homeo_template.specs.inner.Keys.{clauses_in}
use Rattle.homeo_template.proofs.Appending.{no-clauses, each_at, atoms_more}
use Rattle.homeo_template.proofs.clauses.DistinctClauses.put_all.Goals as goal

pub loop-atom-init : goal.loop-atom-init
loop-atom-init c = no-clauses (clauses_in c.args.self.now)

pub put-requires : goal.put-requires
put-requires c =
    each_at plain_atom (λ a. IsSmall form_limit a.constant) c.args.atoms.now c.loop-atom.atom-index c.atom-item.result c.requires c.loop-atom-test.true c.atom-item.is

pub loop-atom-preserved : goal.loop-atom-preserved
loop-atom-preserved c =
    atoms_more c.args.atoms.now c.loop-atom.atom-index c.atom-item.result c.loop-atom-test.true c.atom-item.is _ _ _ c.loop-atom.invariant c.in_ok-put.ensures
