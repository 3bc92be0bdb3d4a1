-- The clauses and the freezes make the template.
use Rattle.std.proofs.Common.{subst, sym, map, []}
use Rattle.homeo_plan.specs.PlanView.{plain_atoms}
use Rattle.homeo_plan.specs.Template.{atoms_of_sets}
use Rattle.homeo_plan.specs.declared.templates.FreezeSet.{FreezeSet}
use Rattle.homeo_plan.specs.Linear.{AreInOrder}
use Rattle.homeo_atoms.proofs.Putting.{template_of}
use Rattle.homeo_plan.proofs.DeltaLists.{none_in_order, in_order_puts}
use Rattle.homeo_atoms.proofs.JoinedSlacks.{have-slack, small-slacks}
use Rattle.homeo_atoms.proofs.joining.template.Goals as goal

pub returns-clause-value : goal.returns-clause-value
returns-clause-value c = template_of _ _ _ _ c.in_ok-clauses.ensures c.in_ok-freezes.ensures

pub returns-clause-small : goal.returns-clause-small
returns-clause-small c = small-slacks c.args.sets.now _ c.requires.small c.in_ok-clauses.ensures

pub returns-clause-slack : goal.returns-clause-slack
returns-clause-slack c = λ below. have-slack c.args.sets.now _ below c.in_ok-clauses.ensures

pub returns-clause-order : goal.returns-clause-order
returns-clause-order c =
    subst AreInOrder (sym c.in_ok-freezes.ensures)
    (in_order_puts (map (λ (f : FreezeSet). f.deltas.items) c.args.freezes.now) _ (in_order_puts (map (λ a. a.mixed) (atoms_of_sets (map plain_atoms c.args.sets.now))) [] none_in_order))
