-- The formula holds at the base, and its numbers are small.
use Rattle.homeo_syntax.specs.LowView.{plain_lcond}
use Rattle.homeo_plan_tests.proofs.ObjectExample.{formula_holds, formula_small}
use Rattle.homeo_plan_tests.proofs.formulas.a_bound_of_an_object_is_one_form_of_its_deltas.Goals as goal

pub atoms-requires-clause-holds : goal.atoms-requires-clause-holds
atoms-requires-clause-holds g c =
    formula_holds (plain_lcond c.at_most_five-formula.result) c.base-base.result.items c.at_most_five-formula.ensures c.base-base.ensures

pub atoms-requires-clause-small : goal.atoms-requires-clause-small
atoms-requires-clause-small g c =
    formula_small (plain_lcond c.at_most_five-formula.result) c.base-base.result.items c.at_most_five-formula.ensures c.base-base.ensures
