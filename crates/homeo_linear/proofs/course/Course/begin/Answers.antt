-- Nothing was asked, printed or written.
use Rattle.std.proofs.Common.{map, ap}
use Rattle.homeo_plan.specs.PlanView.{plain_atom}
use Rattle.homeo_plan.specs.declared.forms.Delta.{Delta}
use Rattle.homeo_follow.specs.Key.{definitions}
use Rattle.homeo_linear.proofs.course.Course.begin.Goals as goal

pub returns : goal.returns
unfolding definitions
returns c = λ i. record {
  atoms = ap (map plain_atom) c.clear.ensures.items i;
  prints = c.clear-2.ensures.items i;
  written = ap (map (λ (d : Delta). d.object)) c.clear-3.ensures.items i;
  forms = c.begin_objects.ensures i;
}
