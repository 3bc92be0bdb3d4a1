-- Each object is weighed.
use Rattle.std.proofs.Common.{ap}
use Rattle.homeo_meaning.specs.Key.{definitions}
use Rattle.homeo_meaning.specs.Declarations.{Declarations}
use Rattle.homeo_size.proofs.Layouts.{all_weighed}
use Rattle.homeo_size.proofs.layout.Layout.of.Goals as goal

pub invariant_of-result : goal.invariant_of-result
unfolding definitions
invariant_of-result c =
    all_weighed c.args.workload.now c.in_ok-of_workload.field-0.schema c.as_slice.result.now c.as_slice-2.result.now c.in_ok-weights.weights.items c.weigh_relations.new.weights.items (ap (λ (d : Declarations). d.schema) c.in_ok-of_workload.ensures) c.as_slice.ensures c.as_slice-2.ensures c.in_ok-weights.ensures c.in_ok-weigh_relations.ensures

pub returns : goal.returns
unfolding definitions
returns c = ap (λ (d : Declarations). d.schema) c.in_ok-of_workload.ensures
