-- Those before it stand first.
use Rattle.std.proofs.Common.{pos, rules, arith}
use Rattle.std.proofs.lemmas.List.Sorted.{IsPartitionPoint-from_clause}
use Rattle.homeo_plan.specs.Linear.{delta_before}
use Rattle.homeo_plan.specs.declared.forms.Term.{Term}
use Rattle.homeo_form.proofs.FactorsFound.{parted, place_found}
use Rattle.homeo_form.proofs.terms.place_by_halving.Goals as goal

pub returns : goal.returns
returns c =
    let ts = c.args.terms.now in
    let d = c.args.delta in
    let n = c.partition_point.result in
    let zero : Term = record { delta = record { object = 0; site = 0 }; factor = pos 0 } in
    let point = IsPartitionPoint-from_clause (λ (t : Term). delta_before t.delta d) ts n c.partition_point.ensures.partitioned (parted d ts c.requires) (λ a r q k. search rules) in
    place_found d ts n zero c.partition_point.ensures.bound (λ k m. point.0 k zero (omega arith) m) (λ m. point.1 n zero (omega arith) m)
