-- The first delta that isn't before it is it, or none is.
use Rattle.std.proofs.Common.{◌≡◌, rules, false, nat_lt, length, sym, ap, ◌∙◌, subst, arith}
use Rattle.std.specs.List.{list_any}
use Rattle.std.proofs.lemmas.Bool.Decides.{nat_tests}
use Rattle.std.proofs.lemmas.List.Sorted.{IsPartitionPoint-from_clause}
use Rattle.homeo_plan.specs.Key.{definitions as plan_definitions}
use Rattle.homeo_plan.specs.Linear.{AreInOrder, same_delta, delta_before}
use Rattle.homeo_plan.specs.declared.forms.Delta.{Delta}
use Rattle.homeo_cert_reader.proofs.Frozen.{parted, at_place, all_before, same_either_way}
use Rattle.homeo_cert_reader.proofs.freezes.Freezes.has.Goals as goal

pub returns-then-place-deltas : goal.returns-then-place-deltas
unfolding plan_definitions
returns-then-place-deltas c =
    let ds = c.as_slice-deltas.result.now in
    let d = c.args.delta in
    let zero : Delta = record { object = 0; site = 0 } in
    let same : c.args.self.now ≡ ds = sym c.self.view_is ∙ sym c.as_slice-deltas.ensures.value in
    let order : AreInOrder ds = subst AreInOrder (sym c.as_slice-deltas.ensures.value) c.self.invariant in
    let point = IsPartitionPoint-from_clause (λ y. delta_before y d) _ _ c.partition_point-place.ensures.partitioned (parted d ds order) (λ a r q k. search rules) in
    let found = at_place d ds c.partition_point-place.result zero order c.if-place-deltas.true (λ k m. point.0 k zero (omega arith) m) (point.1 c.partition_point-place.result zero (omega arith) c.if-place-deltas.true) in
    c.eq.ensures ∙ same_either_way d _ ∙ sym found ∙ ap (list_any (same_delta d)) (sym same)

pub returns-else-place-deltas : goal.returns-else-place-deltas
unfolding plan_definitions
returns-else-place-deltas c =
    let ds = c.as_slice-deltas.result.now in
    let d = c.args.delta in
    let zero : Delta = record { object = 0; site = 0 } in
    let same : c.args.self.now ≡ ds = sym c.self.view_is ∙ sym c.as_slice-deltas.ensures.value in
    let order : AreInOrder ds = subst AreInOrder (sym c.as_slice-deltas.ensures.value) c.self.invariant in
    let point = IsPartitionPoint-from_clause (λ y. delta_before y d) _ _ c.partition_point-place.ensures.partitioned (parted d ds order) (λ a r q k. search rules) in
    let none = all_before d ds zero (λ k m. point.0 k zero (omega arith) (omega (arith, m, c.if-place-deltas.false))) in
    let past : nat_lt c.partition_point-place.result (length ds) ≡ false = grind (arith, nat_tests, c.if-place-deltas.false) in
    past ∙ sym none ∙ ap (list_any (same_delta d)) (sym same)
