-- The delta at a place stands behind the one before it, or not.
use Rattle.std.proofs.Common.{refl}
use Rattle.std.proofs.lemmas.Bool.{false≢true}
use Rattle.homeo_cert_reader.proofs.DeltasInOrder.{in_order_goes_on, in_order_stops, in_order_ends}
use Rattle.homeo_cert_reader.proofs.freezes.are_in_order.Goals as goal

pub returns-then-not-is_before : goal.returns-then-not-is_before
returns-then-not-is_before c = (
  λ t. absurd (false≢true t),
  λ r. absurd (in_order_stops c.args.deltas.now c.loop-place.place _ _ c.is_before.result c.loop-place.auto.place c.loop-place-test.true c.is_before.ensures c.if-not-is_before.true r),
)

pub loop-place-preserved : goal.loop-place-preserved
loop-place-preserved c =
    in_order_goes_on c.args.deltas.now c.loop-place.place _ _ c.is_before.result c.loop-place.auto.place c.loop-place-test.true c.is_before.ensures c.if-not-is_before.false c.loop-place.invariant

pub returns : goal.returns
returns c = (λ t. in_order_ends c.args.deltas.now c.loop-place.place c.loop-place-test.false c.loop-place.invariant, λ r. refl)
