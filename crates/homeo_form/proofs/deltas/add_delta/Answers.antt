-- It stands at its place, or is put there.
use Rattle.homeo_form.proofs.Orders.{delta_inserted, delta_kept}
use Rattle.homeo_form.proofs.deltas.add_delta.Goals as goal

pub returns : goal.returns
returns c =
    delta_inserted c.args.delta c.args.deltas.now.items c.insert.new.self.items _ _ c.place-place.result c.as_slice.ensures.value
    c.as_slice-2.ensures.value c.place-place.ensures c.if-stands_at.ensures c.in_ok-insert.ensures.items

pub returns-then-stands_at : goal.returns-then-stands_at
returns-then-stands_at c =
    delta_kept c.args.delta c.args.deltas.now.items _ _ c.place-place.result c.as_slice.ensures.value c.as_slice-2.ensures.value
    c.place-place.ensures c.if-stands_at.ensures
