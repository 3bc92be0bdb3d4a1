-- The deltas of both.
use Rattle.std.proofs.Common.{rules}
use Rattle.homeo_form.proofs.Widths.{product_kept}
use Rattle.homeo_form.proofs.FormParts.{put_into, mix_in_order, mix_is}
use Rattle.homeo_form.proofs.form.Form.mixed_with.Goals as goal

pub invariant_of-result : goal.invariant_of-result
invariant_of-result c = mix_in_order _ _ _ c.new.ensures.items c.in_ok-in_order.ensures

pub returns : goal.returns
returns c =
    mix_is c.args.self.now c.args.other.now c.self.inside.constant c.other.inside.constant _ _ _ _ _ _ _ _ _ _ c.self.view_is c.other.view_is
    (product_kept c.multiplied.result c.self.inside.constant c.other.inside.constant (search rules) (search rules) (search rules) c.multiplied.ensures)
    c.new.ensures.items
    (put_into c.in_ok-mixed.mixed.items _ _ _ c.in_ok-in_order.ensures c.in_ok-extend_from_slice.ensures.items c.in_ok-mixed.ensures.order)
    c.as_slice.ensures.value c.in_ok-deltas.ensures.value c.in_ok-mixed.ensures.value c.in_ok-mixed.ensures.order c.in_ok-deltas.ensures.order
