-- No delta.
use Rattle.std.proofs.Common.{refl}
use Rattle.homeo_form.proofs.Widths.{kept_is}
use Rattle.homeo_form.proofs.FormParts.{none_in_order, number_is}
use Rattle.homeo_form.proofs.form.Form.number.Goals as goal

pub invariant_of-result : goal.invariant_of-result
invariant_of-result c = none_in_order c.new.result.items c.new-2.result.items c.new.ensures.items c.new-2.ensures.items

pub returns : goal.returns
returns c =
    number_is _ c.args.n c.new.result.items c.new-2.result.items (kept_is c.args.n c.args.n c.ranges.n refl) c.new.ensures.items c.new-2.ensures.items
