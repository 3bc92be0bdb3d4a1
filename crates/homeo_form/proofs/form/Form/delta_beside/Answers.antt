-- One term.
use Rattle.std.proofs.Common.{◌∷◌, [], pos, refl}
use Rattle.homeo_form.specs.Key.{definitions}
use Rattle.homeo_form.proofs.FormParts.{one_in_order, same_form}
use Rattle.homeo_form.proofs.Widths.{kept_is}
use Rattle.homeo_form.proofs.form.Form.delta_beside.Goals as goal

pub invariant_of-result : goal.invariant_of-result
invariant_of-result c =
    one_in_order c.args.delta c.in_ok-terms.terms.items [] c.new.result.items refl c.in_ok-terms.ensures.items c.new.ensures.items

pub returns : goal.returns
unfolding definitions
returns c =
    same_form _ c.args.constant c.in_ok-terms.terms.items (record { delta = c.args.delta; factor = pos 1 } ∷ []) c.new.result.items []
    (kept_is c.args.constant c.args.constant c.ranges.constant refl) c.in_ok-terms.ensures.items c.new.ensures.items
