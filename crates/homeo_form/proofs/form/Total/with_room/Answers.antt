-- No term and no delta.
use Rattle.std.proofs.Common.{refl, pos}
use Rattle.homeo_form.proofs.FormParts.{none_small, total_none}
use Rattle.homeo_form.proofs.form.Total.with_room.Goals as goal

pub invariant_of-result : goal.invariant_of-result
invariant_of-result c = none_small _ c.in_ok-with_capacity.ensures.items

pub returns : goal.returns
returns c = total_none (pos 0) _ _ refl c.in_ok-with_capacity.ensures.items c.new.ensures.items
