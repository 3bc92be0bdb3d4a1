use Rattle.std.proofs.Common.{rules, Some, sym, ap, ◌∙◌}
use Rattle.std.specs.Int.RustNames.{unsigned_abs}
use Rattle.std.proofs.Common.{w64, to_z, of_z}
use Rattle.homeo_meaning.proofs.Numbers.{index_is}
use Rattle.homeo_context.proofs.SlotLists.{slot_is, at_here, at_past, at_below}
use Rattle.homeo_context.proofs.slots.Slots.at.Goals as goal

pub returns-then-v-lt0 : goal.returns-then-v-lt0
returns-then-v-lt0 c = sym (at_below c.args.self.now c.args.v (search rules))

pub returns-then-number-self : goal.returns-then-number-self
returns-then-number-self c =
    let j = unsigned_abs (to_z w64 (of_z w64 c.args.v)) in
    ap Some (slot_is c.args.self.now j c.slot.result c.slot.ensures.number c.slot.ensures.used c.slot.ensures.fields)
    ∙ sym (at_here c.args.self.now c.args.v j (index_is c.args.v c.ranges.v c.if-v-lt0.false) c.if-number-self.true)

pub returns-else-number-self : goal.returns-else-number-self
returns-else-number-self c =
    sym (at_past c.args.self.now c.args.v (unsigned_abs (to_z w64 (of_z w64 c.args.v))) (index_is c.args.v c.ranges.v c.if-v-lt0.false) c.if-number-self.false)
