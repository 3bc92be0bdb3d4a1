use Rattle.std.proofs.Common.{◌+◌, ◌*◌, ◌≤◌, length, arith}
use Rattle.std.proofs.lemmas.Nat.{mul-le}
use Rattle.homeo_meaning.specs.Key.{definitions}
use Rattle.homeo_context.proofs.slots.Slots.slot.Goals as goal

pub overflow_mul-result : goal.overflow_mul-result
unfolding definitions
overflow_mul-result c =
    let width = 1 + length c.args.self.now.fields.now in
    let le : c.args.number * width ≤ c.args.self.now.count * width = mul-le c.args.number width c.args.self.now.count width (omega (arith, c.requires.there)) (omega arith) in
    omega (arith, le, c.requires.counted)

pub overflow_add-result : goal.overflow_add-result
unfolding definitions
overflow_add-result c =
    let width = 1 + length c.args.self.now.fields.now in
    let le : c.args.number * width ≤ c.args.self.now.count * width = mul-le c.args.number width c.args.self.now.count width (omega (arith, c.requires.there)) (omega arith) in
    omega (arith, le, c.requires.counted)
