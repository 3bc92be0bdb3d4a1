-- The base of an object, or nothing.
use Rattle.std.proofs.Common.{◌≡◌, rules, w64, to_z, of_z, ◌∙◌, arith}
use Rattle.std.proofs.lemmas.Int.{ints}
use Rattle.homeo_meaning.specs.Serial.{values_of}
use Rattle.homeo_form.proofs.Stands.{base_constant, other_constant}
use Rattle.homeo_form.proofs.Widths.{kept_is}
use Rattle.homeo_form.proofs.standing.Standing.first_constant.Goals as goal

pub returns-in-Base : goal.returns-in-Base
returns-in-Base c =
    let b = values_of c.args.self.now.base.now in
    let is : to_z w64 (of_z w64 c.item_or.result) ≡ b c.in-Base.object = search (rules, ints, arith) in
    kept_is c.widened.result _ (search rules) (c.widened.ensures ∙ is ∙ base_constant c.args.self.now.are_whole b c.args.place c.in-Base.object c.in-Base.is)

pub returns-in-Named : goal.returns-in-Named
returns-in-Named c = other_constant c.args.self.now.are_whole (values_of c.args.self.now.base.now) c.args.place c.in-Named.is
