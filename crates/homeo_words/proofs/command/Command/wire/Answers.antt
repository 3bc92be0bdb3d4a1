use Rattle.std.proofs.Common.{◌≡◌, ◌∙◌, Some, refl, ap, subst}
use Rattle.homeo_words.specs.declared.command.Command.TheVariants.{Wire}
use Rattle.homeo_words.specs.Command.{Say}
use Rattle.homeo_words.proofs.Loads.{wire_words, wire_number}
use Rattle.homeo_words.proofs.command.Command.wire.Goals as goal

pub returns-in_err-number : goal.returns-in_err-number
returns-in_err-number c = λ command.
    let none = c.from_residual.ensures in (
      λ e. cc,
      λ said.
          let is = wire_number c.args.number.now command said in
          let some = (c.in_err-number.ensures is.number).1 is.number_is in
          cc,
    )

pub returns : goal.returns
returns c = λ command.
    let number = c.in_ok-number.number in (
      λ e.
          let same : Wire number ≡ command = cc in
          subst (Say (wire_words c.args.number.now)) same (record {
            first = c.args.number.now;
            said = refl;
            number_is = (c.in_ok-number.ensures number).0 refl;
          }),
      λ said.
          let is = wire_number c.args.number.now command said in
          let first : Some number ≡ Some is.number = (c.in_ok-number.ensures is.number).1 is.number_is in
          let e : number ≡ is.number = cc in
          (λ t. Some (Wire (e t))) ∙ ap Some is.is,
    )
