use Rattle.std.proofs.Common.{◌≡◌, ◌≤◌, ◌∙◌, Some, refl, ap, subst, arith}
use Rattle.homeo_words.specs.declared.command.Command.TheVariants.{Load}
use Rattle.homeo_words.specs.Command.{Say}
use Rattle.homeo_words.proofs.Loads.{load_words, load_numbers}
use Rattle.homeo_words.proofs.command.Command.load.Goals as goal

pub returns-in_err-number : goal.returns-in_err-number
returns-in_err-number c = λ command.
    let none = c.from_residual.ensures in (
      λ e. cc,
      λ said.
          let is = load_numbers c.args.number.now c.args.calls.now command said in
          let some = (c.in_err-number.ensures is.number).1 is.number_is in
          cc,
    )

pub returns-in_err-calls : goal.returns-in_err-calls
returns-in_err-calls c = λ command.
    let none = c.from_residual-in_err-calls.ensures in (
      λ e. cc,
      λ said.
          let is = load_numbers c.args.number.now c.args.calls.now command said in
          let some = (c.in_err-calls.ensures is.calls).1 is.calls_are in
          cc,
    )

pub overflow_cast-result : goal.overflow_cast-result
overflow_cast-result c =
    let most : c.in_ok-calls.calls ≤ 20000 = ((c.in_ok-calls.ensures c.in_ok-calls.calls).0 refl).to_most in
    omega (arith, most)

pub returns : goal.returns
returns c = λ command.
    let number = c.in_ok-number.number in
    let calls = c.in_ok-calls.calls in (
      λ e.
          let same : Load number calls ≡ command = cc in
          subst (Say (load_words c.args.number.now c.args.calls.now)) same (record {
            first = c.args.number.now;
            second = c.args.calls.now;
            said = refl;
            number_is = (c.in_ok-number.ensures number).0 refl;
            calls_are = (c.in_ok-calls.ensures calls).0 refl;
          }),
      λ said.
          let is = load_numbers c.args.number.now c.args.calls.now command said in
          let first : Some number ≡ Some is.number = (c.in_ok-number.ensures is.number).1 is.number_is in
          let second : Some calls ≡ Some is.calls = (c.in_ok-calls.ensures is.calls).1 is.calls_are in
          let e : number ≡ is.number = cc in
          let f : calls ≡ is.calls = cc in
          (λ t. Some (Load (e t) (f t))) ∙ ap Some is.is,
    )
