use Rattle.std.proofs.Common.{pos, Some, ap, refl, ◌∙◌, rules}
use Rattle.homeo_meaning.proofs.Numbers.{kept_is}
use Rattle.homeo_context.specs.declared.arguments.Argument.{Argument}
use Rattle.homeo_context.proofs.Given.{found, passed, not_given}
use Rattle.homeo_context.proofs.arguments.argument_of.Goals as goal

abbrev none : Argument
none = record { name = 0; value = pos 0 }

pub returns-then-argument-name : goal.returns-then-argument-name
returns-then-argument-name c =
    ap Some (kept_is _ _ (search rules) refl) ∙ found c.args.arguments.now c.loop-argument.argument-index c.args.name none c.loop-argument-test.true c.if-argument-name.true c.loop-argument.invariant

pub loop-argument-preserved : goal.loop-argument-preserved
loop-argument-preserved c =
    passed c.args.arguments.now c.loop-argument.argument-index c.args.name none c.loop-argument-test.true c.if-argument-name.false c.loop-argument.invariant

pub returns : goal.returns
returns c = not_given c.args.arguments.now c.loop-argument.argument-index c.args.name c.loop-argument-test.false c.loop-argument.invariant
