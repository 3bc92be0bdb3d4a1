use Rattle.std.proofs.Common.{w64, ap, sym, rules, ◌∙◌}
use Rattle.std.proofs.lemmas.Int.{to_z-of_z}
use Rattle.homeo_meaning.proofs.Numbers.{kept_is}
use Rattle.homeo_meaning.specs.Key.{definitions}
use Rattle.homeo_meaning.specs.Meaning.{argument_or}
use Rattle.homeo_context.proofs.arguments.argument_or.Goals as goal

pub returns-in-Some : goal.returns-in-Some
unfolding definitions
returns-in-Some c =
    kept_is c.in-Some.value _ (search rules) (ap (λ o. argument_or o c.args.other) (sym c.in-Some.is ∙ c.argument_of.ensures))

pub returns-in-None : goal.returns-in-None
unfolding definitions
returns-in-None c =
    to_z-of_z w64 c.args.other c.ranges.other ∙ ap (λ o. argument_or o c.args.other) (sym c.in-None.is ∙ c.argument_of.ensures)
