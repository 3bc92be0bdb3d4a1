-- Small constants give small slacks.
use Rattle.homeo_meaning.specs.Key.{definitions as meaning_definitions}
use Rattle.homeo_plan.specs.Key.{definitions}
use Rattle.std.proofs.Common.{arith}
use Rattle.homeo_lemmas.proofs.Integers.{abs_neg}
use Rattle.homeo_meaning.specs.Small.{IsSmall}
use Rattle.homeo_plan.specs.Limit.{form_limit}
use Rattle.homeo_plan.specs.Linear.{Linear}
use Rattle.homeo_plan.specs.Template.{Clause, clause_of}

abbrev pub HasSmallConstant : Linear → Type 0
HasSmallConstant a = IsSmall form_limit a.constant

abbrev pub HasSmallSlack : Clause → Type 0
HasSmallSlack c = IsSmall form_limit c.slack

pub small-slack : (a : Linear) → HasSmallConstant a → HasSmallSlack (clause_of a)
unfolding definitions meaning_definitions
small-slack a small = omega (arith, small, abs_neg a.constant)
