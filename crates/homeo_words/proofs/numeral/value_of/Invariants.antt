-- The value so far, and the digits that are left, have the value of all.
use Rattle.std.proofs.Common.{◌≡◌, drop}
use Rattle.homeo_syntax.specs.Lexemes.{value_after, number_value}
use Rattle.homeo_words.proofs.numeral.value_of.Given as goal

abbrev pub invariant-loop-digit : goal.invariant-loop-digit
invariant-loop-digit l = value_after l.value (drop l.digit-index l.digits) ≡ number_value l.digits
