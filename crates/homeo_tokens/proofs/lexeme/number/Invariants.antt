use Rattle.std.proofs.Common.{◌≡◌, ◌<◌, ◌^◌, drop}
use Rattle.homeo_syntax.specs.Lexemes.{value_after, number_value}
use Rattle.homeo_tokens.proofs.lexeme.number.Given as goal

abbrev pub invariant-loop-d : goal.invariant-loop-d
invariant-loop-d l = record { bound : l.value < 10 ^ l.d-index; rest : value_after l.value (drop l.d-index l.digits) ≡ number_value l.digits }
