use Rattle.std.proofs.Common.{◌≡◌, map, take}
use Rattle.homeo_linear.specs.Effect.{plain_own_term}
use Rattle.homeo_linear.proofs.effect.own_terms.Given as goal

abbrev pub invariant-loop-term : goal.invariant-loop-term
invariant-loop-term l = map plain_own_term l.own.items ≡ take l.term-index l.terms
