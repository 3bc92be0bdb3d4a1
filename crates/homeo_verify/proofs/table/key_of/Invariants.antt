-- The loop of `key_of`.
use Rattle.std.proofs.Common.{◌≡◌, map, take}
use Rattle.homeo_verify.specs.inner.Slacks.{term_of}
use Rattle.homeo_verify.proofs.table.key_of.Given as goal

abbrev pub invariant-loop-term : goal.invariant-loop-term
invariant-loop-term l = map term_of l.key.items ≡ take l.term-index l.terms
