use Rattle.std.proofs.Common.{◌≡◌, map, take}
use Rattle.homeo_meaning.specs.Serial.{values_of}
use Rattle.homeo_site.specs.OwnTreaty.{own_term, own_sum}
use Rattle.homeo_site.proofs.own_treaty.own_sum.Given as goal

abbrev pub invariant-loop-term : goal.invariant-loop-term
invariant-loop-term l = l.sum ≡ own_sum (map own_term (take l.term-index l.terms)) (values_of l.deltas)
