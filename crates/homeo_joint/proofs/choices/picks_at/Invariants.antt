-- The loop of `picks_at`.
use Rattle.std.proofs.Common.{◌≡◌, ◌<◌, ◌≤◌, ◌++◌, map, drop, pos}
use Rattle.homeo_joint.specs.Counts.{product_of}
use Rattle.homeo_joint.specs.inner.Digits.{digits}
use Rattle.homeo_joint.proofs.choices.picks_at.Given as goal

abbrev pub invariant-loop-rows : goal.invariant-loop-rows
invariant-loop-rows l = record {
  alike : l.alike ≡ product_of (drop l.rows-index l.counts);
  within : l.alike ≤ 1024;
  before : l.before < l.alike;
  picks : l.picks.items ++ map pos (digits (drop l.rows-index l.counts) l.before) ≡ map pos (digits l.counts l.fn.number);
}
