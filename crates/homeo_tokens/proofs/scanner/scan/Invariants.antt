use Rattle.std.proofs.Common.{◌≤◌, ◌-◌, length}
use Rattle.homeo_tokens.specs.inner.Numbers.{IsFew}
use Rattle.homeo_tokens.proofs.Front.{HasRead}
use Rattle.homeo_tokens.proofs.scanner.scan.Given as goal

abbrev pub invariant-text : goal.invariant-text
invariant-text l = record {
  within : l.at ≤ length l.text;
  few : length l.numbering.tokens.items ≤ l.at;
  names : IsFew l.numbering;
  read : HasRead l.text l.at l.numbering;
}

abbrev pub decreases-text : goal.decreases-text
decreases-text l = length l.text - l.at
