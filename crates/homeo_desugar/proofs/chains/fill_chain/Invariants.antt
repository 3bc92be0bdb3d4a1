-- The chain of the slots from a number on is made.
use Rattle.std.proofs.Common.{◌≡◌, ◌≤◌, map}
use Rattle.homeo_syntax.specs.LowView.{plain_lcommand}
use Rattle.homeo_meaning.specs.LForm.{fill_chain}
use Rattle.homeo_desugar.specs.inner.Made.{plain_target}
use Rattle.homeo_context.proofs.SlotLists.{left}
use Rattle.homeo_desugar.proofs.chains.fill_chain.Given as goal

abbrev pub invariant-loop-number : goal.invariant-loop-number
invariant-loop-number l = record {
  within : l.number ≤ l.slots.count;
  chain : plain_lcommand l.chain ≡ fill_chain (map plain_target l.targets) l.into (left l.slots l.number);
}

abbrev pub decreases-loop-number : goal.decreases-loop-number
decreases-loop-number l = l.number
