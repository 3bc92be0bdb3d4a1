-- The chain of the slots from a number on is made.
use Rattle.std.proofs.Common.{◌≡◌, ◌≤◌}
use Rattle.homeo_syntax.specs.LowView.{plain_lexpr, plain_lcommand}
use Rattle.homeo_meaning.specs.LForm.{read_chain}
use Rattle.homeo_context.specs.Slots.{plain_spot}
use Rattle.homeo_context.proofs.SlotLists.{left}
use Rattle.homeo_desugar.proofs.chains.read_chain.Given as goal

abbrev pub invariant-loop-number : goal.invariant-loop-number
invariant-loop-number l = record {
  within : l.number ≤ l.slots.count;
  chain : plain_lcommand l.chain ≡ read_chain (plain_spot l.field) (plain_lexpr l.index) l.fn.target (left l.slots l.number);
}

abbrev pub decreases-loop-number : goal.decreases-loop-number
decreases-loop-number l = l.number
