use Rattle.std.proofs.Common.{◌≡◌}
use Rattle.homeo_meaning.specs.Context.{first_where}
use Rattle.homeo_meaning.specs.Meaning.{is_free}
use Rattle.homeo_eval.specs.inner.States.{state_of}
use Rattle.homeo_context.proofs.SlotLists.{left}
use Rattle.homeo_eval.proofs.inserts.first_free.Given as goal

abbrev pub invariant-loop-number : goal.invariant-loop-number
invariant-loop-number l = first_where (is_free (state_of l.state)) (left l.slots l.number) ≡ first_where (is_free (state_of l.state)) (left l.slots 0)
