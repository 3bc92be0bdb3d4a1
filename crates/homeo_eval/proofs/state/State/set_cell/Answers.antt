use Rattle.std.proofs.Common.{rules, ◌+◌, ◌≤◌, length, pos}
use Rattle.homeo_meaning.specs.Key.{definitions}
use Rattle.homeo_meaning.specs.Windowed.{item_at}
use Rattle.homeo_eval.proofs.States.{state_past}
use Rattle.homeo_eval.proofs.state.State.set_cell.Goals as goal
use Rattle.homeo_eval.proofs.state.State.set_cell.Goals.{else-slot-count-via-then-slot-count+else-place-count, else-slot-count-via-else-slot-count}

pub returns-else-slot-count-clause-set : goal.returns-else-slot-count-clause-set
unfolding definitions
returns-else-slot-count-clause-set c =
    let past : length c.args.self.now.database.items ≤ c.args.slot.now.used + 1 + c.args.place = elim c.else-slot-count.branch [ else-slot-count-via-then-slot-count+else-place-count w ↦ search rules | else-slot-count-via-else-slot-count w ↦ search rules ] in
    state_past c.args.self.now.database.items (λ n. item_at c.args.self.now.temps n (pos 0)) (c.args.slot.now.used + 1 + c.args.place) c.args.v past (c.requires past)
