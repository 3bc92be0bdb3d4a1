use Rattle.std.proofs.Common.{rules, ℕ, ℤ, ◌<◌, ◌≤◌, length, pos, set, w64, ap, ◌∙◌}
use Rattle.std.proofs.lemmas.Int.{to_z-of_z}
use Rattle.homeo_meaning.specs.Key.{definitions}
use Rattle.homeo_meaning.specs.Windowed.{item_at}
use Rattle.homeo_eval.proofs.States.{state_with, state_set, state_past}
use Rattle.homeo_eval.proofs.state.State.set.Goals as goal

pub returns-then-place-len-clause-set : goal.returns-then-place-len-clause-set
unfolding definitions
returns-then-place-len-clause-set c =
    let db = c.args.self.now.database.items in
    let ts : ℕ → ℤ = λ n. item_at c.args.self.now.temps n (pos 0) in
    let here : c.args.place < length db = search rules in
    ap (λ u. state_with (set db c.args.place u) ts) (to_z-of_z w64 c.args.v c.ranges.v) ∙ state_set db ts c.args.place c.args.v here

pub returns-else-place-len-clause-set : goal.returns-else-place-len-clause-set
unfolding definitions
returns-else-place-len-clause-set c =
    let past : length c.args.self.now.database.items ≤ c.args.place = search rules in
    state_past c.args.self.now.database.items (λ n. item_at c.args.self.now.temps n (pos 0)) c.args.place c.args.v past (c.requires past)
