use Rattle.std.proofs.Common.{ℕ, ℤ, ◌==◌, cond, pos, ap, ◌∙◌, w64}
use Rattle.std.proofs.lemmas.Int.{to_z-of_z}
use Rattle.std.proofs.lemmas.Result.{on_ok_weaker}
use Rattle.homeo_meaning.specs.Key.{definitions}
use Rattle.homeo_meaning.specs.Windowed.{item_at}
use Rattle.homeo_eval.proofs.States.{state_assign}
use Rattle.homeo_eval.proofs.state.State.assign.Goals as goal

pub returns-clause-set : goal.returns-clause-set
unfolding definitions
returns-clause-set c =
    let old : ℕ → ℤ = λ m. item_at c.args.self.now.temps m (pos 0) in
    let new : ℕ → ℤ = λ m. item_at c.put.new.self m (pos 0) in
    let v = to_z-of_z w64 c.args.v c.ranges.v in
    on_ok_weaker c.put.result (λ h. state_assign c.args.self.now.database.items old new c.args.name c.args.v (λ m. h m ∙ ap (λ u. cond (c.args.name == m) u (old m)) v)) c.put.ensures
