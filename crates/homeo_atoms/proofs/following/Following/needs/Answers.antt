-- The last print that is left is taken.
use Rattle.std.proofs.Common.{[], sym, ◌∙◌}
use Rattle.std.proofs.lemmas.List.{nil_from_length}
use Rattle.std.proofs.lemmas.Result.{IfOk-weaker}
use Rattle.homeo_plan.specs.Linear.{add_deltas}
use Rattle.homeo_atoms.proofs.Needing.{popped, all_popped, needs_are}
use Rattle.homeo_atoms.proofs.following.Following.needs.Goals as goal

pub loop-deltas-preserved : goal.loop-deltas-preserved
loop-deltas-preserved c =
    popped (λ p. p.items) c.loop-deltas.prints.items c.pop.new.self.items c.in-Some.deltas c.loop-deltas.needed.items c.extend_from_slice.new.self.items _
    c.in-Some.ensures.items c.as_slice-in-Some.ensures.value c.in_ok-extend_from_slice.ensures.items
    ∙ c.loop-deltas.invariant

pub returns : goal.returns
returns c =
    IfOk-weaker c.in_order-2.result _ _
    (λ v h. h ∙ all_popped (λ p. p.items) c.loop-deltas.prints.items (add_deltas c.loop-deltas.needed.items []) _
    (nil_from_length c.loop-deltas.prints.items (sym c.loop-deltas.prints.ok.0 ∙ c.in_default.ensures.cases.0)) c.loop-deltas.invariant
    ∙ needs_are c.args.self (add_deltas c.in_ok-needed.needed.items []) _ _ c.as_slice.ensures.value c.in_ok-written.ensures c.in_ok-needed.ensures)
    c.in_order-2.ensures
