use Rattle.std.proofs.Common.{sym, ap, subst, ◌∙◌, FitsSigned}
use Rattle.std.specs.Int.{w64}
use Rattle.std.specs.Prelude.{All}
use Rattle.homeo_round.specs.PlusDeltas.{plus_deltas}
use Rattle.homeo_wire.proofs.Histories.{one_in, one_out}
use Rattle.homeo_wire.proofs.history.add_node.Goals as goal

pub add_deltas-requires : goal.add_deltas-requires
add_deltas-requires c =
    subst (All (FitsSigned w64)) (one_in c.args.values.now c.args.round c.args.node.now (sym c.round.ensures ∙ c.if-round.true) ∙ ap (plus_deltas c.args.values.now) (sym c.deltas.ensures)) c.requires

pub returns-then-round : goal.returns-then-round
returns-then-round c =
    c.add_deltas.ensures ∙ ap (plus_deltas c.args.values.now) c.deltas.ensures
    ∙ sym (one_in c.args.values.now c.args.round c.args.node.now (sym c.round.ensures ∙ c.if-round.true))

pub returns-else-round : goal.returns-else-round
returns-else-round c =
    sym (one_out c.args.values.now c.args.round c.args.node.now (λ e. c.if-round.false (c.round.ensures ∙ e)))
