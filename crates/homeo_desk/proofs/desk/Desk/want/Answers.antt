use Rattle.std.proofs.Common.{rules, ◌≡◌, ◌∷◌, [], refl}
use Rattle.homeo_nodes.specs.declared.breach.Mode.TheVariants.{Waiting}
use Rattle.homeo_nodes.specs.Nodes as n
use Rattle.homeo_nodes.specs.Key.{definitions as node_definitions}
use Rattle.homeo_live.specs.Key.{definitions}
use Rattle.homeo_desk.proofs.Giving.{gives_nothing}
use Rattle.homeo_desk.proofs.Moving.{stays}
use Rattle.homeo_desk.proofs.Resending.{mode_resent, by_tick, tick_then}
use Rattle.homeo_desk.proofs.desk.Desk.want.Goals as goal

pub returns-in_default : goal.returns-in_default
returns-in_default c = record { work = refl; moves = stays _ _ _ _ _ refl (gives_nothing [] _) }

pub returns-then-arbiter-number-clause-moves : goal.returns-then-arbiter-number-clause-moves
unfolding definitions node_definitions
returns-then-arbiter-number-clause-moves c =
    let old = c.args.self.now in
    let waits : old.node.mode ≡ Waiting c.in-Waiting.breach = search rules in
    tick_then [] (n.Want c.in-Waiting.breach ∷ []) old _ _ _ (mode_resent old.node (Waiting c.in-Waiting.breach) waits) c.in_ok-take.ensures.moves

pub returns-clause-moves : goal.returns-clause-moves
unfolding definitions node_definitions
returns-clause-moves c =
    let old = c.args.self.now in
    let waits : old.node.mode ≡ Waiting c.in-Waiting.breach = search rules in
    by_tick [] (n.Want c.in-Waiting.breach ∷ []) old _ _ (mode_resent old.node (Waiting c.in-Waiting.breach) waits) c.in_ok-let_out.ensures
