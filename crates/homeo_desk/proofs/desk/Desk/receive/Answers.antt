use Rattle.std.proofs.Common.{rules, ◌≡◌, ◌∷◌, [], subst}
use Rattle.std.specs.Prelude.{Some}
use Rattle.homeo_nodes.specs.Nodes as n
use Rattle.homeo_nodes.specs.Nodes.{of_past}
use Rattle.homeo_live.specs.LiveView.{plain_packet}
use Rattle.homeo_desk.specs.DeskView.{DeskValue}
use Rattle.homeo_desk.specs.Outputs.{Gives}
use Rattle.homeo_desk.proofs.Moving.{then_free}
use Rattle.homeo_desk.proofs.Resending.{choice_resent, past_resent, by_tick}
use Rattle.homeo_desk.proofs.desk.Desk.receive.Goals as goal

pub returns-then-round-clause-moves : goal.returns-then-round-clause-moves
returns-then-round-clause-moves c =
    let old = c.args.self.now in
    by_tick _ (of_past old.node.past) old _ _ (past_resent old.node)
    (subst (λ (d : DeskValue). Gives (of_past d.node.past) [] c.args.outputs.now.items c.tell_left.new.outputs.items) c.self.view_is c.in_ok-tell_left.ensures)

pub returns-in_ok-tell_stop-in-Want-Some-clause-moves : goal.returns-in_ok-tell_stop-in-Want-Some-clause-moves
returns-in_ok-tell_stop-in-Want-Some-clause-moves c =
    let old = c.args.self.now in
    let chosen = c.in-Want-Some.chosen in
    let kept : old.node.decided ≡ Some chosen = search rules in
    by_tick _ (n.Stop chosen ∷ []) old _ _ (choice_resent old.node (Some chosen) kept) c.in_ok-tell_stop-in-Want-Some.ensures

pub returns-in_ok-serve-in_default-clause-moves : goal.returns-in_ok-serve-in_default-clause-moves
returns-in_ok-serve-in_default-clause-moves c =
    then_free [] (plain_packet c.args.packet ∷ []) _ _ _ _ _ _ c.in_ok-fits-in_default.ensures.moves c.in_ok-serve-in_default.ensures.moves
