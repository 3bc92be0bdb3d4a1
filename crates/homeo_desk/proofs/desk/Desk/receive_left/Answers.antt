use Rattle.std.proofs.Common.{[], refl}
use Rattle.std.specs.Prelude.{Some}
use Rattle.homeo_nodes.specs.Nodes.{of_past}
use Rattle.homeo_live.specs.LiveView.{plain_past}
use Rattle.homeo_desk.proofs.Giving.{gives_nothing}
use Rattle.homeo_desk.proofs.Moving.{stays, then_free}
use Rattle.homeo_desk.proofs.desk.Desk.receive_left.Goals as goal

pub returns-then-past-round-clause-moves : goal.returns-then-past-round-clause-moves
returns-then-past-round-clause-moves c = stays _ _ _ _ _ refl (gives_nothing [] _)

pub returns-clause-moves : goal.returns-clause-moves
returns-clause-moves c = then_free [] (of_past (Some (plain_past c.args.past))) _ _ _ _ _ _ c.in_ok-fits.ensures.moves c.in_ok-serve.ensures.moves
