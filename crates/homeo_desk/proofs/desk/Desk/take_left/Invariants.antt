use Rattle.std.specs.Prelude.{◌≡◌, [], ◌∷◌, length, map}
use Rattle.homeo_nodes.specs.Nodes as n
use Rattle.homeo_nodes.specs.Nodes.{of_states}
use Rattle.homeo_carry.specs.CarryView.{plain_said}
use Rattle.homeo_desk.specs.Moves.{IsMove}
use Rattle.homeo_desk.proofs.desk.Desk.take_left.Given as goal

abbrev pub invariant-loop-said : goal.invariant-loop-said
invariant-loop-said l = record {
  work : l.self.work ≡ l.fn.self.work;
  site : l.site ≡ length l.yielded;
  moves : IsMove [] (n.Stop l.fn.past.breach ∷ of_states l.fn.past.breach.round 0 (map plain_said l.yielded)) l.fn.self l.self l.fn.outputs.items l.outputs.items;
}
