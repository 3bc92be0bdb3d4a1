use Rattle.std.specs.Prelude.{[], Contains, IfSome, map}
use Rattle.homeo_nodes.specs.Nodes as n
use Rattle.homeo_live.specs.LiveView.{plain_packet}
use Rattle.homeo_desk.specs.Outputs.{Gives}
use Rattle.homeo_desk.proofs.sending.let_out_all.Given as goal

abbrev pub invariant-loop-packet : goal.invariant-loop-packet
invariant-loop-packet l = record {
  gives : Gives (map plain_packet l.yielded) [] l.initial.outputs.items l.outputs.items;
  chosen : IfSome l.chosen (λ b. Contains (map plain_packet l.yielded) (n.Stop b));
}
