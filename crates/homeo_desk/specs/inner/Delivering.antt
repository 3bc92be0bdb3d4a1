-- What becomes of a packet.
use Rattle.std.specs.Prelude.{List, [], ◌∷◌, Contains, IfSome, Option}
use Rattle.homeo_syntax.specs.SourceView.{plain_workload}
use Rattle.homeo_nodes.specs.declared.breach.Breach.{Breach}
use Rattle.homeo_nodes.specs.Nodes as n
use Rattle.homeo_desk.specs.declared.desk.Delivered.{Delivered}
use Rattle.homeo_desk.specs.declared.desk.Delivered.TheVariants.{No, Yes, Chose}
use Rattle.homeo_desk.specs.declared.output.Output.{Output}
use Rattle.homeo_desk.specs.DeskView.{DeskValue}
use Rattle.homeo_desk.specs.Moves.{IsMove, sent_after}

-- the stop by a chosen call is one of these packets
abbrev pub IsChosen : Delivered → List n.Packet → Type 0
IsChosen No sent = Unit {0}
IsChosen Yes sent = Unit {0}
IsChosen (Chose b) sent = Contains sent (n.Stop b)

-- so where the packets have the stop by this call, if there is one
pub record IsTaken (chosen : Option Breach) (delivered : Delivered) : Type 0 where
  pub sent : (packets : List n.Packet) → IfSome chosen (λ b. Contains packets (n.Stop b)) → IsChosen delivered packets

-- a move to which the packet was given, by which a chosen call's stop was sent
pub record Delivers (packet : n.Packet) (delivered : Delivered) (old new : DeskValue) (before after : List Output) : Type 0 where
  pub move : IsMove [] (packet ∷ []) old new before after
  pub chosen : IsChosen delivered (sent_after (plain_workload old.work) move.inputs old.node)
