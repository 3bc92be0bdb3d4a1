-- What a desk does, as inputs of its node.
use Rattle.std.specs.Prelude.{◌≡◌, List, [], ◌∷◌, ◌++◌, map, Contains}
use Rattle.homeo_syntax.specs.Source as s
use Rattle.homeo_syntax.specs.SourceView.{plain_workload}
use Rattle.homeo_meaning.specs.declared.call.CallId.{CallId}
use Rattle.homeo_history.specs.Answers as h
use Rattle.homeo_nodes.specs.Nodes as n
use Rattle.homeo_nodes.specs.Nodes.{Reaction, Input, Asked, Served, Came, Withdrew, Ticked, reaction}
use Rattle.homeo_nodes.specs.Small.{Small, small, grown, small_after}
use Rattle.homeo_nodes.specs.Told.{told}
use Rattle.homeo_desk.specs.declared.output.Output.{Output}
use Rattle.homeo_desk.specs.declared.output.Request.{Request}
use Rattle.homeo_desk.specs.DeskView.{DeskValue, calls_of, last_answers}
use Rattle.homeo_desk.specs.Outputs.{Given, Gives, AreTold, request_of, replies_of}
use Rattle.homeo_desk.specs.Places.{ArePlaced}

-- ---- what inputs make of a node, one after another
abbrev pub reacts : s.Workload → Input → Small → Reaction
reacts w input x = reaction w input (grown x)

abbrev pub sent_after : s.Workload → List Input → Small → List n.Packet
sent_after w [] x = []
sent_after w (input ∷ inputs) x = (reacts w input x).sends ++ sent_after w inputs (small (reacts w input x).node)

abbrev pub told_after : s.Workload → List Input → Small → List h.Answer
told_after w [] x = []
told_after w (input ∷ inputs) x = told (grown x) (reacts w input x).step ++ told_after w inputs (small (reacts w input x).node)

-- a call is one of these; a packet is one of these; and nothing is withdrawn
abbrev pub IsOf : List CallId → List n.Packet → Input → Type 0
IsOf calls packets (Asked call) = Contains calls call
IsOf calls packets Served = Unit {0}
IsOf calls packets (Came packet) = Contains packets packet
IsOf calls packets (Withdrew packet) = ⊥
IsOf calls packets Ticked = Unit {0}

-- each is of these calls, and of these packets or of those that the node has sent by the inputs before it
abbrev pub AreOf : s.Workload → List CallId → List n.Packet → List Input → Small → Type 0
AreOf w calls packets [] x = Unit {0}
AreOf w calls packets (input ∷ inputs) x =
    IsOf calls packets input × AreOf w calls (packets ++ (reacts w input x).sends) inputs (small (reacts w input x).node)

-- ---- a move of a desk, which takes on these requests, and to which these packets were given
-- By some inputs its node becomes what they make of it. It gives packets of those that the node sends by them, and the answers that the node
-- tells by them, each to the request that waited longest and with its place: the requests that waited and those that are taken on are those
-- that are answered and those that wait then, in order. The workload and the number of the site stay.
pub record IsMove (requests : List Request) (packets : List n.Packet) (old new : DeskValue) (before after : List Output) : Type 0 where
  pub inputs : List Input
  pub are_of : AreOf (plain_workload old.work) (calls_of requests) packets inputs old.node
  pub node : new.node ≡ small_after (plain_workload old.work) inputs old.node
  pub given : List Given
  pub gives : Gives (sent_after (plain_workload old.work) inputs old.node) given before after
  pub told : AreTold given (told_after (plain_workload old.work) inputs old.node)
  pub queue : old.queue ++ requests ≡ map request_of given ++ new.queue
  pub answered : new.answered ≡ last_answers (replies_of given) old.answered
  pub placed : ArePlaced old.node.round old.made (replies_of given) new.node.round new.made
  pub work : new.work ≡ old.work
  pub number : new.node.number ≡ old.node.number
