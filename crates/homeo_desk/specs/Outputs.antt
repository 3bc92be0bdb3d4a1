-- What a desk gives, as packets and answers of its node.
use Rattle.std.specs.Prelude.{◌≡◌, ℕ, List, [], ◌∷◌, ◌++◌, map, Contains, Some}
use Rattle.homeo_history.specs.Answers as h
use Rattle.homeo_history.specs.declared.answer.Path.{Path}
use Rattle.homeo_history.specs.declared.answer.Path.TheVariants.{Local, Cleanup}
use Rattle.homeo_nodes.specs.Nodes as n
use Rattle.homeo_nodes.specs.Nodes.{of_past}
use Rattle.homeo_live.specs.LiveView.{plain_packet, plain_past}
use Rattle.homeo_desk.specs.declared.output.Output.{Output}
use Rattle.homeo_desk.specs.declared.output.Output.TheVariants as o
use Rattle.homeo_desk.specs.declared.output.Path as d
use Rattle.homeo_desk.specs.declared.output.Path.TheVariants as path
use Rattle.homeo_desk.specs.declared.output.Request.{Request}
use Rattle.homeo_desk.specs.DeskView.{Reply, plain_reply}

-- ---- packets
-- how a round was closed is let out as its stop and what all sites said
abbrev pub packets_in : Output → List n.Packet
packets_in (o.Packet to packet) = plain_packet packet ∷ []
packets_in (o.Left site past) = of_past (Some (plain_past past))
packets_in (o.Answer caller answer) = []
packets_in (o.Again caller answer) = []
packets_in (o.Refusal caller number why) = []

abbrev pub packets_of : List Output → List n.Packet
packets_of [] = []
packets_of (x ∷ xs) = packets_in x ++ packets_of xs

-- each of the first is one of the second
abbrev pub AreIn : List n.Packet → List n.Packet → Type 0
AreIn some all = (p : n.Packet) → Contains some p → Contains all p

-- ---- answers
-- what is answered, and to whom
pub record Given : Type 0 where
  pub caller : List ℕ
  pub reply : Reply

-- those that are given for the first time
abbrev pub answers_in : Output → List Given
answers_in (o.Packet to packet) = []
answers_in (o.Left site past) = []
answers_in (o.Answer caller answer) = record { caller = caller; reply = plain_reply answer } ∷ []
answers_in (o.Again caller answer) = []
answers_in (o.Refusal caller number why) = []

abbrev pub answers_of : List Output → List Given
answers_of [] = []
answers_of (x ∷ xs) = answers_in x ++ answers_of xs

-- the request that is answered so
abbrev pub request_of : Given → Request
request_of g = record { caller = g.caller; number = g.reply.number; call = g.reply.call }

abbrev pub replies_of : List Given → List Reply
replies_of given = map (λ g. g.reply) given

-- ---- they say what the node does
abbrev pub plain_path : d.Path → Path
plain_path (path.Local place) = Local
plain_path (path.Closing broken) = Cleanup broken

-- an answer to the call that the node has answered says of it what the node does
pub record Says (g : Given) (b : h.Answer) : Type 0 where
  pub call : g.reply.call ≡ h.called b
  pub round : g.reply.round ≡ b.round
  pub path : plain_path g.reply.path ≡ b.path
  pub prints : g.reply.prints ≡ b.prints

-- the first say, in order, what the second do
pub data AreTold : List Given → List h.Answer → Type 0 where
  none : AreTold [] []
  told : (g : Given) (b : h.Answer) (gs : List Given) (bs : List h.Answer) → Says g b → AreTold gs bs → AreTold (g ∷ gs) (b ∷ bs)

-- ---- what is given after these outputs: packets among these, and these answers
pub record Gives (packets : List n.Packet) (given : List Given) (before after : List Output) : Type 0 where
  pub more : List Output
  pub after_is : after ≡ before ++ more
  pub packets_are : AreIn (packets_of more) packets
  pub answers_are : answers_of more ≡ given
