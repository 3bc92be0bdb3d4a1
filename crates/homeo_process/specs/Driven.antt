-- A node that lines drive, and the lines that it gives (this project's rule).
use Rattle.std.specs.Prelude.{ℕ, suc, List, [], ◌++◌, take, drop, codes, Option, None, Some, slice_get}
use Rattle.std.specs.List.{flat_map}
use Rattle.std.specs.Option.{option_and_then}
use Rattle.std.specs.Str.{bytes_eq}
use Rattle.homeo_syntax.specs.SourceView.{plain_workload}
use Rattle.homeo_syntax.specs.declared.workload.Workload.{Workload}
use Rattle.homeo_nodes.specs.Nodes as n
use Rattle.homeo_live.specs.LiveView.{plain_packet, plain_past}
use Rattle.homeo_desk.specs.DeskView.{DeskValue}
use Rattle.homeo_desk.specs.declared.output.Output.{Output}
use Rattle.homeo_desk.specs.declared.output.Output.TheVariants as o
use Rattle.homeo_desk.specs.declared.output.To.TheVariants.{Site, Others}
use Rattle.homeo_desk.specs.declared.output.Why.{Why}
use Rattle.homeo_desk.specs.declared.output.Why.TheVariants.{Full, Late}
use Rattle.homeo_lines.specs.Lines as l
use Rattle.homeo_lines.specs.LineView.{plain_answer}
use Rattle.homeo_lines.specs.Named.{first_from}
use Rattle.homeo_lines.specs.Written.{line_text}

-- ---- who speaks
-- the ids of all nodes, in the order of their sites, and which one a node is
pub record Names : Type 0 where
  pub ids : List (List ℕ)
  pub own : ℕ

-- a workload, and once a line has told them, a node's names
pub record Voice : Type 0 where
  pub work : Workload
  pub names : Option Names

-- and its desk
pub record Driven : Type 0 where
  pub work : Workload
  pub names : Option Names
  pub desk : Option DeskValue

abbrev pub before_all : Workload → Driven
before_all work = record { work = work; names = None; desk = None }

abbrev pub voice_of : Driven → Voice
voice_of d = record { work = d.work; names = d.names }

abbrev pub id_of : Option Names → ℕ → Option (List ℕ)
id_of names site = option_and_then (λ n. slice_get n.ids site) names

abbrev pub own_id : Option Names → Option (List ℕ)
own_id names = option_and_then (λ n. slice_get n.ids n.own) names

-- all but its own
abbrev pub other_ids : Option Names → List (List ℕ)
other_ids None = []
other_ids (Some n) = take n.own n.ids ++ drop (suc n.own) n.ids

-- the site of the node that a line comes from, if it is of a node
abbrev pub place_of : List ℕ → List (List ℕ) → Option ℕ
place_of id ids = first_from (λ other. bytes_eq other id) 0 ids

abbrev pub sender : Option Names → Option (List ℕ) → Option ℕ
sender names from = option_and_then (λ n. option_and_then (λ id. place_of id n.ids) from) names

-- ---- what it says
abbrev pub line_to : Voice → Option (List ℕ) → l.Body → List ℕ
line_to v to body = line_text (plain_workload v.work) (own_id v.names) to body

-- a refusal
abbrev pub code_of : Why → ℕ
code_of Full = 11
code_of Late = 13

abbrev pub text_of : Why → List ℕ
text_of Full = codes "as many requests wait as may"
text_of Late = codes "a later request of the client was taken"

abbrev pub packet_to : Voice → n.Packet → List ℕ → List ℕ
packet_to v packet id = line_to v (Some id) (l.Sent packet)

-- a packet goes to one node or to all others; an answer or a refusal goes to its caller
abbrev pub lines_in : Voice → Output → List ℕ
lines_in v (o.Packet (Site site) packet) = line_to v (id_of v.names site) (l.Sent (plain_packet packet))
lines_in v (o.Packet Others packet) = flat_map (packet_to v (plain_packet packet)) (other_ids v.names)
lines_in v (o.Left site past) = line_to v (id_of v.names site) (l.Left (plain_past past))
lines_in v (o.Answer caller answer) = line_to v (Some caller) (l.CallOk (plain_answer answer))
lines_in v (o.Again caller answer) = line_to v (Some caller) (l.CallOk (plain_answer answer))
lines_in v (o.Refusal caller number why) = line_to v (Some caller) (l.Error (Some number) (code_of why) (text_of why))

abbrev pub lines_of : Voice → List Output → List ℕ
lines_of v outputs = flat_map (lines_in v) outputs
