-- The JSON text of a line: an object with no space, its members in this order.
use Rattle.std.specs.Prelude.{ℕ, suc, List, [], ◌∷◌, ◌++◌, map, ℤ, pos, codes, Option, Some, None, if◌then◌else◌}
use Rattle.std.specs.Str.{is_utf8}
use Rattle.serde_json.specs.Data.{Data, null, string, object, Members, no_members, member}
use Rattle.serde_json.specs.Written.{compact_text}
use Rattle.homeo_syntax.specs.Source as s
use Rattle.homeo_meaning.specs.declared.call.CallId.{CallId}
use Rattle.homeo_plan.specs.declared.treaty.Broken.{Broken}
use Rattle.homeo_nodes.specs.declared.breach.Breach.{Breach}
use Rattle.homeo_nodes.specs.declared.breach.Mode.{Mode}
use Rattle.homeo_nodes.specs.declared.breach.Mode.TheVariants.{Running, Waiting, Stopped}
use Rattle.homeo_nodes.specs.Nodes.{Said, Past, Packet, Want, Stop, State}
use Rattle.homeo_nodes.specs.Small.{Small}
use Rattle.homeo_desk.specs.declared.output.Path.{Path}
use Rattle.homeo_desk.specs.declared.output.Path.TheVariants.{Local, Closing}
use Rattle.homeo_desk.specs.declared.output.Request.{Request}
use Rattle.homeo_print.specs.Names.{newline, object_names, name_at}
use Rattle.homeo_certificate.specs.Json.{whole_data, list_data, wholes_data}
use Rattle.homeo_lines.specs.Lines as l
use Rattle.homeo_lines.specs.Named.{client_name}

-- ---- objects
-- a member: its key, and its value
abbrev pub Field : Type 0
Field = List ℕ × Data

abbrev pub members_of : List Field → Members
members_of [] = no_members
members_of (f ∷ fs) = member f.0 f.1 (members_of fs)

abbrev pub object_of : List Field → Data
object_of fs = object (members_of fs)

abbrev pub count_data : ℕ → Data
count_data n = whole_data (pos n)

-- null, where there is nothing
abbrev pub maybe_data : {A : Type 0} → (A → Data) → Option A → Data
maybe_data f None = null
maybe_data f (Some x) = f x

-- ---- calls, and what sites say
-- [number,sum,bound]
abbrev pub finding_data : Broken → Data
finding_data b = list_data (count_data b.clause ∷ whole_data b.sum ∷ whole_data b.bound ∷ [])

-- [client,call]
abbrev pub call_data : s.Workload → CallId → Data
call_data w c = list_data (string (client_name w c.client) ∷ count_data c.seq ∷ [])

abbrev pub named_call_fields : s.Workload → CallId → List Field
named_call_fields w c = (codes "client", string (client_name w c.client)) ∷ (codes "call", count_data c.seq) ∷ []

abbrev pub breach_fields : s.Workload → Breach → List Field
breach_fields w b =
    (codes "round", count_data b.round) ∷ (codes "site", count_data b.site)
    ∷ (named_call_fields w b.call ++ (codes "finding", finding_data b.broken) ∷ [])

abbrev pub breach_data : s.Workload → Breach → Data
breach_data w b = object_of (breach_fields w b)

-- left out, where there are none
abbrev pub calls_fields : s.Workload → List CallId → List Field
calls_fields w [] = []
calls_fields w (c ∷ cs) = (codes "calls", list_data (map (call_data w) (c ∷ cs))) ∷ []

abbrev pub said_fields : s.Workload → Said → List Field
said_fields w x = (codes "deltas", wholes_data x.deltas) ∷ calls_fields w x.calls

abbrev pub said_data : s.Workload → Said → Data
said_data w x = object_of (said_fields w x)

abbrev pub past_fields : s.Workload → Past → List Field
past_fields w p = breach_fields w p.breach ++ (codes "states", list_data (map (said_data w) p.states)) ∷ []

abbrev pub past_data : s.Workload → Past → Data
past_data w p = object_of (past_fields w p)

-- ---- answers and requests
abbrev pub path_fields : Path → List Field
path_fields (Local place) = (codes "path", string (codes "local")) ∷ (codes "place", count_data place) ∷ []
path_fields (Closing broken) = (codes "path", string (codes "closing")) ∷ (codes "finding", finding_data broken) ∷ []

abbrev pub answer_fields : l.Answer → List Field
answer_fields a = (codes "prints", wholes_data a.prints) ∷ (codes "round", count_data a.round) ∷ path_fields a.path

abbrev pub given_fields : s.Workload → l.Answer → List Field
given_fields w a = (codes "msg_id", count_data a.number) ∷ (named_call_fields w a.call ++ answer_fields a)

abbrev pub given_data : s.Workload → l.Answer → Data
given_data w a = object_of (given_fields w a)

abbrev pub request_fields : s.Workload → Request → List Field
request_fields w r = (codes "src", string r.caller) ∷ (codes "msg_id", count_data r.number) ∷ named_call_fields w r.call

abbrev pub request_data : s.Workload → Request → Data
request_data w r = object_of (request_fields w r)

-- ---- states
abbrev pub mode_name : Mode → List ℕ
mode_name Running = codes "running"
mode_name (Waiting by) = codes "waiting"
mode_name (Stopped by) = codes "stopped"

-- by which a node doesn't run
abbrev pub breach_of : Mode → Option Breach
breach_of Running = None
breach_of (Waiting by) = Some by
breach_of (Stopped by) = Some by

abbrev pub site_fields : Small → List Field
site_fields x =
    (codes "site", count_data x.number) ∷ (codes "round", count_data x.round) ∷ (codes "base", wholes_data x.base)
    ∷ (codes "deltas", wholes_data x.deltas) ∷ []

-- by which a node closes its round, and has closed one
abbrev pub closing_fields : s.Workload → Small → List Field
closing_fields w x =
    (codes "mode", string (mode_name x.mode)) ∷ (codes "breach", maybe_data (breach_data w) (breach_of x.mode))
    ∷ (codes "decided", maybe_data (breach_data w) x.decided) ∷ (codes "states", list_data (map (maybe_data (said_data w)) x.states))
    ∷ (codes "left", maybe_data (past_data w) x.past) ∷ []

abbrev pub state_fields : s.Workload → l.State → List Field
state_fields w x =
    (codes "format", count_data 1) ∷ (site_fields x.node ++ (codes "made", count_data x.made) ∷ (closing_fields w x.node
    ++ (codes "queue", list_data (map (request_data w) x.queue)) ∷ (codes "answered", list_data (map (given_data w) x.answered)) ∷ []))

abbrev pub state_data : s.Workload → l.State → Data
state_data w x = object_of (state_fields w x)

-- a name, where it is a text
abbrev pub key_of : List ℕ → List ℕ
key_of name = if is_utf8 name then name else []

-- the value of each object, from the object k on, by its name
abbrev pub named_values : List (List ℕ) → ℕ → List ℤ → List Field
named_values names k [] = []
named_values names k (n ∷ ns) = (key_of (name_at names k), whole_data n) ∷ named_values names (suc k) ns

abbrev pub status_fields : s.Workload → Small → ℕ → List Field
status_fields w x waiting =
    (codes "round", count_data x.round) ∷ (codes "mode", string (mode_name x.mode)) ∷ (codes "waiting", count_data waiting)
    ∷ (codes "base", object_of (named_values (object_names w) 0 x.base)) ∷ (codes "deltas", wholes_data x.deltas) ∷ []

-- ---- bodies
abbrev pub type_of : l.Body → List ℕ
type_of (l.InitOk number) = codes "init_ok"
type_of (l.CallOk answer) = codes "call_ok"
type_of (l.Error number code text) = codes "error"
type_of (l.Sent (Want b)) = codes "want"
type_of (l.Sent (Stop b)) = codes "stop"
type_of (l.Sent (State round site said)) = codes "state"
type_of (l.Left past) = codes "left"
type_of (l.SnapshotOk number state) = codes "snapshot_ok"
type_of (l.StatusOk number node waiting) = codes "status_ok"

-- the number of the message that it answers
abbrev pub answered_by : l.Body → Option ℕ
answered_by (l.InitOk number) = number
answered_by (l.CallOk answer) = Some answer.number
answered_by (l.Error number code text) = number
answered_by (l.Sent packet) = None
answered_by (l.Left past) = None
answered_by (l.SnapshotOk number state) = number
answered_by (l.StatusOk number node waiting) = number

abbrev pub type_fields : List ℕ → Option ℕ → List Field
type_fields name None = (codes "type", string name) ∷ []
type_fields name (Some number) = (codes "type", string name) ∷ (codes "in_reply_to", count_data number) ∷ []

abbrev pub other_fields : s.Workload → l.Body → List Field
other_fields w (l.InitOk number) = (codes "format", count_data 1) ∷ []
other_fields w (l.CallOk answer) = answer_fields answer ++ (codes "call", count_data answer.call.seq) ∷ []
other_fields w (l.Error number code text) = (codes "code", count_data code) ∷ (codes "text", string text) ∷ []
other_fields w (l.Sent (Want b)) = breach_fields w b
other_fields w (l.Sent (Stop b)) = breach_fields w b
other_fields w (l.Sent (State round site said)) = (codes "round", count_data round) ∷ (codes "site", count_data site) ∷ said_fields w said
other_fields w (l.Left past) = past_fields w past
other_fields w (l.SnapshotOk number state) = (codes "state", state_data w state) ∷ []
other_fields w (l.StatusOk number node waiting) = status_fields w node waiting

abbrev pub body_data : s.Workload → l.Body → Data
body_data w b = object_of (type_fields (type_of b) (answered_by b) ++ other_fields w b)

-- ---- lines
abbrev pub line_fields : s.Workload → Option (List ℕ) → Option (List ℕ) → l.Body → List Field
line_fields w from to b =
    (codes "src", maybe_data string from) ∷ (codes "dest", maybe_data string to) ∷ (codes "body", body_data w b) ∷ []

abbrev pub line_data : s.Workload → Option (List ℕ) → Option (List ℕ) → l.Body → Data
line_data w from to b = object_of (line_fields w from to b)

abbrev pub line_json : s.Workload → Option (List ℕ) → Option (List ℕ) → l.Body → List ℕ
line_json w from to b = compact_text (line_data w from to b)

-- with its newline
abbrev pub line_text : s.Workload → Option (List ℕ) → Option (List ℕ) → l.Body → List ℕ
line_text w from to b = line_json w from to b ++ newline
