-- What a line means, of its JSON value. A member that isn't named is left.
use Rattle.std.specs.Prelude.{◌≡◌, ℕ, ◌^◌, ◌==◌, nat_lt, nat_le, ℤ, List, [], ◌∷◌, ◌++◌, map, length, codes, Option, Some, None, option_map, if◌then◌else◌}
use Rattle.std.specs.Option.{option_and_then}
use Rattle.std.specs.Str.{bytes_eq}
use Rattle.std.specs.List.{list_any}
use Rattle.serde_json.specs.Data.{Data, null, boolean, number, string, array, object}
use Rattle.serde_json.specs.Find.{get, as_str}
use Rattle.homeo_syntax.specs.Source as s
use Rattle.homeo_meaning.specs.declared.call.CallId.{CallId}
use Rattle.homeo_plan.specs.declared.treaty.Broken.{Broken}
use Rattle.homeo_plan.specs.Planned.{sites_of}
use Rattle.homeo_nodes.specs.declared.breach.Breach.{Breach}
use Rattle.homeo_nodes.specs.declared.breach.Mode.{Mode}
use Rattle.homeo_nodes.specs.declared.breach.Mode.TheVariants.{Running, Waiting, Stopped}
use Rattle.homeo_nodes.specs.Nodes.{Said, Past, Packet, Want, Stop, State}
use Rattle.homeo_nodes.specs.Small.{Small}
use Rattle.homeo_desk.specs.declared.output.Path.{Path}
use Rattle.homeo_desk.specs.declared.output.Path.TheVariants.{Local, Closing}
use Rattle.homeo_desk.specs.declared.output.Request.{Request}
use Rattle.homeo_print.specs.Names.{object_names}
use Rattle.homeo_certificate.specs.Text.{IsJsonOf}
use Rattle.homeo_lines.specs.Lines as l
use Rattle.homeo_lines.specs.Members.{list, whole, integer, below, value_of, printed, text_at, list_at, number_at, small_at, each, each_from}
use Rattle.homeo_lines.specs.Named.{client_called, call_at, listed_of}

-- ---- calls and findings
-- [number,sum,bound]
abbrev pub finding_from : List Data → Option Broken
finding_from (a ∷ b ∷ c ∷ []) =
    option_and_then (λ clause. option_and_then (λ sum. option_and_then (λ bound. Some (record { clause = clause; sum = sum; bound = bound })) (integer c)) (integer b))
    (option_and_then (below (2 ^ 32)) (whole a))
finding_from ds = None

abbrev pub finding_of : Data → Option Broken
finding_of d = option_and_then finding_from (list d)

-- [client,call], of a client at a site
abbrev pub call_from : s.Workload → ℕ → List Data → Option CallId
call_from w site (a ∷ b ∷ []) =
    option_and_then (λ name. option_and_then (λ client. option_and_then (call_at w site client) (whole b)) (client_called w name)) (as_str a)
call_from w site ds = None

abbrev pub call_of : s.Workload → ℕ → Data → Option CallId
call_of w site d = option_and_then (call_from w site) (list d)

abbrev pub named_call_of : s.Workload → ℕ → Data → Option CallId
named_call_of w site d =
    option_and_then (λ name. option_and_then (λ client. option_and_then (call_at w site client) (number_at (codes "call") d)) (client_called w name))
    (text_at (codes "client") d)

abbrev pub breach_of : s.Workload → Data → Option Breach
breach_of w d =
    option_and_then
    (λ round. option_and_then
    (λ site. option_and_then
    (λ call. option_and_then (λ broken. Some (record { round = round; site = site; call = call; broken = broken }))
    (option_and_then finding_of (get (codes "finding") d)))
    (named_call_of w site d))
    (small_at (codes "site") d))
    (number_at (codes "round") d)

-- ---- what sites say
-- a value of each object
abbrev pub values_of : s.Workload → List Data → Option (List ℤ)
values_of w ds = if length ds == length (object_names w) then each value_of ds else None

abbrev pub database_at : s.Workload → List ℕ → Data → Option (List ℤ)
database_at w key d = option_and_then (values_of w) (list_at key d)

-- at most 64 calls of clients at a site
abbrev pub calls_of : s.Workload → ℕ → List Data → Option (List CallId)
calls_of w site ds = if nat_le (length ds) 64 then each (call_of w site) ds else None

-- which may be left out
abbrev pub calls_in : s.Workload → ℕ → Option Data → Option (List CallId)
calls_in w site None = Some []
calls_in w site (Some d) = option_and_then (calls_of w site) (list d)

abbrev pub said_of : s.Workload → ℕ → Data → Option Said
said_of w site d =
    option_and_then (λ deltas. option_and_then (λ calls. Some (record { deltas = deltas; calls = calls })) (calls_in w site (get (codes "calls") d)))
    (database_at w (codes "deltas") d)

abbrev pub stopped_of : s.Workload → Data → Option Packet
stopped_of w d =
    option_and_then (λ round. option_and_then (λ site. if nat_lt site (sites_of w) then option_map (State round site) (said_of w site d) else None) (small_at (codes "site") d))
    (number_at (codes "round") d)

-- of each site
abbrev pub all_said : s.Workload → List Data → Option (List Said)
all_said w ds = if length ds == sites_of w then each_from (said_of w) 0 ds else None

abbrev pub past_of : s.Workload → Data → Option Past
past_of w d =
    option_and_then (λ breach. option_and_then (λ states. Some (record { breach = breach; states = states })) (option_and_then (all_said w) (list_at (codes "states") d)))
    (breach_of w d)

-- ---- requests and answers
abbrev pub request_of : s.Workload → ℕ → Data → Option Request
request_of w site d =
    option_and_then
    (λ caller. option_and_then (λ number. option_and_then (λ call. Some (record { caller = caller; number = number; call = call })) (named_call_of w site d))
    (number_at (codes "msg_id") d))
    (text_at (codes "src") d)

abbrev pub path_by : Data → List ℕ → Option Path
path_by d name =
    if bytes_eq name (codes "local") then option_map Local (number_at (codes "place") d)
    else (if bytes_eq name (codes "closing") then option_map Closing (option_and_then finding_of (get (codes "finding") d)) else None)

abbrev pub path_of : Data → Option Path
path_of d = option_and_then (path_by d) (text_at (codes "path") d)

abbrev pub prints_of : Data → Option (List ℤ)
prints_of d = option_and_then (each printed) (list_at (codes "prints") d)

abbrev pub answer_of : s.Workload → ℕ → Data → Option l.Answer
answer_of w site d =
    option_and_then
    (λ number. option_and_then
    (λ call. option_and_then
    (λ round. option_and_then
    (λ path. option_and_then (λ prints. Some (record { number = number; call = call; prints = prints; round = round; path = path })) (prints_of d))
    (path_of d))
    (number_at (codes "round") d))
    (named_call_of w site d))
    (number_at (codes "msg_id") d)

-- ---- states
-- null is nothing
abbrev pub maybe : {A : Type 0} → (Data → Option A) → Data → Option (Option A)
maybe f null = Some None
maybe f (boolean b) = option_map Some (f (boolean b))
maybe f (number n) = option_map Some (f (number n))
maybe f (string x) = option_map Some (f (string x))
maybe f (array ds) = option_map Some (f (array ds))
maybe f (object ms) = option_map Some (f (object ms))

abbrev pub mode_by : s.Workload → Data → List ℕ → Option Mode
mode_by w d name =
    if bytes_eq name (codes "running") then Some Running
    else (if bytes_eq name (codes "waiting") then option_map Waiting (option_and_then (breach_of w) (get (codes "breach") d))
    else (if bytes_eq name (codes "stopped") then option_map Stopped (option_and_then (breach_of w) (get (codes "breach") d)) else None))

abbrev pub mode_of : s.Workload → Data → Option Mode
mode_of w d = option_and_then (mode_by w d) (text_at (codes "mode") d)

abbrev pub all_kept : s.Workload → List Data → Option (List (Option Said))
all_kept w ds = if length ds == sites_of w then each_from (λ site. maybe (said_of w site)) 0 ds else None

-- the node of a site, where the calls of these requests wait
abbrev pub node_of : s.Workload → ℕ → List Request → Data → Option Small
node_of w site queue d =
    option_and_then
    (λ round. option_and_then
    (λ mode. option_and_then
    (λ decided. option_and_then
    (λ base. option_and_then
    (λ deltas. option_and_then
    (λ states. option_and_then
    (λ past. Some (record {
      number = site;
      round = round;
      base = base;
      deltas = deltas;
      mode = mode;
      decided = decided;
      states = states;
      past = past;
      queue = map (λ r. r.call) queue;
    }))
    (option_and_then (maybe (past_of w)) (get (codes "left") d)))
    (option_and_then (all_kept w) (list_at (codes "states") d)))
    (database_at w (codes "deltas") d))
    (database_at w (codes "base") d))
    (option_and_then (maybe (breach_of w)) (get (codes "decided") d)))
    (mode_of w d))
    (number_at (codes "round") d)

-- the format 1
abbrev pub first_format : Data → Option ℕ
first_format d = option_and_then (λ n. if n == 1 then Some n else None) (number_at (codes "format") d)

abbrev pub state_of : s.Workload → Data → Option l.State
state_of w d =
    option_and_then
    (λ format. option_and_then
    (λ site. option_and_then
    (λ queue. option_and_then
    (λ node. option_and_then
    (λ answered. option_and_then (λ made. Some (record { node = node; made = made; queue = queue; answered = answered })) (number_at (codes "made") d))
    (option_and_then (each (answer_of w site)) (list_at (codes "answered") d)))
    (node_of w site queue d))
    (option_and_then (each (request_of w site)) (list_at (codes "queue") d)))
    (small_at (codes "site") d))
    (first_format d)

-- ---- messages
abbrev pub malformed : ℕ
malformed = 12

abbrev pub unlisted : ℕ
unlisted = 10

-- what is meant, or else that the line is malformed
abbrev pub or_malformed : {A : Type 0} → (A → l.Message) → Option A → l.Message
or_malformed f None = l.Wrong malformed
or_malformed f (Some x) = f x

abbrev pub or_unlisted : Option CallId → l.Message
or_unlisted None = l.Wrong unlisted
or_unlisted (Some call) = l.Call call

abbrev pub asked_of : s.Workload → Data → Option l.Message
asked_of w d =
    option_and_then
    (λ client. option_and_then
    (λ transaction. option_and_then (λ args. Some (or_unlisted (listed_of w client transaction args))) (option_and_then (each value_of) (list_at (codes "args") d)))
    (text_at (codes "transaction") d))
    (text_at (codes "client") d)

-- texts that are distinct from each other and from those before them
abbrev pub distinct : List (List ℕ) → List Data → Option (List (List ℕ))
distinct before [] = Some []
distinct before (d ∷ ds) =
    option_and_then
    (λ text. if list_any (λ other. bytes_eq other text) before then None else option_map (λ texts. text ∷ texts) (distinct (before ++ text ∷ []) ds))
    (as_str d)

-- a state that is left out, or null, is none
abbrev pub maybe_state : s.Workload → Option Data → Option (Option l.State)
maybe_state w None = Some None
maybe_state w (Some d) = maybe (state_of w) d

abbrev pub init_of : s.Workload → Data → Option l.Message
init_of w d =
    option_and_then
    (λ format. option_and_then
    (λ node. option_and_then
    (λ nodes. option_and_then (λ state. Some (l.Init node nodes state)) (maybe_state w (get (codes "state") d)))
    (option_and_then (distinct []) (list_at (codes "node_ids") d)))
    (text_at (codes "node_id") d))
    (first_format d)

-- of a body of this type
abbrev pub message_by : s.Workload → Data → List ℕ → l.Message
message_by w d name =
    if bytes_eq name (codes "call") then or_malformed (λ m. m) (asked_of w d)
    else (if bytes_eq name (codes "want") then or_malformed (λ b. l.Came (Want b)) (breach_of w d)
    else (if bytes_eq name (codes "stop") then or_malformed (λ b. l.Came (Stop b)) (breach_of w d)
    else (if bytes_eq name (codes "state") then or_malformed l.Came (stopped_of w d)
    else (if bytes_eq name (codes "left") then or_malformed l.HasLeft (past_of w d)
    else (if bytes_eq name (codes "tick") then l.Tick
    else (if bytes_eq name (codes "snapshot") then l.Snapshot
    else (if bytes_eq name (codes "status") then l.Status
    else (if bytes_eq name (codes "init") then or_malformed (λ m. m) (init_of w d) else l.Wrong malformed))))))))

abbrev pub message_of : s.Workload → Data → l.Message
message_of w d = or_malformed (message_by w d) (text_at (codes "type") d)

-- ---- lines
abbrev pub line_by : s.Workload → Data → Option Data → l.Line
line_by w d None = record { from = text_at (codes "src") d; number = None; message = l.Wrong malformed }
line_by w d (Some body) = record { from = text_at (codes "src") d; number = number_at (codes "msg_id") body; message = message_of w body }

abbrev pub line_of : s.Workload → Data → l.Line
line_of w d = line_by w d (get (codes "body") d)

-- bytes that are no JSON
abbrev pub no_line : l.Line
no_line = record { from = None; number = None; message = l.Wrong malformed }

-- ---- bytes
-- the bytes are a JSON value that means this
pub record IsReadAs (w : s.Workload) (bytes : List ℕ) (x : l.Line) : Type 0 where
  pub value : Data
  pub json : IsJsonOf bytes value
  pub meant : line_of w value ≡ x

-- the bytes are no JSON
abbrev pub IsNoJson : List ℕ → Type 0
IsNoJson bytes = (d : Data) → IsJsonOf bytes d → ⊥
