-- Legal histories.
use Rattle.std.specs.Prelude.{◌≡◌, ℕ, ◌==◌, ◌≤◌, List, [], ◌∷◌, ◌++◌, map, length, filter, ℤ, Option, Some, None, IsSome, IfSome, option_map, All, slice_get, slice_index_or}
use Rattle.std.specs.List.{flat_map, range_with_len}
use Rattle.std.specs.Option.{option_map_or, option_to_list}
use Rattle.homeo_syntax.specs.Source as s
use Rattle.homeo_meaning.specs.declared.call.CallId.{CallId}
use Rattle.homeo_meaning.specs.Calls.{CallExists}
use Rattle.homeo_meaning.specs.Schema.{nat_of}
use Rattle.homeo_meaning.specs.Initial.{initial}
use Rattle.homeo_meaning.specs.Serial.{call_outcome, serial}
use Rattle.homeo_plan.specs.Planned.{sites_of}
use Rattle.homeo_history.specs.Key.{definitions}
use Rattle.homeo_history.specs.History.{Entry, Closing, Round, History}
use Rattle.homeo_history.specs.Merge.{segment_of, merged, interleave, FitsSegments}
use Rattle.homeo_history.specs.Replayed.{IsReplayed}

-- ---- what a workload says of sites and calls
-- a client's site, where there is such a client
abbrev pub client_site : s.Workload → ℕ → Option ℕ
unfolding definitions
client_site w client = option_map (λ client. nat_of client.site.value) (slice_get w.clients client)

-- the site of a call's client
abbrev pub site_of : s.Workload → CallId → Option ℕ
unfolding definitions
site_of w call = client_site w call.client

-- the client is at this site
abbrev pub IsClientAt : s.Workload → ℕ → ℕ → Type 0
unfolding definitions
IsClientAt w site client = client_site w client ≡ Some site

-- how many calls a client has: none where there is no such client
abbrev pub call_count : s.Workload → ℕ → ℕ
unfolding definitions
call_count w client = option_map_or (λ client. length client.calls) (slice_get w.clients client) 0

-- ---- the frame: rounds, bases, sites
abbrev pub first_base : List Round → Option (List ℤ)
unfolding definitions
first_base rounds = option_map (λ r. r.base) (slice_get rounds 0)

-- there is a last round, which is open, and each round before it is closed
abbrev pub OnlyLastIsOpen : List Round → Type 0
unfolding definitions
OnlyLastIsOpen [] = ⊥
OnlyLastIsOpen (r ∷ []) = r.closing ≡ None
OnlyLastIsOpen (r ∷ next ∷ rounds) = IsSome r.closing × OnlyLastIsOpen (next ∷ rounds)

pub record IsFramed (w : s.Workload) (start : List ℤ) (rounds : List Round) : Type 0 where
  pub starts : first_base rounds ≡ Some start
  pub segments : All (λ r. length r.segments ≡ sites_of w) rounds
  pub closed : OnlyLastIsOpen rounds

-- ---- each call at its client's site
-- a client at the site has the call
pub record IsCallAt (w : s.Workload) (site : ℕ) (call : CallId) : Type 0 where
  pub exists : CallExists w call
  pub at_site : site_of w call ≡ Some site

pub record IsAtSites (w : s.Workload) (r : Round) : Type 0 where
  pub segments : (site : ℕ) → All (λ e. IsCallAt w site e.call) (segment_of r.segments site)
  pub closing : IfSome r.closing (λ c. IsCallAt w c.site c.entry.call)

-- ---- each client's calls in order
abbrev pub entries_of : Round → List Entry
unfolding definitions
entries_of r = flat_map (λ entries. entries) r.segments ++ option_to_list (option_map (λ c. c.entry) r.closing)

-- the calls of a history, round after round, and in each round the segments before the closing call
abbrev pub calls_of : List Round → List CallId
unfolding definitions
calls_of rounds = map (λ e. e.call) (flat_map entries_of rounds)

-- the numbers of a client's calls among these
abbrev pub numbers_of : ℕ → List CallId → List ℕ
unfolding definitions
numbers_of client calls = map (λ call. call.seq) (filter (λ call. call.client == client) calls)

-- of each client its first calls stand here, in order, each once, as many as counts says
pub record IsInOrder (w : s.Workload) (counts : List ℕ) (calls : List CallId) : Type 0 where
  pub clients : length counts ≡ length w.clients
  pub exist : (client : ℕ) → slice_index_or counts client 0 ≤ call_count w client
  pub numbers : (client : ℕ) → numbers_of client calls ≡ range_with_len 1 (slice_index_or counts client 0)

-- ---- the same as one call after another
-- every merge of the round's entries, run on its base, gives their prints and this database
pub record HasMerges (w : s.Workload) (r : Round) (after : List ℤ) : Type 0 where
  pub prints : (choice : List ℕ) → FitsSegments r.segments choice
      → (serial w r.base (interleave r.segments choice)).logs ≡ map (λ e. e.prints) (merged r.segments choice)
  pub database : (choice : List ℕ) → FitsSegments r.segments choice
      → (serial w r.base (interleave r.segments choice)).database ≡ after

-- the closing call, if there is one, takes the database to the next one and prints what its entry says
abbrev pub ClosesWith : s.Workload → List ℤ → Option Closing → List ℤ → Type 0
unfolding definitions
ClosesWith w after None next = next ≡ after
ClosesWith w after (Some c) next = call_outcome w c.entry.call after ≡ record { prints = c.entry.prints; database = next }

-- the database that a round leaves: the next round's base, or the last database
abbrev pub base_or : List Round → List ℤ → List ℤ
unfolding definitions
base_or [] last = last
base_or (r ∷ rounds) last = r.base

pub record RunsTo (w : s.Workload) (r : Round) (next : List ℤ) : Type 0 where
  pub after : List ℤ
  pub merges : HasMerges w r after
  pub closes : ClosesWith w after r.closing next

abbrev pub AreSerial : s.Workload → List Round → List ℤ → Type 0
unfolding definitions
AreSerial w [] last = Unit {0}
AreSerial w (r ∷ rounds) last = RunsTo w r (base_or rounds last) × AreSerial w rounds last

-- ---- whatever the order in which clients made their calls
-- a history from a database on whose rounds are serial, each call at its client's site; a call may stand there any number of times
pub record IsSerialFrom (w : s.Workload) (start : List ℤ) (h : History) : Type 0 where
  pub framed : IsFramed w start h.rounds
  pub at_sites : All (IsAtSites w) h.rounds
  pub serial : AreSerial w h.rounds h.last
  pub replayed : All (IsReplayed w) h.rounds

-- ---- all of it
-- a history from a database on, of the first calls of each client, as many as counts says
pub record IsLegalFrom (w : s.Workload) (start : List ℤ) (counts : List ℕ) (h : History) : Type 0 where
  pub framed : IsFramed w start h.rounds
  pub at_sites : All (IsAtSites w) h.rounds
  pub in_order : IsInOrder w counts (calls_of h.rounds)
  pub serial : AreSerial w h.rounds h.last
  pub replayed : All (IsReplayed w) h.rounds

-- the same from the initial database
abbrev pub IsLegal : s.Workload → List ℕ → History → Type 0
unfolding definitions
IsLegal w counts h = IsLegalFrom w (initial w) counts h

-- a legal history of all calls of each client
abbrev pub IsFull : s.Workload → History → Type 0
unfolding definitions
IsFull w h = IsLegal w (map (λ client. length client.calls) w.clients) h
