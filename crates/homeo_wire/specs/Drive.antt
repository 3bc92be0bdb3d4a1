-- The events that a number chooses (this project's rule).
use Rattle.std.specs.Prelude.{ℕ, zero, suc, ◌+◌, ◌*◌, ◌/◌, ◌%◌, ◌==◌, nat_lt, Bool, ◌||◌, cond, List, [], ◌∷◌, ◌++◌, map, length, Option, slice_get, slice_index_or}
use Rattle.std.specs.List.{range_with_len, list_any, flat_map}
use Rattle.homeo_syntax.specs.Source as s
use Rattle.homeo_plan.specs.Planned.{sites_of}
use Rattle.homeo_history.specs.Legal.{call_count}
use Rattle.homeo_draws.specs.Draws.{next_state, drawn}
use Rattle.homeo_wire.specs.declared.events.Event.{Event}
use Rattle.homeo_wire.specs.declared.events.Event.TheVariants.{Call, Deliver}
use Rattle.homeo_wire.specs.Key.{definitions}
use Rattle.homeo_wire.specs.Nodes.{World, at_start, after, reached}
use Rattle.homeo_wire.specs.Read.{history_in, counts_in}

-- ---- events that draws choose
-- a call of one of so many clients, and none where there is no client
abbrev pub some_call : ℕ → ℕ → List Event
unfolding definitions
some_call clients q = cond (clients == 0) [] (Call (q % clients) ∷ [])

-- a call in one of four cases and where nothing was sent, and else a delivery
abbrev pub chosen_event : s.Workload → World → ℕ → ℕ → List Event
unfolding definitions
chosen_event w x p q =
    cond (((p % 4) == 0) || (length x.packets == 0)) (some_call (length w.clients) q)
    (Deliver ((p / 4) % sites_of w) (q % length x.packets) ∷ [])

-- so many turns, with two draws for each
abbrev pub turns : s.Workload → World → ℕ → ℕ → List Event
unfolding definitions
turns w x state zero = []
turns w x state (suc n) =
    let later : ℕ = next_state (next_state state) in
    let events : List Event = chosen_event w x (drawn (next_state state)) (drawn later) in
    events ++ turns w (after w events x) later n

-- ---- rounds of calls, with all packets that were sent
-- each packet comes to the site
abbrev pub all_to : World → ℕ → List Event
unfolding definitions
all_to x site = map (λ packet. Deliver site packet) (range_with_len 0 (length x.packets))

-- so to so many sites one after another, from this one on
abbrev pub to_sites : s.Workload → World → ℕ → ℕ → List Event
unfolding definitions
to_sites w x site zero = []
to_sites w x site (suc n) =
    let events : List Event = all_to x site in events ++ to_sites w (after w events x) (suc site) n

-- so many times to all sites
abbrev pub sweeps : s.Workload → World → ℕ → List Event
unfolding definitions
sweeps w x zero = []
sweeps w x (suc n) =
    let events : List Event = to_sites w x 0 (sites_of w) in events ++ sweeps w (after w events x) n

-- a call of each client, and then three times all packets to all sites
abbrev pub call_of_each : s.Workload → World → List Event
unfolding definitions
call_of_each w x =
    let events : List Event = map (λ client. Call client) (range_with_len 0 (length w.clients)) in
    events ++ sweeps w (after w events x) 3

-- a client has a call that isn't in the history
abbrev pub lacks : s.Workload → World → ℕ → Bool
unfolding definitions
lacks w x client = nat_lt (slice_index_or (counts_in w (history_in x).rounds) client 0) (call_count w client)

-- some client has one
abbrev pub has_left : s.Workload → World → Bool
unfolding definitions
has_left w x = list_any (lacks w x) (range_with_len 0 (length w.clients))

-- while there is such a client, but only so many times
abbrev pub until_made : s.Workload → World → ℕ → List Event
unfolding definitions
until_made w x zero = []
until_made w x (suc n) =
    cond (has_left w x) (let events : List Event = call_of_each w x in events ++ until_made w (after w events x) n) []

-- ---- all of it
-- the calls of all clients, one client after another
abbrev pub calls_in : s.Workload → List s.Call
unfolding definitions
calls_in w = flat_map (λ client. client.calls) w.clients

-- the first of them that is too many, if there is one
abbrev pub excess : s.Workload → Option s.Call
unfolding definitions
excess w = slice_get (calls_in w) 200

abbrev pub drive : s.Workload → ℕ → List Event
unfolding definitions
drive w number =
    let first : List Event = turns w (at_start w) number (16 * length (calls_in w) + 16) in
    first ++ until_made w (reached w first) (length (calls_in w) + 1)
