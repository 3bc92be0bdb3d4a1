-- Stale packets stay stale whatever happens, and change nothing where they come.
use Rattle.homeo_site.specs.Key.{definitions as site_definitions}
use Rattle.homeo_wire.specs.Key.{definitions}
use Rattle.std.proofs.Common.{◌≡◌, ℕ, zero, suc, ◌+◌, ◌<◌, ◌≤◌, nat_lt, List, [], ◌∷◌, ◌++◌, map, length, Bool, true, false, cond, ℤ, Option, Some, None, refl, sym, ap, subst, ◌∙◌, arith, slice_index_or, slice_set}
use Rattle.std.specs.Prelude.{slice_get, not, ◌&&◌, ◌==◌}
use Rattle.std.specs.List.{range_with_len}
use Rattle.std.proofs.lemmas.List.{length-append}
use mathlib.Core.Logic.{⊎_elim}
use Rattle.homeo_syntax.specs.Source as s
use Rattle.homeo_meaning.specs.declared.call.CallId.{CallId}
use Rattle.homeo_plan.specs.declared.treaty.Broken.{Broken}
use Rattle.homeo_history.specs.Legal.{client_site, call_count}
use Rattle.homeo_history.proofs.Lists.{set_cases}
use Rattle.homeo_site.specs.SiteState.{step_finding}
use Rattle.homeo_wire.specs.declared.breach.Breach.{Breach}
use Rattle.homeo_wire.specs.declared.breach.Mode.{Mode}
use Rattle.homeo_wire.specs.declared.breach.Mode.TheVariants.{Running, Waiting, Stopped}
use Rattle.homeo_wire.specs.declared.events.Event.{Event}
use Rattle.homeo_wire.specs.declared.events.Event.TheVariants.{Call, Deliver}
use Rattle.homeo_wire.specs.inner.Stale.{AreStale}
use Rattle.homeo_wire.specs.Laws.{is_idle}
use Rattle.homeo_wire.specs.Nodes.{Packet, Want, Stop, State, round_of, Node, is_running, is_stopped, Held, Ignored, Taken, Reaction, stays, all_of, settled_by, settled, next_call, tried, called, is_arbiter, stopped, keeping, has_state, taken, received, World, reacts, calls, delivers, happens, after}
use Rattle.homeo_wire.proofs.Closings.{closed_round_of}
use Rattle.homeo_wire.proofs.Driving.{one_more}
use Rattle.homeo_wire.proofs.Keeping.{idle}
use Rattle.homeo_wire.proofs.NodeViews.{received_other}

-- ---- a node's round never falls
abbrev Rises : Node → Reaction → Type 0
Rises n r = n.journal.site.round ≤ r.node.journal.site.round

settled_rises : (w : s.Workload) (n : Node) (mode : Mode) (o : Option (List (List ℤ))) → n.journal.site.round ≤ (settled_by w n mode o).journal.site.round
unfolding definitions
settled_rises w n (Stopped b) (Some states) = let next = closed_round_of w b states n.journal in omega (arith, next)
settled_rises w n (Stopped b) None = omega arith
settled_rises w n Running o = omega arith
settled_rises w n Waiting o = omega arith

tried_rises : (w : s.Workload) (n : Node) (call : CallId) (o : Option Broken) → Rises n (tried w n call o)
unfolding definitions site_definitions
tried_rises w n call None = omega arith
tried_rises w n call (Some broken) = omega arith

called_rises : (w : s.Workload) (client : ℕ) (n : Node) (t : Bool) → Rises n (cond t (tried w n (next_call n client) (step_finding w n.journal.site (next_call n client))) (stays n Held))
called_rises w client n true = tried_rises w n (next_call n client) (step_finding w n.journal.site (next_call n client))
called_rises w client n false = omega arith

want_rises : (n : Node) (b : Breach) (t : Bool) → Rises n (cond t (record { node = record n { decided = true }; sends = Stop b ∷ []; step = Taken }) (stays n Ignored))
want_rises n b true = omega arith
want_rises n b false = omega arith

stop_rises : (w : s.Workload) (n : Node) (b : Breach) (t : Bool) → Rises n (cond t (stays n Ignored) (record { node = settled w (stopped n b); sends = State n.journal.site.round n.journal.site.number n.journal.site.deltas ∷ []; step = Taken }))
unfolding definitions
stop_rises w n b true = omega arith
stop_rises w n b false = settled_rises w (stopped n b) (Stopped b) (all_of (stopped n b).states)

state_rises : (w : s.Workload) (n : Node) (site : ℕ) (deltas : List ℤ) (t : Bool) → Rises n (cond t (stays n Ignored) (record { node = settled w (keeping n site deltas); sends = []; step = Taken }))
unfolding definitions
state_rises w n site deltas true = omega arith
state_rises w n site deltas false = settled_rises w (keeping n site deltas) n.mode (all_of (keeping n site deltas).states)

taken_rises : (w : s.Workload) (n : Node) (p : Packet) → Rises n (taken w n p)
unfolding definitions
taken_rises w n (Want b) = want_rises n b (is_arbiter w n && not n.decided)
taken_rises w n (Stop b) = stop_rises w n b (is_stopped n.mode)
taken_rises w n (State round site deltas) = state_rises w n site deltas (has_state n.states site)

received_rises : (w : s.Workload) (p : Packet) (n : Node) (t : Bool) → Rises n (cond t (taken w n p) (stays n Ignored))
received_rises w p n true = taken_rises w n p
received_rises w p n false = omega arith

-- ---- what is stale stays stale
get_first : {X : Type 0} (xs ys : List X) (k : ℕ) → k < length xs → slice_get xs k ≡ slice_get (xs ++ ys) k
get_first [] ys k lt = absurd (omega (arith, lt))
get_first (x ∷ xs) ys zero lt = refl
get_first (x ∷ xs) ys (suc k) lt = get_first xs ys k (omega (arith, lt))

stale_reacts : (x : World) (count i : ℕ) (o : Option Node) (f : Node → Reaction) → slice_get x.nodes i ≡ o → ((n : Node) → Rises n (f n)) → AreStale x count → AreStale (reacts x i o f).world count
unfolding definitions
stale_reacts x count i None f here rises stale = stale
stale_reacts x count i (Some n) f here rises stale = record { sent = sent; left = left }
  where
    sent : count ≤ length (x.packets ++ (f n).sends)
    sent = let more = length-append x.packets (f n).sends in let had = stale.sent in omega (arith, more, had)

    -- the packet was sent before
    before : (k : ℕ) (p : Packet) → k < count → slice_get (x.packets ++ (f n).sends) k ≡ Some p → slice_get x.packets k ≡ Some p
    before k p lt at = get_first x.packets (f n).sends k (let had = stale.sent in omega (arith, lt, had)) ∙ at

    later : (k : ℕ) (p : Packet) → k < count → slice_get x.packets k ≡ Some p → round_of p < (f n).node.journal.site.round
    later k p lt at = let was = stale.left k i p n lt at here in let up = rises n in omega (arith, was, up)

    left : (k j : ℕ) (p : Packet) (m : Node) → k < count → slice_get (x.packets ++ (f n).sends) k ≡ Some p → slice_get (slice_set x.nodes i (f n).node) j ≡ Some m → round_of p < m.journal.site.round
    left k j p m lt at there =
        ⊎_elim (λ h. subst (λ (v : Node). round_of p < v.journal.site.round) h.1 (later k p lt (before k p lt at))) (λ old. stale.left k j p m lt (before k p lt at) old) (set_cases x.nodes i j (f n).node m there)

stale_calls : (w : s.Workload) (x : World) (count client : ℕ) (o : Option ℕ) → AreStale x count → AreStale (calls w x client o).world count
unfolding definitions
stale_calls w x count client None stale = stale
stale_calls w x count client (Some home) stale =
    stale_reacts x count home (slice_get x.nodes home) (called w client) refl (λ n. called_rises w client n (is_running n.mode && nat_lt (slice_index_or n.journal.made client 0) (call_count w client))) stale

stale_delivers : (w : s.Workload) (x : World) (count site : ℕ) (o : Option Packet) → AreStale x count → AreStale (delivers w x site o).world count
unfolding definitions
stale_delivers w x count site None stale = stale
stale_delivers w x count site (Some p) stale =
    stale_reacts x count site (slice_get x.nodes site) (received w p) refl (λ n. received_rises w p n (round_of p == n.journal.site.round)) stale

stale_happens : (w : s.Workload) (x : World) (count : ℕ) (e : Event) → AreStale x count → AreStale (happens w x e).world count
unfolding definitions
stale_happens w x count (Call client) stale = stale_calls w x count client (client_site w client) stale
stale_happens w x count (Deliver site k) stale = stale_delivers w x count site (slice_get x.packets k) stale

pub stale_after : (w : s.Workload) (events : List Event) (x : World) (count : ℕ) → AreStale x count → AreStale (after w events x) count
unfolding definitions
stale_after w [] x count stale = stale
stale_after w (e ∷ events) x count stale =
    stale_after w events (happens w x e).world count (stale_happens w x count e stale)

-- ---- a stale packet comes
reacts_idle : (w : s.Workload) (x : World) (site : ℕ) (p : Packet) (o : Option Node) → ((n : Node) → o ≡ Some n → round_of p < n.journal.site.round) → is_idle (reacts x site o (received w p)).step ≡ true
unfolding definitions
reacts_idle w x site p None past = refl
reacts_idle w x site p (Some n) past =
    let lt = past n refl in
    ap (λ (r : Reaction). is_idle r.step) (received_other w p n (λ e. omega (arith, lt, e)))

delivers_idle : (w : s.Workload) (x : World) (site : ℕ) (o : Option Packet) → ((p : Packet) (n : Node) → o ≡ Some p → slice_get x.nodes site ≡ Some n → round_of p < n.journal.site.round) → is_idle (delivers w x site o).step ≡ true
unfolding definitions
delivers_idle w x site None past = refl
delivers_idle w x site (Some p) past = reacts_idle w x site p (slice_get x.nodes site) (λ n here. past p n refl here)

stale_idle : (w : s.Workload) (x : World) (count site k : ℕ) → AreStale x count → k < count → (happens w x (Deliver site k)).world ≡ x
unfolding definitions
stale_idle w x count site k stale lt =
    idle w x (Deliver site k) (delivers_idle w x site (slice_get x.packets k) (λ p n at here. stale.left k site p n lt at here))

pub stale_change_nothing : (w : s.Workload) (x : World) (count site : ℕ) → AreStale x count → (n : ℕ) → n ≤ count → x ≡ after w (map (λ packet. Deliver site packet) (range_with_len 0 n)) x
unfolding definitions
stale_change_nothing w x count site stale zero le = refl
stale_change_nothing w x count site stale (suc n) le =
    subst (λ m. x ≡ after w (map (λ packet. Deliver site packet) (range_with_len 0 m)) x) (let h : n + 1 ≡ suc n = omega arith in h) (one_more w (λ packet. Deliver site packet) x x x n (stale_change_nothing w x count site stale n (omega (arith, le))) (sym (stale_idle w x count site n stale (omega (arith, le)))))
