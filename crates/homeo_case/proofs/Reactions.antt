-- One reaction of a node of the wire is one, or two, of a node that is asked calls.
use Rattle.homeo_site.specs.Key.{definitions as site_definitions}
use Rattle.homeo_nodes.specs.Key.{definitions as node_definitions}
use Rattle.homeo_wire.specs.Key.{definitions as wire_definitions}
use Rattle.std.proofs.Common.{◌≡◌, ℕ, zero, suc, List, [], ◌∷◌, ◌++◌, map, drop, replicate, Bool, true, false, cond, ℤ, Option, Some, None, refl, sym, ap, subst, ◌∙◌, slice_set, slice_index_or}
use Rattle.std.specs.Prelude.{slice_get, is_some, not, option_map, ◌&&◌, ◌==◌, ◌%◌}
use Rattle.std.proofs.lemmas.List.{append-nil, map-append}
use Rattle.std.proofs.lemmas.Bool.{cases_eq, eq-eqb, ne_eqb, cond-true, cond-false, eqb-true}
use mathlib.Core.Logic.{⊎_elim}
use Rattle.homeo_syntax.specs.Source as s
use Rattle.homeo_meaning.specs.declared.call.CallId.{CallId}
use Rattle.homeo_meaning.specs.Acceptance.{IsAccepted}
use Rattle.homeo_meaning.specs.Serial.{call_outcome}
use Rattle.homeo_plan.specs.declared.treaty.Broken.{Broken}
use Rattle.homeo_plan.specs.Planned.{sites_of}
use Rattle.homeo_history.proofs.Lists.{get_set_same}
use Rattle.homeo_site.specs.SiteState.{SiteState, renewed}
use Rattle.homeo_round.specs.PlusDeltas.{plus_deltas}
use Rattle.homeo_core.specs.Events.{closing_on}
use Rattle.homeo_nodes.specs.declared.breach.Breach.{Breach}
use Rattle.homeo_nodes.specs.declared.breach.Mode.{Mode}
use Rattle.homeo_nodes.specs.declared.breach.Mode.TheVariants.{Running, Waiting, Stopped}
use Rattle.homeo_nodes.specs.Nodes as n
use Rattle.homeo_nodes.proofs.Places.{map_set}
use Rattle.homeo_nodes.proofs.Plain.{plain_closes}
use Rattle.homeo_nodes.proofs.Reacting.{keep_holds}
use Rattle.homeo_nodes.proofs.Sending.{Sent, sent_left, sent_one}
use Rattle.homeo_nodes.proofs.Settling.{Holds}
use Rattle.homeo_nodes.proofs.Withdrawing.{withdraw_holds}
use Rattle.homeo_wire.specs.declared.breach.Mode.TheVariants as variant
use Rattle.homeo_wire.specs.Nodes as d
use Rattle.homeo_case.specs.Case.{wired_breach, wired_packet, wired_mode, wired_state, closed_left, wired, IsWired}
use Rattle.homeo_case.proofs.Counting.{IsNext, IsCounted, same_counted, made_counted, waits_counted, less_counted, closing_counted}
use Rattle.homeo_case.proofs.Plain.{IsPlainState, ArePlain, plain_with, own_count, IsPlainNode, drop_take, withdrawn_none, nothing_carried, own_first, nothing_waits}

-- ---- the same functions
folded_same : (base : List ℤ) (states : List (List ℤ)) → d.folded base states ≡ n.folded base states
unfolding node_definitions wire_definitions
folded_same base [] = refl
folded_same base (x ∷ states) = folded_same (plus_deltas base x) states

abbrev deltas : List n.Said → List (List ℤ)
deltas all = map (λ (said : n.Said). said.deltas) all

one_more : (x : n.Said) (o : Option (List n.Said)) → option_map (λ ys. x.deltas ∷ ys) (option_map deltas o) ≡ option_map deltas (option_map (λ ys. x ∷ ys) o)
one_more x None = refl
one_more x (Some all) = refl

all_same : (states : List (Option n.Said)) → d.all_of (map wired_state states) ≡ option_map deltas (n.all_of states)
all_same [] = refl
all_same (None ∷ states) = refl
all_same (Some x ∷ states) =
    ap (option_map (λ ys. x.deltas ∷ ys)) (all_same states) ∙ one_more x (n.all_of states)

pub running_same : (m : Mode) → d.is_running (wired_mode m) ≡ n.is_running m
running_same Running = refl
running_same (Waiting b) = refl
running_same (Stopped b) = refl

stopped_same : (m : Mode) → d.is_stopped (wired_mode m) ≡ n.is_stopped m
stopped_same Running = refl
stopped_same (Waiting b) = refl
stopped_same (Stopped b) = refl

some_same : (o : Option n.Said) → is_some (wired_state o) ≡ is_some o
some_same None = refl
some_same (Some said) = refl

index_same : (states : List (Option n.Said)) (k : ℕ) → slice_index_or (map wired_state states) k None ≡ wired_state (slice_index_or states k None)
index_same [] zero = refl
index_same [] (suc k) = refl
index_same (x ∷ states) zero = refl
index_same (x ∷ states) (suc k) = index_same states k

has_same : (states : List (Option n.Said)) (k : ℕ) → d.has_state (map wired_state states) k ≡ n.has_state states k
unfolding node_definitions wire_definitions
has_same states k = ap is_some (index_same states k) ∙ some_same (slice_index_or states k None)

pub none_kept : (count : ℕ) → replicate count None ≡ map wired_state (replicate count None)
none_kept zero = refl
none_kept (suc count) = ap (λ xs. None ∷ xs) (none_kept count)

drop_nil : {X : Type 0} (k : ℕ) (xs : List X) → xs ≡ [] → drop k xs ≡ []
drop_nil zero [] e = refl
drop_nil zero (x ∷ xs) e = e
drop_nil (suc k) [] e = refl
drop_nil (suc k) (x ∷ xs) e = absurd (cc)

drop_none : {X : Type 0} (xs : List X) → drop 0 xs ≡ xs
drop_none [] = refl
drop_none (x ∷ xs) = refl

-- ---- what both do
pub record Agrees (w : s.Workload) (ps : List n.Packet) (r : d.Reaction) (q : n.Reaction) : Type 0 where
  pub node : IsWired r.node q.node
  pub sends : r.sends ≡ map wired_packet q.sends
  pub own : IsPlainNode q.node
  pub counted : IsCounted w r.node.journal.made q.node
  pub packets : ArePlain (ps ++ q.sends)

same_packets : (ps : List n.Packet) → ArePlain ps → ArePlain (ps ++ [])
same_packets ps plain = subst ArePlain (sym (append-nil ps)) plain

no_state : (b : Breach) (ps : List n.Packet) (p : n.Packet) → ((r k : ℕ) (said : n.Said) → p ≡ n.State r k said → ⊥) → (r k : ℕ) (said : n.Said) → Sent (p ∷ []) (n.State r k said) → IsPlainState (ps ++ p ∷ []) r k said
no_state b ps p never r k said sent = absurd (never r k said (sent_one p (n.State r k said) sent))

-- ---- a call: the node takes it on, and tries it
module _ (w : s.Workload) (ps : List n.Packet) (plain : ArePlain ps) (m : n.Node) (left : List d.Left) (made : List ℕ) (lefts : map closed_left left ≡ m.journal.left) (counted : IsCounted w made m) (idle : m.queue ≡ []) (call : CallId) (next : IsNext w made call) where
  abbrev pub taken_on : n.Node
  taken_on = record m {
    journal = record { site = m.journal.site; left = m.journal.left; asked = m.journal.asked ++ call ∷ [] };
    queue = m.queue ++ call ∷ [];
  }

  pub tried_agrees : (o : Option Broken) → Agrees w ps (d.tried w (wired m left made) call o) (n.tried w taken_on call [] o)
  unfolding node_definitions wire_definitions site_definitions
  tried_agrees None = record {
    node = record { left = left; made = slice_set made call.client call.seq; node = refl; left_is = lefts };
    sends = refl;
    own = record { running = λ e. refl; stopped = λ u e. drop_nil (own_count m u) [] refl };
    counted = made_counted w made m (n.tried w taken_on call [] None).node counted call idle next refl refl;
    packets = same_packets ps plain;
  }
  tried_agrees (Some broken) =
      let b : Breach = n.breach_of taken_on call broken in
      record {
        node = record { left = left; made = made; node = refl; left_is = lefts };
        sends = refl;
        own = record { running = λ e. absurd (cc); stopped = λ u e. absurd (let f : Waiting b ≡ Stopped u = e in cc) };
        counted = waits_counted w made m (n.tried w taken_on call [] (Some broken)).node counted call idle next refl (ap (λ q. q ++ call ∷ []) idle);
        packets = plain_with ps (n.Want b ∷ []) plain (no_state b ps (n.Want b) (λ r k said e. cc));
      }

-- ---- the end of a round
record Settles (w : s.Workload) (v : d.Node) (q : n.Node) : Type 0 where
  pub node : IsWired v q
  pub own : IsPlainNode q
  pub counted : IsCounted w v.journal.made q

module _ (w : s.Workload) (ns : List n.Node) (ps : List n.Packet) (holds : Holds w ns ps) (plain : ArePlain ps) (i : ℕ) (m : n.Node) (here : slice_get ns i ≡ Some m) (own : IsPlainNode m) (left : List d.Left) (made : List ℕ) (lefts : map closed_left left ≡ m.journal.left) (counted : IsCounted w made m) where
  abbrev v : d.Node
  v = wired m left made

  still : Settles w v m
  still = record { node = record { left = left; made = made; node = refl; left_is = lefts }; own = own; counted = counted }

  module _ (u : Breach) (all : List n.Said) (stop : m.mode ≡ Stopped u) (states : n.all_of m.states ≡ Some all) where
    abbrev whole : List ℤ
    whole = n.whole_of all m.journal

    abbrev then : n.Journal
    then = n.closed w u all m.journal

    then_is : then ≡ record { site = renewed (n.next_of w u all m.journal) m.journal.site; left = m.journal.left ++ n.newest w u all m.journal ∷ []; asked = m.journal.asked }
    unfolding node_definitions
    then_is = plain_closes w u all m.journal (nothing_carried w ns ps holds plain i m here u all stop states)

    abbrev left_then : List d.Left
    left_then =
        left ++ record { base = m.journal.site.base; segment = m.journal.site.segment; closing = closing_on w whole u.site u.call u.broken } ∷ []

    abbrev made_then : List ℕ
    made_then = cond (u.site == m.journal.site.number) (slice_set made u.call.client u.call.seq) made

    -- as the wire has it, on this whole database
    abbrev closed_on : List ℤ → d.Node
    closed_on database =
        d.in_round w (record { site = renewed (call_outcome w u.call database).database m.journal.site; left = left ++ record { base = m.journal.site.base; segment = m.journal.site.segment; closing = closing_on w database u.site u.call u.broken } ∷ []; made = made_then })

    abbrev node_then : SiteState → List (Option (List ℤ)) → d.Node
    node_then site kept =
        record { journal = record { site = site; left = left_then; made = made_then }; mode = variant.Running; decided = false; states = kept }

    node_is : d.in_round w (d.closed w (wired_breach u) (deltas all) v.journal) ≡ wired (n.in_round w (n.past_of u all) (n.still_waits u all m.journal.site.number m.queue) then) left_then made_then
    unfolding node_definitions wire_definitions
    node_is =
        ap closed_on (folded_same m.journal.site.base (deltas all))
        ∙ ap (node_then (renewed (n.next_of w u all m.journal) m.journal.site)) (none_kept (sites_of w))
        ∙ ap (λ (j : n.Journal). node_then j.site (map wired_state (replicate (sites_of w) None))) (sym then_is)

    lefts_then : map closed_left left_then ≡ then.left
    unfolding node_definitions
    lefts_then =
        map-append closed_left left (record { base = m.journal.site.base; segment = m.journal.site.segment; closing = closing_on w whole u.site u.call u.broken } ∷ [])
        ∙ ap (λ ls. ls ++ n.newest w u all m.journal ∷ []) lefts
        ∙ ap (λ (j : n.Journal). j.left) (sym then_is)

    abbrev node' : n.Node
    node' = n.in_round w (n.past_of u all) (n.still_waits u all m.journal.site.number m.queue) then

    none_waits : n.still_waits u all m.journal.site.number m.queue ≡ []
    none_waits = nothing_waits w ns ps holds plain i m here u all stop states (own.stopped u stop)

    asked_then : node'.journal.asked ≡ m.journal.asked
    unfolding node_definitions
    asked_then = ap (λ (j : n.Journal). j.asked) then_is

    queue_then : node'.queue ≡ []
    unfolding node_definitions
    queue_then = none_waits

    counted_then : IsCounted w made_then node'
    counted_then = ⊎_elim at_home away (cases_eq u.site m.journal.site.number)
      where
        at_home : u.site ≡ m.journal.site.number → IsCounted w made_then node'
        at_home e =
            let first = own_first w ns ps holds plain i m here u all stop states (sym e) in
            subst (λ ks. IsCounted w ks node') (sym (cond-true (u.site == m.journal.site.number) (slice_set made u.call.client u.call.seq) made (eq-eqb u.site m.journal.site.number e))) (closing_counted w made m node' counted u.call first.0 first.1 asked_then queue_then)

        away : (u.site ≡ m.journal.site.number → ⊥) → IsCounted w made_then node'
        away d =
            let count : own_count m u ≡ 0 = cond-false (m.journal.site.number == u.site) 1 0 (ne_eqb m.journal.site.number u.site (λ e. d (sym e))) in
            let none : m.queue ≡ [] = sym (drop_none m.queue) ∙ ap (λ k. drop k m.queue) (sym count) ∙ own.stopped u stop in
            subst (λ ks. IsCounted w ks node') (sym (cond-false (u.site == m.journal.site.number) (slice_set made u.call.client u.call.seq) made (ne_eqb u.site m.journal.site.number d))) (same_counted w made m node' counted asked_then (queue_then ∙ sym none))

    closes : Settles w (d.settled_by w v (wired_mode (Stopped u)) (option_map deltas (Some all))) (n.settled_by w m (Stopped u) (Some all))
    unfolding node_definitions wire_definitions
    closes = record {
      node = record { left = left_then; made = made_then; node = node_is; left_is = lefts_then };
      own = record {
        running = λ e. none_waits;
        stopped = λ b e. absurd (let f : Running ≡ Stopped b = e in cc);
      };
      counted = counted_then;
    }

  settles_by : (mode : Mode) (o : Option (List n.Said)) → m.mode ≡ mode → n.all_of m.states ≡ o → Settles w (d.settled_by w v (wired_mode mode) (option_map deltas o)) (n.settled_by w m mode o)
  unfolding node_definitions wire_definitions
  settles_by Running None e f = still
  settles_by Running (Some all) e f = still
  settles_by (Waiting b) None e f = still
  settles_by (Waiting b) (Some all) e f = still
  settles_by (Stopped u) None e f = still
  settles_by (Stopped u) (Some all) e f = closes u all e f

  settles : Settles w (d.settled w v) (n.settled w m)
  unfolding node_definitions wire_definitions
  settles =
      subst (λ o. Settles w (d.settled_by w v (wired_mode m.mode) o) (n.settled_by w m m.mode (n.all_of m.states))) (sym (all_same m.states)) (settles_by m.mode (n.all_of m.states) refl refl)

-- ---- a packet
module _ (w : s.Workload) (ns : List n.Node) (ps : List n.Packet) (accepted : IsAccepted w) (holds : Holds w ns ps) (plain : ArePlain ps) (i : ℕ) (m : n.Node) (here : slice_get ns i ≡ Some m) (own : IsPlainNode m) (left : List d.Left) (made : List ℕ) (lefts : map closed_left left ≡ m.journal.left) (counted : IsCounted w made m) where
  abbrev of_wire : d.Node
  of_wire = wired m left made

  idle : (a : d.Step) (b : n.Step) → Agrees w ps (d.stays of_wire a) (n.stays m b)
  idle a b = record {
    node = record { left = left; made = made; node = refl; left_is = lefts };
    sends = refl;
    own = own;
    counted = counted;
    packets = same_packets ps plain;
  }

  want_agrees : (b : Breach) (t : Bool) → Agrees w ps (cond t (record { node = record of_wire { decided = true }; sends = d.Stop (wired_breach b) ∷ []; step = d.Taken }) (d.stays of_wire d.Ignored)) (cond t (record { node = record m { decided = Some b }; sends = n.Stop b ∷ []; step = n.Taken }) (n.stays m n.Ignored))
  want_agrees b true = record {
    node = record { left = left; made = made; node = refl; left_is = lefts };
    sends = refl;
    own = record { running = own.running; stopped = own.stopped };
    counted = same_counted w made m (record m { decided = Some b }) counted refl refl;
    packets = plain_with ps (n.Stop b ∷ []) plain (no_state b ps (n.Stop b) (λ r k said e. cc));
  }
  want_agrees b false = idle d.Ignored n.Ignored

  -- ---- a state
  module _ (k : ℕ) (said : n.Said) (sent : Sent ps (n.State m.journal.site.round k said)) where
    keeps : Settles w (d.settled w (d.keeping of_wire k said.deltas)) (n.settled w (n.keeping m k said))
    unfolding node_definitions wire_definitions
    keeps =
        subst (λ (states : List (Option (List ℤ))). Settles w (d.settled w (record of_wire { states = states })) (n.settled w (n.keeping m k said))) (map_set wired_state m.states k (Some said)) (settles w (slice_set ns i (n.keeping m k said)) (ps ++ []) (keep_holds w ns ps accepted holds i m here (n.State m.journal.site.round k said) sent refl m.journal.site.round k said refl) (same_packets ps plain) i (n.keeping m k said) (get_set_same ns i m (n.keeping m k said) here) (record { running = own.running; stopped = own.stopped }) left made lefts (same_counted w made m (n.keeping m k said) counted refl refl))

    state_agrees : (t : Bool) → Agrees w ps (cond t (d.stays of_wire d.Ignored) (record { node = d.settled w (d.keeping of_wire k said.deltas); sends = []; step = d.Taken })) (cond t (n.stays m n.Ignored) (record { node = n.settled w (n.keeping m k said); sends = []; step = n.closing_step w (n.keeping m k said) }))
    state_agrees true = idle d.Ignored n.Ignored
    state_agrees false = record { node = keeps.node; sends = refl; own = keeps.own; counted = keeps.counted; packets = same_packets ps plain }

  -- ---- a stop
  module _ (b : Breach) (sent : Sent ps (n.Stop b)) (round : b.round ≡ m.journal.site.round) (free : n.is_stopped m.mode ≡ true → ⊥) where
    abbrev m' : n.Node
    m' = n.withdrawing m b

    abbrev n' : n.Node
    n' = n.stopped m' b

    abbrev state : n.Packet
    state = n.State m.journal.site.round m.journal.site.number (n.said_by m')

    state_plain : IsPlainState (ps ++ state ∷ []) m.journal.site.round m.journal.site.number (n.said_by m')
    unfolding node_definitions
    state_plain = record {
      by = b;
      stop = sent_left ps (state ∷ []) (n.Stop b) sent;
      round = round;
      none = withdrawn_none b m.journal.site.number m.journal.site.deltas m.queue;
    }

    abbrev IsPlainPacket : n.Packet → Type 0
    IsPlainPacket (n.Want a) = Unit {0}
    IsPlainPacket (n.Stop a) = Unit {0}
    IsPlainPacket (n.State r k said) = IsPlainState (ps ++ state ∷ []) r k said

    packets_then : ArePlain (ps ++ state ∷ [])
    packets_then =
        plain_with ps (state ∷ []) plain (λ r k said h. subst IsPlainPacket (sent_one state (n.State r k said) h) state_plain)

    own_then : IsPlainNode n'
    unfolding node_definitions
    own_then = record {
      running = λ e. absurd (cc);
      stopped = λ u e. let same : b ≡ u = let f : Stopped b ≡ Stopped u = e in cc in
          subst (λ a. drop (cond (m.journal.site.number == a.site) 1 0) (n.withdrawing m b).queue ≡ []) same (drop_take (cond (m.journal.site.number == b.site) 1 0) m.queue);
    }

    stops : Settles w (d.settled w (d.stopped of_wire (wired_breach b))) (n.settled w n')
    unfolding node_definitions wire_definitions
    stops =
        subst (λ (states : List (Option (List ℤ))). Settles w (d.settled w (record of_wire { mode = variant.Stopped (wired_breach b); states = states })) (n.settled w n')) (map_set wired_state m.states m.journal.site.number (Some (n.said_by m'))) (settles w (slice_set ns i n') (ps ++ state ∷ []) (withdraw_holds w ns ps accepted holds i m here b sent round free) packets_then i n' (get_set_same ns i m n' here) own_then left made lefts (less_counted w made m n' counted (cond (m.journal.site.number == b.site) 1 0) refl refl))

    stop_agrees : Agrees w ps (record { node = d.settled w (d.stopped of_wire (wired_breach b)); sends = d.State m.journal.site.round m.journal.site.number m.journal.site.deltas ∷ []; step = d.Taken }) (record { node = n.settled w n'; sends = state ∷ []; step = n.closing_step w n' })
    unfolding node_definitions
    stop_agrees = record { node = stops.node; sends = refl; own = stops.own; counted = stops.counted; packets = packets_then }

  -- ---- any packet that was sent
  comes_want : (b : Breach) (t : Bool) → Agrees w ps (cond t (d.taken w of_wire (d.Want (wired_breach b))) (d.stays of_wire d.Ignored)) (cond t (n.taken w m (n.Want b)) (n.stays m n.Ignored))
  unfolding node_definitions wire_definitions
  comes_want b true =
      want_agrees b ((m.journal.site.number == (m.journal.site.round % sites_of w)) && not (is_some m.decided))
  comes_want b false = idle d.Ignored n.Ignored

  comes_state : (r k : ℕ) (said : n.Said) → Sent ps (n.State r k said) → (t : Bool) → (r == m.journal.site.round) ≡ t → Agrees w ps (cond t (d.taken w of_wire (d.State r k said.deltas)) (d.stays of_wire d.Ignored)) (cond t (n.taken w m (n.State r k said)) (n.stays m n.Ignored))
  unfolding node_definitions wire_definitions
  comes_state r k said sent true e =
      subst (λ t. Agrees w ps (cond t (d.stays of_wire d.Ignored) (record { node = d.settled w (d.keeping of_wire k said.deltas); sends = []; step = d.Taken })) (n.taken w m (n.State r k said))) (sym (has_same m.states k)) (state_agrees k said (subst (λ a. Sent ps (n.State a k said)) (eqb-true r m.journal.site.round e) sent) (n.has_state m.states k))
  comes_state r k said sent false e = idle d.Ignored n.Ignored

  module _ (b : Breach) (sent : Sent ps (n.Stop b)) where
    abbrev dstop : d.Reaction
    dstop =
        record { node = d.settled w (d.stopped of_wire (wired_breach b)); sends = d.State m.journal.site.round m.journal.site.number m.journal.site.deltas ∷ []; step = d.Taken }

    taken_is : (b.round == m.journal.site.round) ≡ true → n.is_stopped m.mode ≡ false → n.received w (n.Stop b) (n.withdrawing m b) ≡ record { node = n.settled w (n.stopped (n.withdrawing m b) b); sends = n.State m.journal.site.round m.journal.site.number (n.said_by (n.withdrawing m b)) ∷ []; step = n.closing_step w (n.stopped (n.withdrawing m b) b) }
    unfolding node_definitions
    taken_is same free =
        cond-true (b.round == m.journal.site.round) (n.taken w (n.withdrawing m b) (n.Stop b)) (n.stays (n.withdrawing m b) n.Ignored) same
        ∙ cond-false (n.is_stopped m.mode) (n.stays (n.withdrawing m b) n.Ignored) (record { node = n.settled w (n.stopped (n.withdrawing m b) b); sends = n.State m.journal.site.round m.journal.site.number (n.said_by (n.withdrawing m b)) ∷ []; step = n.closing_step w (n.stopped (n.withdrawing m b) b) }) free

    again_is : n.is_stopped m.mode ≡ true → n.taken w m (n.Stop b) ≡ n.stays m n.Ignored
    unfolding node_definitions
    again_is stopped =
        cond-true (n.is_stopped m.mode) (n.stays m n.Ignored) (record { node = n.settled w (n.stopped m b); sends = n.State m.journal.site.round m.journal.site.number (n.said_by m) ∷ []; step = n.closing_step w (n.stopped m b) }) stopped

    ignored_is : (t : Bool) → (b.round == m.journal.site.round) ≡ t → (n.taken w m (n.Stop b) ≡ n.stays m n.Ignored) → n.received w (n.Stop b) m ≡ n.stays m n.Ignored
    unfolding node_definitions
    ignored_is true e again =
        cond-true (b.round == m.journal.site.round) (n.taken w m (n.Stop b)) (n.stays m n.Ignored) e ∙ again
    ignored_is false e again = cond-false (b.round == m.journal.site.round) (n.taken w m (n.Stop b)) (n.stays m n.Ignored) e

    other_is : (b.round == m.journal.site.round) ≡ false → n.received w (n.Stop b) m ≡ n.stays m n.Ignored
    unfolding node_definitions
    other_is e = cond-false (b.round == m.journal.site.round) (n.taken w m (n.Stop b)) (n.stays m n.Ignored) e

    comes_stop : (t u : Bool) → (b.round == m.journal.site.round) ≡ t → n.is_stopped m.mode ≡ u → Agrees w ps (cond t (cond u (d.stays of_wire d.Ignored) dstop) (d.stays of_wire d.Ignored)) (n.received w (n.Stop b) (cond (t && not u) (n.withdrawing m b) m))
    comes_stop true true e f =
        subst (Agrees w ps (d.stays of_wire d.Ignored)) (sym (ignored_is true e (again_is f))) (idle d.Ignored n.Ignored)
    comes_stop true false e f =
        subst (Agrees w ps dstop) (sym (taken_is e f)) (stop_agrees b sent (eqb-true b.round m.journal.site.round e) (λ g. let h : true ≡ false = sym g ∙ f in cc))
    comes_stop false true e f = subst (Agrees w ps (d.stays of_wire d.Ignored)) (sym (other_is e)) (idle d.Ignored n.Ignored)
    comes_stop false false e f = subst (Agrees w ps (d.stays of_wire d.Ignored)) (sym (other_is e)) (idle d.Ignored n.Ignored)

  pub comes : (p : n.Packet) → Sent ps p → Agrees w ps (d.received w (wired_packet p) of_wire) (n.received w p (n.withdrawn p m))
  unfolding node_definitions wire_definitions
  comes (n.Want b) sent = comes_want b (b.round == m.journal.site.round)
  comes (n.State r k said) sent = comes_state r k said sent (r == m.journal.site.round) refl
  comes (n.Stop b) sent =
      subst (λ u. Agrees w ps (cond (b.round == m.journal.site.round) (cond u (d.stays of_wire d.Ignored) (dstop b sent)) (d.stays of_wire d.Ignored)) (n.received w (n.Stop b) (n.withdrawn (n.Stop b) m))) (sym (stopped_same m.mode)) (comes_stop b sent (b.round == m.journal.site.round) (n.is_stopped m.mode) refl refl)
