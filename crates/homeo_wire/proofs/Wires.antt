-- Nodes and packets that events have led to: what holds of each node, and what an event makes of them.
use Rattle.homeo_history.specs.Key.{definitions as history_definitions}
use Rattle.homeo_site.specs.Key.{definitions as site_definitions}
use Rattle.homeo_core.specs.Key.{definitions as core_definitions}
use Rattle.homeo_wire.specs.Key.{definitions}
use Rattle.std.proofs.Common.{◌≡◌, ℕ, suc, ◌<◌, ◌≤◌, nat_lt, eqb, List, [], ◌∷◌, ◌++◌, map, length, get_or, take, Bool, true, false, cond, ℤ, Option, Some, None, Result, Ok, Err, refl, sym, ap, subst, ◌∙◌, arith, slice_index_or, slice_set, FitsSigned}
use Rattle.std.specs.Int.{w64}
use Rattle.std.specs.Prelude.{All, slice_get, ◌&&◌, ◌==◌, IfOk, OnOk, OnErr}
use Rattle.std.proofs.lemmas.Bool.Decides.{nat_tests}
use Rattle.std.proofs.lemmas.List.{length-map}
use Rattle.std.proofs.lemmas.Option.{slice_get_read, slice_get_within}
use Rattle.std.proofs.lemmas.Simd.{map-map}
use Rattle.std.proofs.lemmas.Bool.{eq-eqb, eqb-true}
use mathlib.Core.Logic.{⊎_elim}
use Rattle.homeo_lemmas.proofs.Places.{All-get, get_map, map_set}
use Rattle.homeo_syntax.specs.Source as s
use Rattle.homeo_syntax.specs.SourceView.{plain_workload}
use Rattle.homeo_syntax.specs.declared.workload.Workload.{Workload}
use Rattle.homeo_meaning.specs.Acceptance.{IsAccepted}
use Rattle.homeo_meaning.specs.Bounds.{IsWithin}
use Rattle.homeo_meaning.specs.Initial.{initial}
use Rattle.homeo_meaning.specs.Schema.{schema_of}
use Rattle.homeo_plan.specs.Planned.{sites_of}
use Rattle.homeo_history.specs.Legal.{IsClientAt, call_count}
use Rattle.homeo_history.proofs.ClientAnswers.{client_at, one_site}
use Rattle.homeo_history.proofs.Exists.{client_lt}
use Rattle.homeo_assembly.proofs.ClientsAtSites.{client_below}
use Rattle.homeo_syntax.specs.Listed.{Listed}
use Rattle.homeo_plan.specs.declared.treaty.Broken.{Broken}
use Rattle.homeo_history.proofs.Lists.{index_set_same, index_set_other}
use Rattle.homeo_history.specs.History.{History}
use Rattle.homeo_site.specs.SiteState.{SiteState, step_finding}
use Rattle.homeo_core.specs.Joined.{gathered}
use Rattle.homeo_core.proofs.GatheredSites.{all_set}
use Rattle.homeo_core.proofs.InRounds.{all_fit}
use Rattle.homeo_core.proofs.OpenRound.{first_within, whole_within}
use Rattle.homeo_wire.specs.declared.breach.Breach.{Breach}
use Rattle.homeo_wire.specs.declared.breach.Mode.{Mode}
use Rattle.homeo_wire.specs.declared.breach.Mode.TheVariants.{Running, Waiting, Stopped}
use Rattle.homeo_wire.specs.declared.events.Event.{Event}
use Rattle.homeo_wire.specs.declared.events.Event.TheVariants.{Call, Deliver}
use Rattle.homeo_wire.specs.declared.events.Packet.{Packet}
use Rattle.homeo_wire.specs.declared.events.Step.{Step}
use Rattle.homeo_wire.specs.declared.node.Node.{Node}
use Rattle.homeo_wire.specs.inner.Ready.{CanTake, IsFrom, IsReady, counted_by}
use Rattle.homeo_wire.specs.inner.Reactions.{IsReaction}
use Rattle.homeo_wire.specs.inner.Standing.{IsNode, IsWire, LastFits, IsOwn, CanRead}
use Rattle.homeo_wire.specs.Laws.{HasOneBase}
use Rattle.homeo_wire.specs.Nodes as n
use Rattle.homeo_wire.specs.Read.{last_round, sites_in, journals, history_in, counts_in}
use Rattle.homeo_wire.specs.WireView.{WireValue, plain_packet, plain_step, plain_left, plain_journal, plain_node, world_of}
use Rattle.homeo_wire.proofs.Courses.{caught_up, up_here, up_behind, sites_then}
use Rattle.homeo_wire.proofs.Happening.{IsHeld}
use Rattle.homeo_wire.proofs.NodeViews.{idle_is, received_other, received_own}
use Rattle.homeo_wire.proofs.Places.{map_set_same}
use Rattle.homeo_wire.proofs.Reading.{read_is, counts_are, last_is, first_then, base_up}
use Rattle.homeo_wire.proofs.Ready.{ready, can_take}
use Rattle.homeo_wire.proofs.Sending.{Sent, sent_at}
use Rattle.homeo_wire.proofs.Settling.{journals_of, IsBehind, up_or_behind}
use Rattle.homeo_wire.proofs.Standing.{reached_holds, one_base}

-- ---- lists of events
pub after_append : (w : s.Workload) (events more : List Event) (x : n.World) → n.after w (events ++ more) x ≡ n.after w more (n.after w events x)
unfolding definitions
after_append w [] more x = refl
after_append w (e ∷ events) more x = after_append w events more (n.happens w x e).world

-- ---- a node reacts
module _ (nodes : List Node) (before after : List Packet) (i : ℕ) (x x' : Node) (f : n.Node → n.Reaction) (s : Step) (here : slice_get nodes i ≡ Some x) (r : IsReaction (f (plain_node x)) x' before after s) where
  there : slice_get (world_of nodes before).nodes i ≡ Some (plain_node x)
  unfolding definitions
  there = get_map plain_node nodes i x here

  pub reacted_world : world_of (slice_set nodes i x') after ≡ (n.at_node (world_of nodes before) i f).world
  unfolding definitions
  reacted_world =
      (λ k. record { nodes = (map_set_plain k); packets = r.sends k })
      ∙ ap (λ o. (n.reacts (world_of nodes before) i o f).world) (sym there)
    where
      map_set_plain : map plain_node (slice_set nodes i x') ≡ slice_set (map plain_node nodes) i (f (plain_node x)).node
      map_set_plain = map_set plain_node nodes i x' ∙ ap (slice_set (map plain_node nodes) i) r.node

  pub reacted_step : plain_step s ≡ (n.at_node (world_of nodes before) i f).step
  unfolding definitions
  reacted_step = r.answer ∙ ap (λ o. (n.reacts (world_of nodes before) i o f).step) (sym there)

pub call_is : (w : s.Workload) (x : n.World) (client home : ℕ) → IsClientAt w home client → n.happens w x (Call client) ≡ n.at_node x home (n.called w client)
unfolding definitions history_definitions
call_is w x client home own = ap (n.calls w x client) own

pub delivery_is : (w : s.Workload) (x : n.World) (site k : ℕ) (p : n.Packet) → slice_get x.packets k ≡ Some p → n.happens w x (Deliver site k) ≡ n.at_node x site (n.received w p)
unfolding definitions
delivery_is w x site k p here = ap (n.delivers w x site) here

-- ---- nodes and packets that events have led to
module _ (work : Workload) (nodes : List Node) (packets : List Packet) (wire : IsWire work nodes packets) where
  abbrev w : s.Workload
  w = plain_workload work

  abbrev x : n.World
  x = world_of nodes packets

  pub held : IsHeld w x
  held = subst (IsHeld w) (sym wire.reached) (reached_holds w wire.events wire.accepted)

  pub one_base_here : HasOneBase x
  unfolding definitions
  one_base_here = subst HasOneBase (sym wire.reached) (one_base w wire.events wire.accepted)

  pub count_is : length nodes ≡ sites_of w
  unfolding definitions
  count_is = sym (length-map nodes plain_node) ∙ held.talk.count

  -- a node
  module _ (i : ℕ) (y : Node) (here : slice_get nodes i ≡ Some y) where
    plain_here : slice_get x.nodes i ≡ Some (plain_node y)
    unfolding definitions
    plain_here = get_map plain_node nodes i y here

    pub ready_at : IsReady w i (plain_node y)
    ready_at = ready w x.nodes x.packets wire.accepted held i (plain_node y) plain_here

    pub node_at : IsNode work y
    node_at = All-get (IsNode work) nodes i y wire.each here

    pub takes_at : (k : ℕ) (p : Packet) → slice_get packets k ≡ Some p → n.round_of (plain_packet p) ≡ y.site.state.round → CanTake w (plain_node y) (plain_packet p)
    unfolding definitions
    takes_at k p at same =
        can_take w x.nodes x.packets wire.accepted held i (plain_node y) plain_here (plain_packet p) (sent_at x.packets k (plain_packet p) (get_map plain_packet packets k p at)) same

  pub is_from : (p : n.Packet) → Sent x.packets p → IsFrom (sites_of w) p
  unfolding definitions
  is_from (n.Want b) sent = tt
  is_from (n.Stop b) sent = tt
  is_from (n.State r k d) sent =
      let since = held.talk.packets (n.State r k d) sent in
      subst (λ m. k < m) held.talk.count (slice_get_within x.nodes k since.node since.here)

  pub from_at : (k : ℕ) (p : Packet) → slice_get packets k ≡ Some p → IsFrom (sites_of w) (plain_packet p)
  unfolding definitions
  from_at k p at = is_from (plain_packet p) (sent_at x.packets k (plain_packet p) (get_map plain_packet packets k p at))

  -- ---- after an event
  pub wire_after : (e : Event) (nodes' : List Node) (packets' : List Packet) → All (IsNode work) nodes' → world_of nodes' packets' ≡ (n.happens w x e).world → IsWire work nodes' packets'
  unfolding definitions
  wire_after e nodes' packets' each is = record {
    accepted = wire.accepted;
    each = each;
    events = wire.events ++ e ∷ [];
    reached = is ∙ ap (λ y. (n.happens w y e).world) wire.reached ∙ sym (after_append w wire.events (e ∷ []) (n.at_start w));
  }

  pub wire_same : (nodes' : List Node) (packets' : List Packet) → All (IsNode work) nodes' → world_of nodes' packets' ≡ x → IsWire work nodes' packets'
  wire_same nodes' packets' each is = record { accepted = wire.accepted; each = each; events = wire.events; reached = is ∙ wire.reached }

-- ---- a place
-- the node that stands at it
pub record Stands (work : Workload) (nodes : List Node) (i : ℕ) (p : Node) : Type 0 where
  pub here : slice_get nodes i ≡ Some p
  pub ready : IsReady (plain_workload work) i (plain_node p)
  pub node : IsNode work p
  pub rounds : length p.left.items ≡ p.site.state.round

pub node_stands : (work : Workload) (nodes : List Node) (packets : List Packet) → IsWire work nodes packets → (i : ℕ) (p : Node) → i < length nodes → p ≡ get_or nodes i p → Stands work nodes i p
unfolding definitions
node_stands work nodes packets wire i p lt is =
    let here : slice_get nodes i ≡ Some p = slice_get_read nodes _ i p refl lt is in
    let ready = ready_at work nodes packets wire i p here in
    record {
      here = here;
      ready = ready;
      node = node_at work nodes packets wire i p here;
      rounds = sym (length-map p.left.items plain_left) ∙ ready.rounds;
    }

-- the site of a client
pub home_below : (work : Workload) (nodes : List Node) (packets : List Packet) → IsWire work nodes packets → (client home : ℕ) → IsClientAt (plain_workload work) home client → home < length nodes
home_below work nodes packets wire client home own =
    subst (λ m. home < m) (sym (count_is work nodes packets wire)) (client_below (plain_workload work) home client wire.accepted own)

-- the value that contracts see
abbrev value_of : Workload → List Node → List Packet → WireValue
value_of work nodes packets = record { work = work; world = world_of nodes packets }

module _ (work : Workload) (nodes : List Node) (packets : List Packet) (wire : IsWire work nodes packets) (v : WireValue) (seen : value_of work nodes packets ≡ v) where
  pub site_below : (i : ℕ) → i < sites_of (plain_workload v.work) → i < length nodes
  site_below i lt =
      subst (λ m. i < m) (sym (count_is work nodes packets wire)) (subst (λ (u : WireValue). i < sites_of (plain_workload u.work)) (sym seen) lt)

  pub packet_below : (k : ℕ) → k < length v.world.packets → k < length packets
  unfolding definitions
  packet_below k lt =
      subst (λ m. k < m) (length-map packets plain_packet) (subst (λ (u : WireValue). k < length u.world.packets) (sym seen) lt)

  pub packet_at : (k : ℕ) (q : Packet) → k < length v.world.packets → q ≡ get_or packets k q → slice_get packets k ≡ Some q
  packet_at k q lt is = slice_get_read packets _ k q refl (packet_below k lt) is

-- ---- how many calls of a client stand in the history
module _ (w : s.Workload) (x : n.World) (accepted : IsAccepted w) (h : IsHeld w x) where
  abbrev js : List n.Journal
  js = journals_of x.nodes

  long : length js ≡ sites_of w
  long = length-map x.nodes (λ (m : n.Node). m.journal) ∙ h.talk.count

  counts_here : h.counts ≡ counts_in w (history_in x).rounds
  unfolding definitions core_definitions
  counts_here =
      counts_are w js x.packets h.book h.turn h.counts h.course long
      ∙ ap (λ g. counts_in w g.rounds) (sym (read_is w js x.packets h.book h.turn h.counts h.course long))

  module _ (client home : ℕ) (own : IsClientAt w home client) (m : n.Node) (here : slice_get x.nodes home ≡ Some m) where
    abbrev made : List ℕ
    made = m.journal.made

    stands : slice_get js home ≡ Some m.journal
    stands = get_map (λ (k : n.Node). k.journal) x.nodes home m here

    then_made : slice_index_or (caught_up w (length h.book.closed) h.turn m.journal).made client 0 ≡ slice_index_or (counts_in w (history_in x).rounds) client 0
    then_made = (h.course.journals home m.journal stands).made client own ∙ ap (λ l. slice_index_or l client 0) counts_here

    last : last_round (journals x) ≡ length h.book.closed
    unfolding definitions
    last = last_is w js x.packets h.book h.turn h.counts h.course long

    -- where the node is in the last round
    up : m.journal.site.round ≡ length h.book.closed → (mode : Mode) → counted_by (last_round (journals x)) client m mode ≡ slice_index_or made client 0
    unfolding definitions
    up e Running = refl
    up e Waiting = refl
    up e (Stopped b) =
        let no : nat_lt m.journal.site.round (last_round (journals x)) ≡ false = by (nat_lt m.journal.site.round (last_round (journals x))) refl in
        ap (λ t. cond (t && (b.call.client == client)) b.call.seq (slice_index_or made client 0)) no
      where
        by : (t : Bool) → nat_lt m.journal.site.round (last_round (journals x)) ≡ t → nat_lt m.journal.site.round (last_round (journals x)) ≡ false
        by false f = f
        by true f = absurd (let same : m.journal.site.round ≡ last_round (journals x) = e ∙ sym last in let never : ⊥ = grind (arith, nat_tests) in never)

    -- where it is behind: the call that it is stopped by closes its round
    module _ (b : Breach) (stop : m.mode ≡ Stopped b) where
      stop_sent : Sent x.packets (n.Stop b) × (b.round ≡ m.journal.site.round)
      stop_sent = (h.talk.nodes home m here).stopped b stop

      at_site : IsClientAt w b.site b.call.client
      at_site =
          let want = (h.talk.packets (n.Stop b) stop_sent.0).0 in
          client_at w b.call b.site ((h.talk.packets (n.Want b) want).0).at_site

      many : length made ≡ length w.clients
      many = (ready w x.nodes x.packets accepted h home m here).made

      closed_at : (t u : Bool) → (b.site == m.journal.site.number) ≡ t → (b.call.client == client) ≡ u → cond u b.call.seq (slice_index_or made client 0) ≡ slice_index_or (cond t (slice_set made b.call.client b.call.seq) made) client 0
      closed_at true true e f =
          let same = eqb-true b.call.client client f in
          sym (ap (λ k. slice_index_or (slice_set made k b.call.seq) client 0) same ∙ index_set_same made client b.call.seq 0 (subst (λ k. client < k) (sym many) (client_lt w home client own)))
      closed_at true false e f = sym (index_set_other made b.call.client client b.call.seq 0 (λ same. not_both (sym same) f))
        where
          not_both : b.call.client ≡ client → (b.call.client == client) ≡ false → ⊥
          not_both same f = let g : eqb b.call.client client ≡ true = eq-eqb b.call.client client same in cc
      closed_at false true e f = absurd (let same = eqb-true b.call.client client f in
          let site : b.site ≡ home = one_site w client b.site home (subst (IsClientAt w b.site) same at_site) own in
          let is : b.site ≡ m.journal.site.number = site ∙ sym (h.talk.nodes home m here).numbered in
          let g : eqb b.site m.journal.site.number ≡ true = eq-eqb b.site m.journal.site.number is in
          let never : ⊥ = cc in
          never)
      closed_at false false e f = refl

      behind : suc m.journal.site.round ≡ length h.book.closed → b ≡ h.turn.breach → counted_by (last_round (journals x)) client m (Stopped b) ≡ slice_index_or (caught_up w (length h.book.closed) h.turn m.journal).made client 0
      unfolding definitions
      behind before is =
          let lt : nat_lt m.journal.site.round (last_round (journals x)) ≡ true = by (nat_lt m.journal.site.round (last_round (journals x))) refl in
          ap (λ t. cond (t && (b.call.client == client)) b.call.seq (slice_index_or made client 0)) lt
          ∙ closed_at (b.site == m.journal.site.number) (b.call.client == client) refl refl
          ∙ ap (λ u. slice_index_or (n.closed w u h.turn.states m.journal).made client 0) is
          ∙ ap (λ (j : n.Journal). slice_index_or j.made client 0) (sym (up_behind w (length h.book.closed) h.turn m.journal (λ e. absurd (omega (arith, before, e)))))
        where
          by : (t : Bool) → nat_lt m.journal.site.round (last_round (journals x)) ≡ t → nat_lt m.journal.site.round (last_round (journals x)) ≡ true
          by true f = f
          by false f = absurd (let same : suc m.journal.site.round ≡ last_round (journals x) = before ∙ sym last in let never : ⊥ = grind (arith, nat_tests) in never)

    pub counted_is : counted_by (last_round (journals x)) client m m.mode ≡ slice_index_or (counts_in w (history_in x).rounds) client 0
    counted_is =
        ⊎_elim up_case behind_case (up_or_behind w x.nodes x.packets h.book h.turn h.counts h.talk h.course home m here)
      where
        up_case : m.journal.site.round ≡ length h.book.closed → counted_by (last_round (journals x)) client m m.mode ≡ slice_index_or (counts_in w (history_in x).rounds) client 0
        up_case e =
            up e m.mode
            ∙ ap (λ (j : n.Journal). slice_index_or j.made client 0) (sym (up_here w (length h.book.closed) h.turn m.journal e))
            ∙ then_made

        behind_case : IsBehind w x.nodes x.packets h.book h.turn h.counts h.talk h.course home m here → counted_by (last_round (journals x)) client m m.mode ≡ slice_index_or (counts_in w (history_in x).rounds) client 0
        behind_case g = by m.mode refl
          where
            by : (mode : Mode) → m.mode ≡ mode → counted_by (last_round (journals x)) client m mode ≡ slice_index_or (counts_in w (history_in x).rounds) client 0
            by Running e = absurd (let stopped = g.stopped in let not_it : n.is_stopped m.mode ≡ false = ap n.is_stopped e in cc)
            by Waiting e = absurd (let stopped = g.stopped in let not_it : n.is_stopped m.mode ≡ false = ap n.is_stopped e in cc)
            by (Stopped b) e =
                behind b e g.before (h.talk.one.stop b h.turn.breach (stop_sent b e).0 g.turn.stop ((stop_sent b e).1 ∙ sym g.turn.round_is))
                ∙ then_made

  pub counts_exist : (client : ℕ) → slice_index_or (counts_in w (history_in x).rounds) client 0 ≤ call_count w client
  unfolding history_definitions
  counts_exist client = subst (λ l. slice_index_or l client 0 ≤ call_count w client) counts_here (h.course.ordered.exist client)

  -- ---- the last database
  abbrev sites : List SiteState
  sites = sites_then w h.book h.turn js

  pub last_within : IsWithin (schema_of w) (history_in x).last
  unfolding definitions core_definitions
  last_within =
      subst (λ (g : History). IsWithin (schema_of w) g.last) (sym (read_is w js x.packets h.book h.turn h.counts h.course long)) (whole_within w (initial w) h.book sites accepted h.course.joined)

  pub last_fits : (i : ℕ) (j : n.Journal) → slice_get js i ≡ Some j → j.site.round ≡ last_round js → LastFits j.site.base j.site.round js
  unfolding definitions core_definitions
  last_fits i j here is m =
      let e : j.site.round ≡ length h.book.closed = is ∙ last_is w js x.packets h.book h.turn h.counts h.course long in
      let base : j.site.base ≡ h.book.base = base_up w js x.packets h.book h.turn h.counts h.course long i j here e in
      subst (All (FitsSigned w64)) (sym (ap (λ v. gathered v (sites_in j.site.round (take m js))) base ∙ ap (λ r. gathered h.book.base (sites_in r (take m js))) e ∙ first_then w js x.packets h.book h.turn h.counts h.course long m)) (all_fit w (gathered h.book.base (take m sites)) accepted (first_within w (initial w) h.book sites accepted h.course.joined m))

-- ---- what the history is read by
module _ (work : Workload) (nodes : List Node) (packets : List Packet) (wire : IsWire work nodes packets) where
  pub journals_here : journals (world_of nodes packets) ≡ map plain_journal nodes
  unfolding definitions
  journals_here = map-map (λ (m : n.Node). m.journal) plain_node nodes

  own_at : (i : ℕ) (y : Node) → slice_get nodes i ≡ Some y → IsOwn y
  unfolding definitions
  own_at i y here = record {
    rounds = sym (length-map y.left.items plain_left) ∙ (ready_at work nodes packets wire i y here).rounds;
    base_is = (node_at work nodes packets wire i y here).base_is;
  }

  pub can_read : CanRead nodes
  unfolding definitions
  can_read = record {
    own = own_at;
    fits = λ i y here is. let h = held work nodes packets wire in
        subst (LastFits y.site.state.base y.site.state.round) journals_here (last_fits (plain_workload work) (world_of nodes packets) wire.accepted h i (plain_journal y) (subst (λ js. slice_get js i ≡ Some (plain_journal y)) (sym journals_here) (get_map plain_journal nodes i y here)) (is ∙ ap last_round (sym journals_here)));
  }

-- ---- what an event has made of nodes and packets, by the answer
pub record HasHappened {E : Type 0} (work : Workload) (x : n.World) (e : Event) (nodes' : List Node) (packets' : List Packet) (r : Result Step E) : Type 0 where
  pub step : IfOk r (λ s. plain_step s ≡ (n.happens (plain_workload work) x e).step)
  pub world : OnOk r (world_of nodes' packets' ≡ (n.happens (plain_workload work) x e).world)
  pub unchanged : OnErr r (world_of nodes' packets' ≡ x)
  pub wire : IsWire work nodes' packets'

module _ (work : Workload) (nodes : List Node) (packets : List Packet) (wire : IsWire work nodes packets) (e : Event) (i : ℕ) (p : Node) (here : slice_get nodes i ≡ Some p) (f : n.Node → n.Reaction) (is : n.happens (plain_workload work) (world_of nodes packets) e ≡ n.at_node (world_of nodes packets) i f) where
  -- where nothing changes the view of the node
  same_nodes : (y : Node) (packets' : List Packet) → plain_node y ≡ plain_node p → packets' ≡ packets → world_of (slice_set nodes i y) packets' ≡ world_of nodes packets
  unfolding definitions
  same_nodes y packets' same sent = λ k. record { nodes = nodes_same k; packets = map plain_packet (sent k) }
    where
      nodes_same : map plain_node (slice_set nodes i y) ≡ map plain_node nodes
      nodes_same = map_set_same plain_node nodes i p y here same

  pub reacts_by : {E : Type 0} (r : Result Step E) (y : Node) (packets' : List Packet) → IfOk r (IsReaction (f (plain_node p)) y packets packets') → OnErr r (plain_node y ≡ plain_node p) → OnErr r (packets' ≡ packets) → IsNode work y → HasHappened work (world_of nodes packets) e (slice_set nodes i y) packets' r
  reacts_by (Ok s) y packets' reaction unchanged unsent node =
      let world = reacted_world nodes packets packets' i p y f s here reaction ∙ ap (λ (h : n.Happened). h.world) (sym is) in
      record {
        step = reacted_step nodes packets packets' i p y f s here reaction ∙ ap (λ (h : n.Happened). h.step) (sym is);
        world = world;
        unchanged = tt;
        wire = wire_after work nodes packets wire e (slice_set nodes i y) packets' (all_set (IsNode work) nodes i y wire.each node) world;
      }
  reacts_by (Err m) y packets' reaction unchanged unsent node =
      let same = same_nodes y packets' unchanged unsent in
      record {
        step = tt;
        world = tt;
        unchanged = same;
        wire = wire_same work nodes packets wire (slice_set nodes i y) packets' (all_set (IsNode work) nodes i y wire.each node) same;
      }

-- ---- a call
called_base : (w : s.Workload) (client : ℕ) (x : n.Node) → (n.called w client x).node.journal.site.base ≡ x.journal.site.base
unfolding definitions site_definitions
called_base w client x = by (n.is_running x.mode && nat_lt (slice_index_or x.journal.made client 0) (call_count w client))
  where
    tried_base : (o : Option Broken) → (n.tried w x (n.next_call x client) o).node.journal.site.base ≡ x.journal.site.base
    tried_base None = refl
    tried_base (Some broken) = refl

    by : (t : Bool) → (cond t (n.tried w x (n.next_call x client) (step_finding w x.journal.site (n.next_call x client))) (n.stays x n.Held)).node.journal.site.base ≡ x.journal.site.base
    by true = tried_base (step_finding w x.journal.site (n.next_call x client))
    by false = refl

module _ (work : Workload) (nodes : List Node) (packets : List Packet) (wire : IsWire work nodes packets) (client home : ℕ) (own : IsClientAt (plain_workload work) home client) (p : Node) (here : slice_get nodes home ≡ Some p) where
  pub call_own : IsClientAt (plain_workload p.site.work) p.site.state.number client
  unfolding definitions
  call_own =
      subst (λ (v : Workload). IsClientAt (plain_workload v) p.site.state.number client) (sym (node_at work nodes packets wire home p here).work_is) (subst (λ k. IsClientAt (plain_workload work) k client) (sym (ready_at work nodes packets wire home p here).number) own)

  pub call_made : client < length (plain_workload work).clients → client < length p.made.items
  unfolding definitions
  call_made lt = subst (λ k. client < k) (sym (ready_at work nodes packets wire home p here).made) lt

  node_of : {E : Type 0} (r : Result Step E) (y : Node) (packets' : List Packet) → IfOk r (IsReaction (n.called (plain_workload p.site.work) client (plain_node p)) y packets packets') → OnErr r (plain_node y ≡ plain_node p) → y.site.work ≡ p.site.work → y.base ≡ p.base → IsNode work y
  unfolding definitions
  node_of (Ok s) y packets' reaction unchanged same base = record {
    work_is = same ∙ (node_at work nodes packets wire home p here).work_is;
    base_is =
        ap (λ (d : Listed ℤ). d.items) base ∙ (node_at work nodes packets wire home p here).base_is
        ∙ sym (called_base (plain_workload p.site.work) client (plain_node p))
        ∙ ap (λ (x : n.Node). x.journal.site.base) (sym reaction.node);
  }
  node_of (Err m) y packets' reaction unchanged same base = record {
    work_is = same ∙ (node_at work nodes packets wire home p here).work_is;
    base_is =
        ap (λ (d : Listed ℤ). d.items) base ∙ (node_at work nodes packets wire home p here).base_is
        ∙ ap (λ (x : n.Node). x.journal.site.base) (sym unchanged);
  }

  pub call_happens : {E : Type 0} (r : Result Step E) (y : Node) (packets' : List Packet) → IfOk r (IsReaction (n.called (plain_workload p.site.work) client (plain_node p)) y packets packets') → OnErr r (plain_node y ≡ plain_node p) → OnErr r (packets' ≡ packets) → y.site.work ≡ p.site.work → y.base ≡ p.base → HasHappened work (world_of nodes packets) (Call client) (slice_set nodes home y) packets' r
  call_happens r y packets' reaction unchanged unsent same base =
      let is = (node_at work nodes packets wire home p here).work_is in
      reacts_by work nodes packets wire (Call client) home p here (n.called (plain_workload work) client) (call_is (plain_workload work) (world_of nodes packets) client home own) r y packets' (subst (λ (v : Workload). IfOk r (IsReaction (n.called (plain_workload v) client (plain_node p)) y packets packets')) is reaction) unchanged unsent (node_of r y packets' reaction unchanged same base)

-- ---- a delivery
module _ (work : Workload) (nodes : List Node) (packets : List Packet) (wire : IsWire work nodes packets) (site k : ℕ) (q : Packet) (sent : slice_get packets k ≡ Some q) (p : Node) (here : slice_get nodes site ≡ Some p) where
  delivered : n.happens (plain_workload work) (world_of nodes packets) (Deliver site k) ≡ n.at_node (world_of nodes packets) site (n.received (plain_workload work) (plain_packet q))
  unfolding definitions
  delivered = delivery_is (plain_workload work) (world_of nodes packets) site k (plain_packet q) (get_map plain_packet packets k q sent)

  -- of another round
  pub other_round : {E : Type 0} (s : Step) → plain_step s ≡ n.Ignored → (n.round_of (plain_packet q) ≡ p.site.state.round → ⊥) → HasHappened {E = E} work (world_of nodes packets) (Deliver site k) (slice_set nodes site p) packets (Ok s)
  unfolding definitions
  other_round s answer other =
      reacts_by work nodes packets wire (Deliver site k) site p here (n.received (plain_workload work) (plain_packet q)) delivered (Ok s) p packets (idle_is (n.received (plain_workload work) (plain_packet q) (plain_node p)) p p packets s n.Ignored (received_other (plain_workload work) (plain_packet q) (plain_node p) other) refl answer) tt tt (node_at work nodes packets wire site p here)

  -- of the node's round
  pub own_round : {E : Type 0} (r : Result Step E) (y : Node) (packets' : List Packet) (copy : Packet) → plain_packet copy ≡ plain_packet q → n.round_of (plain_packet q) ≡ p.site.state.round → IfOk r (IsReaction (n.taken (plain_workload work) (plain_node p) (plain_packet copy)) y packets packets') → OnErr r (plain_node y ≡ plain_node p) → OnErr r (packets' ≡ packets) → y.site.work ≡ p.site.work → y.base.items ≡ y.site.state.base → HasHappened work (world_of nodes packets) (Deliver site k) (slice_set nodes site y) packets' r
  unfolding definitions
  own_round r y packets' copy same round reaction unchanged unsent work_same base =
      reacts_by work nodes packets wire (Deliver site k) site p here (n.received (plain_workload work) (plain_packet q)) delivered r y packets' (subst (λ x. IfOk r (IsReaction x y packets packets')) (ap (n.taken (plain_workload work) (plain_node p)) same ∙ sym (received_own (plain_workload work) (plain_packet q) (plain_node p) round)) reaction) unchanged unsent (record { work_is = work_same ∙ (node_at work nodes packets wire site p here).work_is; base_is = base })

-- the start
pub begun_wire : (work : Workload) (nodes : List Node) → IsAccepted (plain_workload work) → map plain_node nodes ≡ (n.at_start (plain_workload work)).nodes → All (IsNode work) nodes → IsWire work nodes []
unfolding definitions
begun_wire work nodes accepted are each = record { accepted = accepted; each = each; events = []; reached = λ k. record { nodes = are k; packets = [] } }

-- the node that stands at a place
pub read_at : (nodes : List Node) (packets : List Packet) (i : ℕ) (p : Node) (m : n.Node) → slice_get nodes i ≡ Some p → slice_get (world_of nodes packets).nodes i ≡ Some m → plain_node p ≡ m
unfolding definitions
read_at nodes packets i p m here there = let is = get_map plain_node nodes i p here in cc

-- a node in its own place
pub same_world : (nodes : List Node) (packets : List Packet) (i : ℕ) (p : Node) → slice_get nodes i ≡ Some p → world_of (slice_set nodes i p) packets ≡ world_of nodes packets
unfolding definitions
same_world nodes packets i p here = λ k. record { nodes = map_set_same plain_node nodes i p p here refl k; packets = map plain_packet packets }
