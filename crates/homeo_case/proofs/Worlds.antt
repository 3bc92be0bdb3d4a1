-- All nodes of the wire are nodes that are asked calls.
use Rattle.homeo_history.specs.Key.{definitions as history_definitions}
use Rattle.homeo_nodes.specs.Key.{definitions as node_definitions}
use Rattle.homeo_wire.specs.Key.{definitions as wire_definitions}
use Rattle.std.proofs.Common.{◌≡◌, ℕ, zero, suc, ◌<◌, nat_lt, List, [], ◌∷◌, ◌++◌, map, length, replicate, Bool, true, false, cond, Option, Some, None, refl, sym, ap, subst, ◌∙◌, arith, slice_set, slice_index_or}
use Rattle.std.specs.Prelude.{slice_get, option_map, ◌&&◌}
use Rattle.std.specs.List.{range_with_len}
use Rattle.std.proofs.lemmas.Bool.Decides.{nat_tests}
use Rattle.std.proofs.lemmas.List.{append-nil, map-append, length-map}
use Rattle.std.proofs.lemmas.Option.{slice_get-map, slice_get_within}
use Rattle.std.proofs.lemmas.Bool.{cases_eq, cond-true}
use mathlib.Core.Logic.{⊎_elim}
use Rattle.homeo_lemmas.proofs.Places.{one_placed, set_itself}
use Rattle.homeo_syntax.specs.Source as s
use Rattle.homeo_meaning.specs.declared.call.CallId.{CallId}
use Rattle.homeo_meaning.specs.Acceptance.{IsAccepted}
use Rattle.homeo_plan.specs.Planned.{sites_of}
use Rattle.homeo_history.specs.Legal.{IsClientAt, client_site, call_count}
use Rattle.homeo_history.proofs.Exists.{client_lt}
use Rattle.homeo_history.proofs.Lists.{get_some, get_set_same, get_set_other, length_set, get_map_back}
use Rattle.homeo_site.specs.SiteState.{step_finding}
use Rattle.homeo_nodes.specs.declared.breach.Mode.TheVariants.{Running, Stopped}
use Rattle.homeo_nodes.specs.Nodes as n
use Rattle.homeo_nodes.proofs.Happening.{IsHeld, events_hold}
use Rattle.homeo_nodes.specs.Ordered.{AskedInOrder}
use Rattle.homeo_nodes.proofs.Ordered.{legal_where_ordered}
use Rattle.homeo_nodes.proofs.Places.{set_twice}
use Rattle.homeo_nodes.proofs.Sending.{sent_at}
use Rattle.homeo_nodes.proofs.Starting.{start_holds}
use Rattle.homeo_wire.specs.declared.events.Event.{Event}
use Rattle.homeo_wire.specs.declared.events.Event.TheVariants.{Call, Deliver}
use Rattle.homeo_wire.specs.Nodes as d
use Rattle.homeo_case.specs.Case.{wired_packet, closed_left, wired, IsWired, AreWired, LeadsTo, IsCase}
use Rattle.homeo_case.proofs.Counting.{IsNext, IsCounted, first_counted, counted_range}
use Rattle.homeo_case.proofs.Plain.{ArePlain, IsPlainNode}
use Rattle.homeo_case.proofs.Reactions.{running_same, Agrees, taken_on, tried_agrees, comes, none_kept}

record Meets (w : s.Workload) (x : d.World) (y : n.World) : Type 0 where
  pub are : AreWired x y
  pub held : IsHeld w y
  pub own : (i : ℕ) (m : n.Node) → slice_get y.nodes i ≡ Some m → IsPlainNode m
  pub counted : (i : ℕ) (v : d.Node) (m : n.Node) → slice_get x.nodes i ≡ Some v → slice_get y.nodes i ≡ Some m → IsCounted w v.journal.made m
  pub plain : ArePlain y.packets

abbrev then : n.World → ℕ → n.Reaction → n.World
then y i q = record { nodes = slice_set y.nodes i q.node; packets = y.packets ++ q.sends }

abbrev wire_then : d.World → ℕ → d.Reaction → d.World
wire_then x i r = record { nodes = slice_set x.nodes i r.node; packets = x.packets ++ r.sends }

-- ---- one node reacts in each
module _ (w : s.Workload) (x : d.World) (y : n.World) (h : Meets w x y) (i : ℕ) (v : d.Node) (m : n.Node) (there : slice_get x.nodes i ≡ Some v) (here : slice_get y.nodes i ≡ Some m) (r : d.Reaction) (q : n.Reaction) (agree : Agrees w y.packets r q) where
  wired_at : (k : ℕ) (a : d.Node) (b : n.Node) → slice_get (slice_set x.nodes i r.node) k ≡ Some a → slice_get (slice_set y.nodes i q.node) k ≡ Some b → IsWired a b
  wired_at k a b e f = ⊎_elim own (λ other. h.are.nodes k a b (sym (get_set_other x.nodes i k r.node other) ∙ e) (sym (get_set_other y.nodes i k q.node other) ∙ f)) (cases_eq k i)
    where
      own : k ≡ i → IsWired a b
      own same =
          let is : r.node ≡ a = one_placed (slice_set x.nodes i r.node) i r.node a (get_set_same x.nodes i v r.node there) (subst (λ j. slice_get (slice_set x.nodes i r.node) j ≡ Some a) same e) in
          let is' : q.node ≡ b = one_placed (slice_set y.nodes i q.node) i q.node b (get_set_same y.nodes i m q.node here) (subst (λ j. slice_get (slice_set y.nodes i q.node) j ≡ Some b) same f) in
          subst (λ z. IsWired z b) is (subst (IsWired r.node) is' agree.node)

  counted_at : (k : ℕ) (a : d.Node) (b : n.Node) → slice_get (slice_set x.nodes i r.node) k ≡ Some a → slice_get (slice_set y.nodes i q.node) k ≡ Some b → IsCounted w a.journal.made b
  counted_at k a b e f = ⊎_elim own (λ other. h.counted k a b (sym (get_set_other x.nodes i k r.node other) ∙ e) (sym (get_set_other y.nodes i k q.node other) ∙ f)) (cases_eq k i)
    where
      own : k ≡ i → IsCounted w a.journal.made b
      own same =
          let is : r.node ≡ a = one_placed (slice_set x.nodes i r.node) i r.node a (get_set_same x.nodes i v r.node there) (subst (λ j. slice_get (slice_set x.nodes i r.node) j ≡ Some a) same e) in
          let is' : q.node ≡ b = one_placed (slice_set y.nodes i q.node) i q.node b (get_set_same y.nodes i m q.node here) (subst (λ j. slice_get (slice_set y.nodes i q.node) j ≡ Some b) same f) in
          subst (λ (z : d.Node). IsCounted w z.journal.made b) is (subst (IsCounted w r.node.journal.made) is' agree.counted)

  own_at : (k : ℕ) (b : n.Node) → slice_get (slice_set y.nodes i q.node) k ≡ Some b → IsPlainNode b
  own_at k b f = ⊎_elim own (λ other. h.own k b (sym (get_set_other y.nodes i k q.node other) ∙ f)) (cases_eq k i)
    where
      own : k ≡ i → IsPlainNode b
      own same =
          subst IsPlainNode (one_placed (slice_set y.nodes i q.node) i q.node b (get_set_same y.nodes i m q.node here) (subst (λ j. slice_get (slice_set y.nodes i q.node) j ≡ Some b) same f)) agree.own

  reacted : IsHeld w (then y i q) → Meets w (wire_then x i r) (then y i q)
  reacted held = record {
    are = record {
      count = length_set x.nodes i r.node ∙ h.are.count ∙ sym (length_set y.nodes i q.node);
      nodes = wired_at;
      packets = ap (λ ps. ps ++ r.sends) h.are.packets ∙ ap (λ ps. map wired_packet y.packets ++ ps) agree.sends ∙ sym (map-append wired_packet y.packets q.sends);
    };
    held = held;
    own = own_at;
    counted = counted_at;
    plain = agree.packets;
  }

-- ---- the events that lead to the same
abbrev Leads : s.Workload → n.World → d.World → Type 0
Leads w y x' = (es : List n.Event) × Meets w x' (n.after w es y)

nothing : (w : s.Workload) (y : n.World) (x : d.World) → Meets w x y → Leads w y x
unfolding node_definitions
nothing w y x h = ([], h)

-- these events lead there
by_events : (w : s.Workload) (y z : n.World) (x : d.World) (es : List n.Event) → n.after w es y ≡ z → Meets w x z → Leads w y x
by_events w y z x es is h = (es, subst (Meets w x) (sym is) h)

held_then : (w : s.Workload) (y z : n.World) (es : List n.Event) → IsAccepted w → IsHeld w y → n.after w es y ≡ z → IsHeld w z
held_then w y z es accepted held is = subst (IsHeld w) is (events_hold w es y accepted held)

found : (x : d.World) (y : n.World) (i : ℕ) (v : d.Node) → AreWired x y → slice_get x.nodes i ≡ Some v → (m : n.Node) × (slice_get y.nodes i ≡ Some m)
found x y i v h e = get_some y.nodes i (subst (λ k. i < k) h.count (slice_get_within x.nodes i v e))

-- ---- a call
is_client_at : (w : s.Workload) (site client : ℕ) → client_site w client ≡ Some site → IsClientAt w site client
unfolding history_definitions
is_client_at w site client e = e

listed : (made count : ℕ) → nat_lt made count ≡ true → (nat_lt zero (suc made) && nat_lt (suc made) (suc count)) ≡ true
listed made count e =
    let a : nat_lt zero (suc made) ≡ true = grind (arith, nat_tests) in
    let b : nat_lt (suc made) (suc count) ≡ true = grind (arith, nat_tests) in
    ap (λ t. t && nat_lt (suc made) (suc count)) a ∙ b

module _ (w : s.Workload) (accepted : IsAccepted w) (x : d.World) (y : n.World) (h : Meets w x y) (client home : ℕ) (at : client_site w client ≡ Some home) (m : n.Node) (here : slice_get y.nodes home ≡ Some m) (left : List d.Left) (made : List ℕ) (there : slice_get x.nodes home ≡ Some (wired m left made)) (lefts : map closed_left left ≡ m.journal.left) where
  abbrev v : d.Node
  v = wired m left made

  abbrev call : CallId
  call = record { client = client; seq = suc (slice_index_or made client 0) }

  counted : IsCounted w made m
  counted = h.counted home v m there here

  next : IsNext w made call
  next = record { seq = refl; client = client_lt w home client (is_client_at w home client at) }

  -- a node that stays leaves all as it was
  held_still : Leads w y (wire_then x home (d.stays v d.Held))
  held_still =
      let nodes = set_itself x.nodes home v there in
      let packets = append-nil x.packets in
      subst (Leads w y) (ap (λ ns. record { nodes = ns; packets = x.packets }) (sym nodes) ∙ ap (λ ps. record { nodes = slice_set x.nodes home v; packets = ps }) (sym packets)) (nothing w y x h)

  module _ (running : n.is_running m.mode ≡ true) (more : nat_lt (slice_index_or made client 0) (call_count w client) ≡ true) where
    idle : m.queue ≡ []
    idle = (h.own home m here).running running

    abbrev m1 : n.Node
    m1 = taken_on w y.packets h.plain m left made lefts counted idle call next

    abbrev y1 : n.World
    y1 = record { nodes = slice_set y.nodes home m1; packets = y.packets ++ [] }

    abbrev q : n.Reaction
    q = n.tried w m1 call [] (step_finding w m.journal.site call)

    asked_is : n.asked call m ≡ record { node = m1; sends = []; step = n.Queued }
    unfolding node_definitions
    asked_is =
        cond-true (nat_lt (length m.queue) 64) (record { node = m1; sends = []; step = n.Queued }) (n.stays m n.Held) (ap (λ q. nat_lt (length q) 64) idle)

    place_is : n.place_of w y (n.Ask call) ≡ Some (record { site = home; input = n.Asked call })
    unfolding node_definitions
    place_is =
        ap (λ t. cond t (option_map (λ k. record { site = k; input = n.Asked call }) (client_site w client)) None) (listed (slice_index_or made client 0) (call_count w client) more)
        ∙ ap (option_map (λ k. record { site = k; input = n.Asked call })) at

    ask_is : (n.happens w y (n.Ask call)).world ≡ y1
    unfolding node_definitions
    ask_is =
        ap (λ a. (n.happens_at w y a).world) place_is
        ∙ ap (λ o. (n.reacts w y (record { site = home; input = n.Asked call }) o).world) here
        ∙ ap (then y home) asked_is

    queue_is : m1.queue ≡ call ∷ []
    queue_is = ap (λ cs. cs ++ call ∷ []) idle

    served_is : n.served w m1 ≡ q
    unfolding node_definitions
    served_is =
        cond-true (n.is_running m.mode) (n.served_by w m1 m1.queue) (n.stays m1 n.Held) running ∙ ap (n.served_by w m1) queue_is

    serve_is : (n.happens w y1 (n.Serve home)).world ≡ then y1 home q
    unfolding node_definitions
    serve_is =
        ap (λ o. (n.reacts w y1 (record { site = home; input = n.Served }) o).world) (get_set_same y.nodes home m m1 here) ∙ ap (then y1 home) served_is

    then_is : then y1 home q ≡ then y home q
    then_is =
        ap (λ ns. record { nodes = ns; packets = (y.packets ++ []) ++ q.sends }) (set_twice y.nodes home m1 q.node)
        ∙ ap (λ ps. record { nodes = slice_set y.nodes home q.node; packets = ps ++ q.sends }) (append-nil y.packets)

    both_are : n.after w (n.Ask call ∷ n.Serve home ∷ []) y ≡ then y home q
    unfolding node_definitions
    both_are = ap (λ z. (n.happens w z (n.Serve home)).world) ask_is ∙ serve_is ∙ then_is

    made_leads : Leads w y (wire_then x home (d.tried w v call (step_finding w m.journal.site call)))
    made_leads =
        by_events w y (then y home q) (wire_then x home (d.tried w v call (step_finding w m.journal.site call))) (n.Ask call ∷ n.Serve home ∷ []) both_are (reacted w x y h home v m there here (d.tried w v call (step_finding w m.journal.site call)) q (tried_agrees w y.packets h.plain m left made lefts counted idle call next (step_finding w m.journal.site call)) (held_then w y (then y home q) (n.Ask call ∷ n.Serve home ∷ []) accepted h.held both_are))

  calls_by : (t u : Bool) → n.is_running m.mode ≡ t → nat_lt (slice_index_or made client 0) (call_count w client) ≡ u → Leads w y (wire_then x home (cond (t && u) (d.tried w v call (step_finding w m.journal.site call)) (d.stays v d.Held)))
  calls_by true true e f = made_leads e f
  calls_by true false e f = held_still
  calls_by false true e f = held_still
  calls_by false false e f = held_still

  called_leads : Leads w y (wire_then x home (d.called w client v))
  unfolding wire_definitions
  called_leads =
      subst (λ t. Leads w y (wire_then x home (cond (t && nat_lt (slice_index_or made client 0) (call_count w client)) (d.tried w v call (step_finding w m.journal.site call)) (d.stays v d.Held)))) (sym (running_same m.mode)) (calls_by (n.is_running m.mode) (nat_lt (slice_index_or made client 0) (call_count w client)) refl refl)

module _ (w : s.Workload) (accepted : IsAccepted w) (x : d.World) (y : n.World) (h : Meets w x y) where
  calls_at : (client home : ℕ) → client_site w client ≡ Some home → (o : Option d.Node) → slice_get x.nodes home ≡ o → Leads w y (d.reacts x home o (d.called w client)).world
  unfolding wire_definitions
  calls_at client home at None e = nothing w y x h
  calls_at client home at (Some v) e =
      let m = found x y home v h.are e in
      let is = h.are.nodes home v m.0 e m.1 in
      subst (λ z. Leads w y (wire_then x home (d.called w client z))) (sym is.node) (called_leads w accepted x y h client home at m.0 m.1 is.left is.made (e ∙ ap Some is.node) is.left_is)

  call_leads : (client : ℕ) (o : Option ℕ) → client_site w client ≡ o → Leads w y (d.calls w x client o).world
  unfolding wire_definitions
  call_leads client None e = nothing w y x h
  call_leads client (Some home) e = calls_at client home e (slice_get x.nodes home) refl

  -- ---- a delivery
  module _ (site k : ℕ) (p : n.Packet) (sent : slice_get y.packets k ≡ Some p) where
    module _ (m : n.Node) (here : slice_get y.nodes site ≡ Some m) (left : List d.Left) (made : List ℕ) (there : slice_get x.nodes site ≡ Some (wired m left made)) (lefts : map closed_left left ≡ m.journal.left) where
      abbrev q' : n.Reaction
      q' = n.received w p (n.withdrawn p m)

      withdraw_is : n.after w (n.Withdraw site k ∷ []) y ≡ then y site q'
      unfolding node_definitions
      withdraw_is =
          ap (λ o. (n.happens_at w y (option_map (λ z. record { site = site; input = n.Withdrew z }) o)).world) sent
          ∙ ap (λ o. (n.reacts w y (record { site = site; input = n.Withdrew p }) o).world) here

      comes_leads : Leads w y (wire_then x site (d.received w (wired_packet p) (wired m left made)))
      comes_leads =
          by_events w y (then y site q') (wire_then x site (d.received w (wired_packet p) (wired m left made))) (n.Withdraw site k ∷ []) withdraw_is (reacted w x y h site (wired m left made) m there here (d.received w (wired_packet p) (wired m left made)) q' (comes w y.nodes y.packets accepted h.held h.plain site m here (h.own site m here) left made lefts (h.counted site (wired m left made) m there here) p (sent_at y.packets k p sent)) (held_then w y (then y site q') (n.Withdraw site k ∷ []) accepted h.held withdraw_is))

    comes_at : (o : Option d.Node) → slice_get x.nodes site ≡ o → Leads w y (d.reacts x site o (d.received w (wired_packet p))).world
    unfolding wire_definitions
    comes_at None e = nothing w y x h
    comes_at (Some v) e =
        let m = found x y site v h.are e in
        let is = h.are.nodes site v m.0 e m.1 in
        subst (λ z. Leads w y (wire_then x site (d.received w (wired_packet p) z))) (sym is.node) (comes_leads m.0 m.1 is.left is.made (e ∙ ap Some is.node) is.left_is)

  delivery_leads : (site k : ℕ) (o : Option n.Packet) → slice_get y.packets k ≡ o → Leads w y (d.delivers w x site (option_map wired_packet o)).world
  unfolding wire_definitions
  delivery_leads site k None e = nothing w y x h
  delivery_leads site k (Some p) e = comes_at site k p e (slice_get x.nodes site) refl

event_leads : (w : s.Workload) (x : d.World) (y : n.World) (e : Event) → IsAccepted w → Meets w x y → Leads w y (d.happens w x e).world
unfolding wire_definitions
event_leads w x y (Call client) accepted h = call_leads w accepted x y h client (client_site w client) refl
event_leads w x y (Deliver site k) accepted h =
    subst (λ o. Leads w y (d.delivers w x site o).world) (sym (ap (λ ps. slice_get ps k) h.are.packets ∙ slice_get-map wired_packet y.packets k)) (delivery_leads w accepted x y h site k (slice_get y.packets k) refl)

after_more : (w : s.Workload) (es fs : List n.Event) (y : n.World) → n.after w fs (n.after w es y) ≡ n.after w (es ++ fs) y
unfolding node_definitions
after_more w [] fs y = refl
after_more w (e ∷ es) fs y = after_more w es fs (n.happens w y e).world

events_lead : (w : s.Workload) (events : List Event) (x : d.World) (y : n.World) → IsAccepted w → Meets w x y → Leads w y (d.after w events x)
unfolding wire_definitions
events_lead w [] x y accepted h = nothing w y x h
events_lead w (e ∷ events) x y accepted h =
    let first = event_leads w x y e accepted h in
    let rest = events_lead w events (d.happens w x e).world (n.after w first.0 y) accepted first.1 in
    (first.0 ++ rest.0, subst (Meets w (d.after w events (d.happens w x e).world)) (after_more w first.0 rest.0 y) rest.1)

-- ---- the start
module _ (w : s.Workload) where
  abbrev wire_first : ℕ → d.Node
  wire_first site = d.in_round w (d.first_journal w site)

  first_wired : (site : ℕ) → IsWired (wire_first site) (n.first_node w site)
  unfolding wire_definitions node_definitions
  first_wired site = record {
    left = [];
    made = replicate (length w.clients) 0;
    node = ap (λ kept. record (wire_first site) { states = kept }) (none_kept (sites_of w));
    left_is = refl;
  }

  start_wired : (i : ℕ) (v : d.Node) (m : n.Node) → slice_get (map wire_first (range_with_len 0 (sites_of w))) i ≡ Some v → slice_get (map (n.first_node w) (range_with_len 0 (sites_of w))) i ≡ Some m → IsWired v m
  start_wired i v m e f =
      let a = get_map_back wire_first (range_with_len 0 (sites_of w)) i v e in
      let b = get_map_back (n.first_node w) (range_with_len 0 (sites_of w)) i m f in
      let same : a.0 ≡ b.0 = one_placed (range_with_len 0 (sites_of w)) i a.0 b.0 a.1.0 b.1.0 in
      subst (λ z. IsWired z m) a.1.1 (subst (IsWired (wire_first a.0)) b.1.1 (subst (λ k. IsWired (wire_first a.0) (n.first_node w k)) same (first_wired a.0)))

  start_counted : (i : ℕ) (v : d.Node) (m : n.Node) → slice_get (map wire_first (range_with_len 0 (sites_of w))) i ≡ Some v → slice_get (map (n.first_node w) (range_with_len 0 (sites_of w))) i ≡ Some m → IsCounted w v.journal.made m
  unfolding wire_definitions node_definitions
  start_counted i v m e f =
      let a = get_map_back wire_first (range_with_len 0 (sites_of w)) i v e in
      let b = get_map_back (n.first_node w) (range_with_len 0 (sites_of w)) i m f in
      subst (λ (z : d.Node). IsCounted w z.journal.made m) a.1.1 (subst (IsCounted w (replicate (length w.clients) 0)) b.1.1 (first_counted w (n.first_node w b.0) refl refl))

  first_own : (site : ℕ) → IsPlainNode (n.first_node w site)
  unfolding node_definitions
  first_own site = record { running = λ e. refl; stopped = λ u e. absurd (let f : Running ≡ Stopped u = e in cc) }

  start_meets : IsAccepted w → Meets w (d.at_start w) (n.at_start w)
  unfolding wire_definitions node_definitions
  start_meets accepted = record {
    are = record {
      count = length-map (range_with_len 0 (sites_of w)) wire_first ∙ sym (length-map (range_with_len 0 (sites_of w)) (n.first_node w));
      nodes = start_wired;
      packets = refl;
    };
    held = start_holds w accepted;
    counted = start_counted;
    own = λ i m e. let b = get_map_back (n.first_node w) (range_with_len 0 (sites_of w)) i m e in subst IsPlainNode b.1.1 (first_own b.0);
    plain = λ r k said h. absurd h;
  }

-- ---- each client's calls are taken on in order
ordered : (w : s.Workload) (x : d.World) (y : n.World) → Meets w x y → AskedInOrder w y
unfolding node_definitions
ordered w x y h i client m here at =
    let v = get_some x.nodes i (subst (λ k. i < k) (sym h.are.count) (slice_get_within y.nodes i m here)) in
    counted_range w v.0.journal.made m (h.counted i v.0 m v.1 here) client

leads_to : (w : s.Workload) (x : d.World) (asks : List n.Event) → IsAccepted w → Meets w x (n.reached w asks) → LeadsTo w x asks
unfolding node_definitions
leads_to w x asks accepted h = record {
  are = h.are;
  ordered = ordered w x (n.reached w asks) h;
  legal = legal_where_ordered w asks accepted (ordered w x (n.reached w asks) h);
}

pub is_case : IsCase
unfolding wire_definitions node_definitions
is_case w events accepted =
    let led = events_lead w events (d.at_start w) (n.at_start w) accepted (start_meets w accepted) in
    (led.0, leads_to w (d.reached w events) led.0 accepted led.1)
