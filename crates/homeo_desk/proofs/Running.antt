-- Runs of desks are events of nodes.
use Rattle.homeo_meaning.specs.Key.{definitions as meaning_definitions}
use Rattle.homeo_history.specs.Key.{definitions as history_definitions}
use Rattle.homeo_site.specs.Key.{definitions as site_definitions}
use Rattle.homeo_nodes.specs.Key.{definitions}
use Rattle.std.proofs.Common.{inl, inr, ◌≡◌, ℕ, zero, suc, ◌<◌, ◌≤◌, List, [], ◌∷◌, ◌++◌, length, eqb, true, Option, Some, None, refl, sym, ap, subst, ◌∙◌, append-nil, append_assoc, arith, slice_set}
use Rattle.std.specs.Prelude.{slice_get, ◌⊎◌, All, Contains, IsSome, option_map, nat_lt, ◌&&◌}
use Rattle.std.proofs.lemmas.List.{map-append}
use Rattle.std.specs.List.{range_with_len}
use Rattle.std.specs.Option.{option_and_then, option_map_or}
use Rattle.std.proofs.lemmas.Bool.Decides.{nat_tests}
use Rattle.std.proofs.lemmas.Option.{slice_get_within}
use Rattle.std.proofs.lemmas.Bool.{cases_eq, eq-eqb, ne_eqb, cond-true, cond-false}
use mathlib.Core.Logic.{⊎_elim}
use Rattle.homeo_lemmas.proofs.Places.{get_map, one_placed, All-get}
use Rattle.homeo_syntax.specs.Source as s
use Rattle.homeo_syntax.specs.SourceView.{plain_workload}
use Rattle.homeo_syntax.specs.declared.workload.Workload.{Workload}
use Rattle.homeo_meaning.specs.Serial.{numbered}
use Rattle.homeo_meaning.specs.declared.call.CallId.{CallId}
use Rattle.homeo_plan.specs.Planned.{sites_of}
use Rattle.homeo_history.specs.Answers as h
use Rattle.homeo_history.specs.Legal.{IsCallAt, client_site, call_count}
use Rattle.homeo_history.proofs.ClientAnswers.{client_at}
use Rattle.homeo_history.proofs.Lists.{get_some, get_map_back, get_index, get_set_same, get_set_other}
use Rattle.homeo_nodes.specs.Nodes as n
use Rattle.homeo_nodes.specs.Nodes.{Node, World, Event, Ask, Serve, Deliver, Tick, Input, Asked, Served, Came, Withdrew, Ticked, reaction, place_of, happens, after, at_start, reached, is_listed, first_node}
use Rattle.homeo_nodes.specs.Small.{Small, small, grown, small_after}
use Rattle.homeo_nodes.specs.Told.{told, told_by_node, told_here, told_in}
use Rattle.homeo_nodes.proofs.Smaller.{same_reactions}
use Rattle.homeo_desk.specs.DeskView.{DeskValue, calls_of}
use Rattle.homeo_desk.specs.Moves.{reacts, sent_after, told_after, IsOf, AreOf}
use Rattle.homeo_desk.specs.Outputs.{AreIn, AreTold, Given, none, packets_of, replies_of}
use Rattle.homeo_desk.specs.Places.{ArePlaced}
use Rattle.homeo_desk.specs.Runs.{Told, Desks, Moves, IsRun, begin, go_on, first_told, first_desks, AreNodes, RunsAreEvents}
use Rattle.homeo_desk.proofs.Giving.{in_itself, in_both, told_both}
use Rattle.homeo_desk.proofs.Placing.{placed_nothing, placed_then}

-- ---- a call of a client of the site is listed
number_in : (calls : List s.Call) (seq : ℕ) → IsSome (numbered seq calls) → (0 < seq) × (seq ≤ length calls)
unfolding meaning_definitions
number_in calls zero h = absurd (cc)
number_in calls (suc k) h = (omega arith, go (slice_get calls k) refl h)
  where
    go : (o : Option s.Call) → slice_get calls k ≡ o → IsSome o → suc k ≤ length calls
    go None e i = absurd (cc)
    go (Some x) e i = let lt = slice_get_within calls k x e in omega arith

count_in : (o : Option s.Client) (seq : ℕ) → IsSome (option_and_then (λ (client : s.Client). numbered seq client.calls) o) → (0 < seq) × (seq ≤ option_map_or (λ (client : s.Client). length client.calls) o 0)
count_in None seq h = absurd (cc)
count_in (Some client) seq h = number_in client.calls seq h

listed : (w : s.Workload) (site : ℕ) (call : CallId) → IsCallAt w site call → is_listed w call ≡ true
unfolding definitions meaning_definitions history_definitions
listed w site call at =
    let in_list : (0 < call.seq) × (call.seq ≤ call_count w call.client) = count_in (slice_get w.clients call.client) call.seq at.exists in
    let lt = in_list.0 in
    let le = in_list.1 in
    both (nat_lt 0 call.seq) (nat_lt call.seq (suc (call_count w call.client))) (grind (arith, nat_tests, lt)) (grind (arith, nat_tests, le))
  where
    both : (a b : _) → a ≡ true → b ≡ true → (a && b) ≡ true
    both a b e f = cc

at_place : {X : Type 0} (xs : List X) (x : X) → Contains xs x → (k : ℕ) × (slice_get xs k ≡ Some x)
at_place xs x h =
    let y = get_some xs h.0 h.1 in
    let same : y.0 ≡ x = sym (get_index xs h.0 y.0 x y.1) ∙ h.2 in
    (h.0, y.1 ∙ ap Some same)

-- ---- one input of a node is an event
module _ (w : s.Workload) (i : ℕ) where
  module _ (y : World) (calls : List CallId) (ps : List n.Packet) (at : All (IsCallAt w i) calls) (sent : AreIn ps y.packets) where
    event_of : (input : Input) → IsOf calls ps input → (e : Event) × (place_of w y e ≡ Some (record { site = i; input = input }))
    unfolding definitions history_definitions
    event_of (Asked call) is =
        let k = at_place calls call is in
        let one : IsCallAt w i call = All-get (IsCallAt w i) calls k.0 call at k.1 in (
          Ask call,
          cond-true (is_listed w call) (option_map (λ home. record { site = home; input = Asked call }) (client_site w call.client)) None (listed w i call one)
              ∙ ap (option_map (λ home. record { site = home; input = Asked call })) (client_at w call i one.at_site),
        )
    event_of Served is = (Serve i, refl)
    event_of (Came packet) is =
        let k = at_place y.packets packet (sent packet is) in
        (Deliver i k.0, ap (option_map (λ p. record { site = i; input = Came p })) k.1)
    event_of (Withdrew packet) is = absurd is
    event_of Ticked is = (Tick i, refl)

  -- what inputs lead to
  record Leads (y : World) (x : Small) (inputs : List Input) : Type 0 where
    pub events : List Event
    pub node : Node
    pub there : slice_get (after w events y).nodes i ≡ Some node
    pub alike : small node ≡ small_after w inputs x
    pub others : (k : ℕ) → (k ≡ i → ⊥) → slice_get (after w events y).nodes k ≡ slice_get y.nodes k
    pub packets : AreIn (y.packets ++ sent_after w inputs x) (after w events y).packets
    pub told_own : told_in w i y events ≡ told_after w inputs x
    pub told_none : (k : ℕ) → (k ≡ i → ⊥) → told_in w k y events ≡ []

  one_event : (y : World) (e : Event) (input : Input) (m : Node) → place_of w y e ≡ Some (record { site = i; input = input }) → slice_get y.nodes i ≡ Some m →
      happens w y e ≡ record {
        world = record { nodes = slice_set y.nodes i (reaction w input m).node; packets = y.packets ++ (reaction w input m).sends };
        sends = (reaction w input m).sends;
        step = (reaction w input m).step;
      }
  unfolding definitions
  one_event y e input m at here = ap (n.happens_at w y) at ∙ ap (n.reacts w y (record { site = i; input = input })) here

  told_small : (m : Node) (step : n.Step) → told m step ≡ told (grown (small m)) step
  unfolding definitions
  told_small m n.Queued = refl
  told_small m (n.Kept call prints) = refl
  told_small m (n.Wanted broken) = refl
  told_small m n.Held = refl
  told_small m n.Taken = refl
  told_small m n.Ignored = refl
  told_small m (n.Closed answers) = refl
  told_small m n.Told = refl

  -- the node does what it does without its journal
  module _ (input : Input) (m : Node) (x : Small) (alike : small m ≡ x) where
    next_small : small (reaction w input m).node ≡ small (reacts w input x).node
    unfolding definitions
    next_small = (same_reactions w input m).node ∙ ap (λ z. small (reaction w input (grown z)).node) alike

    next_sends : (reaction w input m).sends ≡ (reacts w input x).sends
    unfolding definitions
    next_sends = (same_reactions w input m).sends ∙ ap (λ z. (reaction w input (grown z)).sends) alike

    next_told : told m (reaction w input m).step ≡ told (grown x) (reacts w input x).step
    unfolding definitions
    next_told =
        told_small m (reaction w input m).step
        ∙ ap (told (grown (small m))) (same_reactions w input m).step
        ∙ ap (λ z. told (grown z) (reaction w input (grown z)).step) alike

  module _ (y : World) (e : Event) (input : Input) (m : Node) (at : place_of w y e ≡ Some (record { site = i; input = input })) (here : slice_get y.nodes i ≡ Some m) where
    here_own : told_here w i y (place_of w y e) ≡ told m (reaction w input m).step
    unfolding definitions
    here_own =
        ap (told_here w i y) at
        ∙ cond-true (eqb i i) _ [] (eq-eqb i i refl)
        ∙ ap (n_told input) here
      where
        n_told : Input → Option Node → List h.Answer
        n_told a o = told_by_node w a o

    here_none : (k : ℕ) → (k ≡ i → ⊥) → told_here w k y (place_of w y e) ≡ []
    unfolding definitions
    here_none k other = ap (told_here w k y) at ∙ cond-false (eqb i k) _ [] (ne_eqb i k (λ f. other (sym f)))

  leads : (calls : List CallId) (inputs : List Input) (ps : List n.Packet) (y : World) (x : Small) (m : Node) → All (IsCallAt w i) calls → slice_get y.nodes i ≡ Some m → small m ≡ x →
      AreIn ps y.packets → AreOf w calls ps inputs x → Leads y x inputs
  unfolding definitions
  leads calls [] ps y x m at here alike sent are = record {
    events = [];
    node = m;
    there = here;
    alike = alike;
    others = λ k other. refl;
    packets = subst (λ l. AreIn l y.packets) (sym (append-nil y.packets)) (in_itself y.packets);
    told_own = refl;
    told_none = λ k other. refl;
  }
  leads calls (input ∷ inputs) ps y x m at here alike sent are =
      let event = event_of y calls ps at sent input are.0 in
      let e : Event = event.0 in
      let r : n.Reaction = reaction w input m in
      let z : World = record { nodes = slice_set y.nodes i r.node; packets = y.packets ++ r.sends } in
      let went : (happens w y e).world ≡ z = ap (λ (p : n.Happened). p.world) (one_event y e input m event.1 here) in
      let sends : r.sends ≡ (reacts w input x).sends = next_sends input m x alike in
      let more = leads calls inputs (ps ++ (reacts w input x).sends) z (small (reacts w input x).node) r.node at (get_set_same y.nodes i m r.node here) (next_small input m x alike)
      (subst (λ l. AreIn (ps ++ (reacts w input x).sends) (y.packets ++ l)) (sym sends) (in_both ps (reacts w input x).sends y.packets (reacts w input x).sends sent (in_itself (reacts w input x).sends)))
      are.1 in
      let end : World = after w more.events z in
      let led : after w (e ∷ more.events) y ≡ end = ap (after w more.events) went in
      record {
        events = e ∷ more.events;
        node = more.node;
        there = ap (λ (v : World). slice_get v.nodes i) led ∙ more.there;
        alike = more.alike;
        others = λ k other. ap (λ (v : World). slice_get v.nodes k) led ∙ more.others k other ∙ get_set_other y.nodes i k r.node other;
        packets = subst (λ (v : World). AreIn (y.packets ++ sent_after w (input ∷ inputs) x) v.packets) (sym led)
            (subst (λ l. AreIn l end.packets) (append_assoc y.packets r.sends (sent_after w inputs (small (reacts w input x).node)) ∙ ap (λ l. y.packets ++ (l ++ sent_after w inputs (small (reacts w input x).node))) sends) more.packets);
        told_own =
            ap (λ ts. ts ++ told_in w i (happens w y e).world more.events) (here_own y e input m event.1 here ∙ next_told input m x alike)
            ∙ ap (λ v. told (grown x) (reacts w input x).step ++ told_in w i v more.events) went
            ∙ ap (λ ts. told (grown x) (reacts w input x).step ++ ts) more.told_own;
        told_none = λ k other.
            ap (λ ts. ts ++ told_in w k (happens w y e).world more.events) (here_none y e input m event.1 here k other)
            ∙ ap (λ v. told_in w k v more.events) went ∙ more.told_none k other;
      }

-- ---- events one after another
module _ (w : s.Workload) where
  after_both : (es fs : List Event) (y : World) → after w (es ++ fs) y ≡ after w fs (after w es y)
  unfolding definitions
  after_both [] fs y = refl
  after_both (e ∷ es) fs y = after_both es fs (happens w y e).world

  told_more : (k : ℕ) (es fs : List Event) (y : World) → told_in w k y (es ++ fs) ≡ told_in w k y es ++ told_in w k (after w es y) fs
  unfolding definitions
  told_more k [] fs y = refl
  told_more k (e ∷ es) fs y =
      ap (λ ts. told_here w k y (place_of w y e) ++ ts) (told_more k es fs (happens w y e).world)
      ∙ sym (append_assoc (told_here w k y (place_of w y e)) (told_in w k (happens w y e).world es) (told_in w k (after w es (happens w y e).world) fs))

-- ---- runs
-- the desks have one workload
record IsLed (work : Workload) (x : Desks) : Type 0 where
  pub one : (i : ℕ) (t : Told) → slice_get x.desks i ≡ Some t → t.desk.work ≡ work
  pub events : List Event
  pub are : AreNodes (plain_workload work) x events

first_led : (work : Workload) → IsLed work (first_desks work)
unfolding definitions site_definitions
first_led work =
    let w = plain_workload work in
    let sites = range_with_len 0 (sites_of w) in
    record {
      one = λ i t e. let k = get_map_back (first_told work) sites i t e in ap (λ (v : Told). v.desk.work) (sym k.1.1);
      events = [];
      are = record {
        nodes = λ i t e. let k = get_map_back (first_told work) sites i t e in
            (first_node w k.0, get_map (first_node w) sites i k.0 k.1.0, ap (λ (v : Told). v.desk.node) k.1.1);
        packets = in_itself [];
        told = λ i t e. let k = get_map_back (first_told work) sites i t e in subst (λ (v : Told). AreTold v.given []) k.1.1 none;
        placed = λ i t e. let k = get_map_back (first_told work) sites i t e in
            subst (λ (v : Told). ArePlaced 0 0 (replies_of v.given) v.desk.node.round v.desk.made) k.1.1 (placed_nothing 0 0);
      };
    }

module _ (work : Workload) (x y : Desks) (led : IsLed work x) (moves : Moves x y) where
  abbrev w : s.Workload
  w = plain_workload work

  abbrev i : ℕ
  i = moves.site

  abbrev old : DeskValue
  old = moves.old.desk

  same_work : plain_workload old.work ≡ w
  same_work = ap plain_workload (led.one i moves.old moves.here)

  abbrev inputs : List Input
  inputs = moves.move.inputs

  is : (m : Node) × (slice_get (reached w led.events).nodes i ≡ Some m) × (small m ≡ old.node)
  is = led.are.nodes i moves.old moves.here

  went : Leads w i (reached w led.events) old.node inputs
  went = leads w i (calls_of moves.requests) inputs moves.packets (reached w led.events) old.node is.0
      (subst (λ v. All (IsCallAt v i) (calls_of moves.requests)) same_work moves.calls) is.1 is.2
      (λ p at. led.are.packets p (moves.came p at))
      (subst (λ v. AreOf v (calls_of moves.requests) moves.packets inputs old.node) same_work moves.move.are_of)

  abbrev events : List Event
  events = led.events ++ went.events

  abbrev next : Told
  next = record { desk = moves.new; given = moves.old.given ++ moves.move.given }

  reached_is : reached w events ≡ after w went.events (reached w led.events)
  unfolding definitions
  reached_is = after_both w led.events went.events (at_start w)

  desk_at : (k : ℕ) (t : Told) → slice_get y.desks k ≡ Some t → ((k ≡ i) × (next ≡ t)) ⊎ ((k ≡ i → ⊥) × (slice_get x.desks k ≡ Some t))
  desk_at k t e = ⊎_elim (λ f. inl (f, own f)) (λ other. inr (other, sym (get_set_other x.desks i k next other) ∙ is_set)) (cases_eq k i)
    where
      is_set : slice_get (slice_set x.desks i next) k ≡ Some t
      is_set = ap (λ (v : Desks). slice_get v.desks k) (sym moves.then) ∙ e

      own : k ≡ i → next ≡ t
      own f = one_placed (slice_set x.desks i next) i next t (get_set_same x.desks i moves.old next moves.here) (subst (λ j. slice_get (slice_set x.desks i next) j ≡ Some t) f is_set)

  node_is : moves.new.node ≡ small_after w inputs old.node
  node_is = moves.move.node ∙ ap (λ v. small_after v inputs old.node) same_work

  next_nodes : (k : ℕ) (t : Told) → slice_get y.desks k ≡ Some t → (m : Node) × (slice_get (reached w events).nodes k ≡ Some m) × (small m ≡ t.desk.node)
  next_nodes k t e = ⊎_elim own other (desk_at k t e)
    where
      own : (k ≡ i) × (next ≡ t) → (m : Node) × (slice_get (reached w events).nodes k ≡ Some m) × (small m ≡ t.desk.node)
      own h = (went.node, ap (λ (v : World). slice_get v.nodes k) reached_is ∙ ap (slice_get (after w went.events (reached w led.events)).nodes) h.0 ∙ went.there, went.alike ∙ sym node_is ∙ ap (λ (v : Told). v.desk.node) h.1)

      other : (k ≡ i → ⊥) × (slice_get x.desks k ≡ Some t) → (m : Node) × (slice_get (reached w events).nodes k ≡ Some m) × (small m ≡ t.desk.node)
      other h = let was = led.are.nodes k t h.1 in (was.0, ap (λ (v : World). slice_get v.nodes k) reached_is ∙ went.others k h.0 ∙ was.1, was.2)

  desks_told : (k : ℕ) (t : Told) → slice_get y.desks k ≡ Some t → AreTold t.given (told_in w k (at_start w) events)
  unfolding definitions
  desks_told k t e = subst (AreTold t.given) (sym (told_more w k led.events went.events (at_start w))) (⊎_elim own other (desk_at k t e))
    where
      own : (k ≡ i) × (next ≡ t) → AreTold t.given (told_in w k (at_start w) led.events ++ told_in w k (reached w led.events) went.events)
      own h =
          subst (λ j. AreTold t.given (told_in w j (at_start w) led.events ++ told_in w j (reached w led.events) went.events)) (sym h.0)
          (subst (λ (v : Told). AreTold v.given (told_in w i (at_start w) led.events ++ told_in w i (reached w led.events) went.events)) h.1
          (subst (λ l. AreTold (moves.old.given ++ moves.move.given) (told_in w i (at_start w) led.events ++ l)) (sym went.told_own)
          (told_both moves.old.given moves.move.given (told_in w i (at_start w) led.events) (told_after w inputs old.node) (led.are.told i moves.old moves.here)
          (subst (λ v. AreTold moves.move.given (told_after v inputs old.node)) same_work moves.move.told))))

      other : (k ≡ i → ⊥) × (slice_get x.desks k ≡ Some t) → AreTold t.given (told_in w k (at_start w) led.events ++ told_in w k (reached w led.events) went.events)
      other h =
          subst (λ l. AreTold t.given (told_in w k (at_start w) led.events ++ l)) (sym (went.told_none k h.0))
          (subst (AreTold t.given) (sym (append-nil (told_in w k (at_start w) led.events))) (led.are.told k t h.1))

  desks_placed : (k : ℕ) (t : Told) → slice_get y.desks k ≡ Some t → ArePlaced 0 0 (replies_of t.given) t.desk.node.round t.desk.made
  desks_placed k t e = ⊎_elim own other (desk_at k t e)
    where
      own : (k ≡ i) × (next ≡ t) → ArePlaced 0 0 (replies_of t.given) t.desk.node.round t.desk.made
      own h =
          subst (λ (v : Told). ArePlaced 0 0 (replies_of v.given) v.desk.node.round v.desk.made) h.1
          (subst (λ l. ArePlaced 0 0 l moves.new.node.round moves.new.made) (sym (map-append (λ (g : Given). g.reply) moves.old.given moves.move.given))
          (placed_then 0 0 old.node.round old.made moves.new.node.round moves.new.made (replies_of moves.old.given) (replies_of moves.move.given)
          (led.are.placed i moves.old moves.here) moves.move.placed))

      other : (k ≡ i → ⊥) × (slice_get x.desks k ≡ Some t) → ArePlaced 0 0 (replies_of t.given) t.desk.node.round t.desk.made
      other h = led.are.placed k t h.1

  next_packets : AreIn y.packets (reached w events).packets
  next_packets =
      subst (λ (v : World). AreIn y.packets v.packets) (sym reached_is)
      (subst (λ (v : Desks). AreIn v.packets (after w went.events (reached w led.events)).packets) (sym moves.then)
      (λ p at. went.packets p (in_both x.packets (packets_of moves.move.gives.more) (reached w led.events).packets (sent_after w inputs old.node) led.are.packets
      (subst (λ v. AreIn (packets_of moves.move.gives.more) (sent_after v inputs old.node)) same_work moves.move.gives.packets_are) p at)))

  next_led : IsLed work y
  next_led = record {
    one = λ k t e. ⊎_elim (λ h. ap (λ (v : Told). v.desk.work) (sym h.1) ∙ moves.move.work ∙ led.one i moves.old moves.here) (λ h. led.one k t h.1) (desk_at k t e);
    events = events;
    are = record { nodes = next_nodes; packets = next_packets; told = desks_told; placed = desks_placed };
  }

run_led : (work : Workload) (x : Desks) → IsRun work x → IsLed work x
run_led work x begin = first_led work
run_led work x (go_on z y run moves) = next_led work z y (run_led work z run) moves

pub runs_are_events : RunsAreEvents
runs_are_events work x run = let led = run_led work x run in (led.events, led.are)
