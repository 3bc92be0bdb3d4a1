-- What nodes of an accepted text send and keep has no number that JSON readers lose, but for rounds and for what fails of a treaty.
use Rattle.homeo_meaning.specs.Key.{definitions as meaning_definitions}
use Rattle.homeo_plan.specs.Key.{definitions as plan_definitions}
use Rattle.homeo_nodes.specs.Key.{definitions}
use Rattle.std.proofs.Common.{◌≡◌, ℕ, suc, ◌+◌, ◌<◌, ◌≤◌, ◌^◌, nat_lt, ◌==◌, ◌&&◌, not, cond, Bool, true, false, List, [], ◌∷◌, ◌++◌, length, ℤ, pos, ◌+ℤ◌, Option, Some, None, refl, ◌∙◌, subst, arith, slice_index_or}
use Rattle.std.specs.Prelude.{slice_get, is_some, Contains, IfSome}
use Rattle.std.specs.Int.RustNames.{unsigned_abs}
use Rattle.std.proofs.lemmas.Int.{ints}
use mathlib.Core.Logic.{⊎_elim}
use Rattle.homeo_syntax.specs.Source as s
use Rattle.homeo_meaning.specs.Acceptance.{IsAccepted}
use Rattle.homeo_meaning.specs.Bounds.{IsIn, bounds_at, all_bounds}
use Rattle.homeo_meaning.specs.Schema.{schema_of}
use Rattle.homeo_meaning.specs.Serial.{values_of}
use Rattle.homeo_meaning.specs.declared.call.CallId.{CallId}
use Rattle.homeo_meaning.specs.declared.call.Purpose.TheVariants.{Run}
use Rattle.homeo_meaning.proofs.FaultParts.{parts}
use Rattle.homeo_meaning.proofs.Within.{length_in, all_within}
use Rattle.homeo_plan.specs.declared.treaty.Broken.{Broken}
use Rattle.homeo_plan.specs.Each.{Each}
use Rattle.homeo_plan.specs.Planned.{sites_of}
use Rattle.homeo_plan.proofs.BoundSizes.{most, bounds_small}
use Rattle.homeo_lform.proofs.Light.{size_at}
use Rattle.std.proofs.lemmas.Option.{slice_get_within}
use Rattle.homeo_site.specs.SiteState.{SiteState, SiteHolds, step_finding}
use Rattle.homeo_site.proofs.Limits.{few_sites}
use Rattle.homeo_nodes.specs.declared.breach.Breach.{Breach}
use Rattle.homeo_nodes.specs.declared.breach.Mode.{Mode}
use Rattle.homeo_nodes.specs.declared.breach.Mode.TheVariants.{Running, Waiting, Stopped}
use Rattle.homeo_nodes.specs.Nodes.{Said, Past, Packet, Want, Stop, State, round_of, Node, Reaction, Input, Asked, Served, Came, Withdrew, Ticked, is_running, is_stopped, is_arbiter, has_state, tried, served_by, most_waiting, taken, received, withdrawing, withdrawn, reaction, World, Event, At, place_of, reacts, happens_at, happens, at_start, after, reached}
use Rattle.homeo_nodes.specs.Small.{small}
use Rattle.homeo_nodes.proofs.Carrying.{AreAt}
use Rattle.homeo_nodes.proofs.Happening.{IsHeld, event_holds}
use Rattle.homeo_nodes.proofs.Holding.{node_holds}
use Rattle.homeo_nodes.proofs.Sending.{Sent, sent_cases, sent_one}
use Rattle.homeo_nodes.proofs.Settling.{Holds}
use Rattle.homeo_nodes.proofs.Standing.{reached_holds, sent, contains}
use Rattle.homeo_nodes.proofs.Talking.{Hears, Since}
use Rattle.homeo_nodes.proofs.Ticking.{resent_sent}
use Rattle.homeo_report.proofs.CanReport.{length_object_bounds}
use Rattle.homeo_lines.specs.SmallNumbers.{IsSmallCall, IsSmallFinding, IsSmallBreach, IsSmallSaid, IsSmallState, IsSmall, AllSmall, IsSmallPast, IsValue, AreValues, IsSmallFound, IsSmallMode, AllKept, IsSmallNode}
use Rattle.homeo_lines.proofs.AcceptedNames.{call_small}

-- ---- the deltas of a site
difference_small : (base delta : ℤ) → unsigned_abs base ≤ most → unsigned_abs (base +ℤ delta) ≤ most → IsValue delta
difference_small base delta h k = record { low = grind (arith, ints, h, k); high = grind (arith, ints, h, k) }

value_small : (v : ℤ) → unsigned_abs v ≤ most → IsValue v
value_small v h = record { low = grind (arith, ints, h); high = grind (arith, ints, h) }

each_value : (ns : List ℤ) → ((n : ℕ) → IsValue (slice_index_or ns n (pos 0))) → Each IsValue ns
unfolding plan_definitions
each_value [] h = tt
each_value (n ∷ ns) h = (h 0, each_value ns (λ k. h (suc k)))

module _ (w : s.Workload) (accepted : IsAccepted w) where
  within_most : (n : ℕ) (v : ℤ) → IsIn (bounds_at (all_bounds (schema_of w)) n) v → unsigned_abs v ≤ most
  within_most n v h =
      let size = size_at (all_bounds (schema_of w)) n v h in
      let small = bounds_small w (parts Run w accepted.rules).text.declared n in
      omega (arith, size, small)

  -- a site's deltas are small, since its base is within bounds, and so is its sum with them
  site_values : (x : SiteState) → SiteHolds w x → ((n : ℕ) → IsIn (bounds_at (all_bounds (schema_of w)) n) (values_of x.base n +ℤ values_of x.deltas n)) → AreValues w x.deltas
  unfolding meaning_definitions
  site_values x h both = record {
    all = h.count ∙ length_in (all_bounds (schema_of w)) x.base h.within ∙ length_object_bounds w;
    values = each_value x.deltas (λ n.
        difference_small (values_of x.base n) (values_of x.deltas n) (within_most n (values_of x.base n) (all_within (schema_of w) x.base h.within n))
        (within_most n (values_of x.base n +ℤ values_of x.deltas n) (both n)));
  }

  base_values : (x : SiteState) → SiteHolds w x → AreValues w x.base
  unfolding meaning_definitions
  base_values x h = record {
    all = length_in (all_bounds (schema_of w)) x.base h.within ∙ length_object_bounds w;
    values = each_value x.base (λ n. value_small (values_of x.base n) (within_most n (values_of x.base n) (all_within (schema_of w) x.base h.within n)));
  }

  -- ---- what is sent
  abbrev HasValues : Packet → Type 0
  HasValues (Want b) = Unit {0}
  HasValues (Stop b) = Unit {0}
  HasValues (State round site said) = AreValues w said.deltas

  abbrev HaveValues : List Packet → Type 0
  HaveValues ps = (p : Packet) → Sent ps p → HasValues p

  none_have : HaveValues []
  none_have p h = absurd h

  one_has : (q : Packet) → HasValues q → HaveValues (q ∷ [])
  one_has q h p at = subst HasValues (sent_one q p at) h

  both_have : (ps qs : List Packet) → HaveValues ps → HaveValues qs → HaveValues (ps ++ qs)
  both_have ps qs h k p at = ⊎_elim (λ a. h p a) (λ b. k p b) (sent_cases ps qs p at)

  either_has : (t : Bool) (a b : Reaction) → HaveValues a.sends → HaveValues b.sends → HaveValues (cond t a b).sends
  either_has true a b h k = h
  either_has false a b h k = k

  -- of a node that has such deltas
  tried_have : (n : Node) (call : CallId) (queue : List CallId) (o : Option Broken) → HaveValues (tried w n call queue o).sends
  unfolding definitions
  tried_have n call queue None = none_have
  tried_have n call queue (Some broken) = one_has _ tt

  served_have : (n : Node) (queue : List CallId) → HaveValues (served_by w n queue).sends
  unfolding definitions
  served_have n [] = none_have
  served_have n (call ∷ queue) = tried_have n call queue (step_finding w n.journal.site call)

  taken_have : (n : Node) → AreValues w n.journal.site.deltas → (p : Packet) → HaveValues (taken w n p).sends
  unfolding definitions
  taken_have n own (Want b) = either_has (is_arbiter w n && not (is_some n.decided)) _ _ (one_has (Stop b) tt) none_have
  taken_have n own (Stop b) = either_has (is_stopped n.mode) _ _ none_have (one_has _ own)
  taken_have n own (State round site said) = either_has (has_state n.states site) _ _ none_have none_have

  received_have : (n : Node) → AreValues w n.journal.site.deltas → (p : Packet) → HaveValues (received w p n).sends
  unfolding definitions
  received_have n own p = either_has (round_of p == n.journal.site.round) _ _ (taken_have n own p) none_have

  withdrawn_values : (n : Node) → AreValues w n.journal.site.deltas → (p : Packet) → AreValues w (withdrawn p n).journal.site.deltas
  unfolding definitions
  withdrawn_values n own (Want b) = own
  withdrawn_values n own (Stop b) = go ((b.round == n.journal.site.round) && not (is_stopped n.mode))
    where
      go : (t : Bool) → AreValues w (cond t (withdrawing n b) n).journal.site.deltas
      go true = own
      go false = own
  withdrawn_values n own (State round site said) = own

  -- ---- event after event
  module _ (ns : List Node) (ps : List Packet) (holds : Holds w ns ps) (was : HaveValues ps) (i : ℕ) (n : Node) (here : slice_get ns i ≡ Some n) where
    own_values : AreValues w n.journal.site.deltas
    unfolding meaning_definitions
    own_values = let h = node_holds w ns ps accepted holds i n here in site_values n.journal.site h.site h.within

    reaction_has : (input : Input) → HaveValues (reaction w input n).sends
    unfolding definitions
    reaction_has (Asked call) = either_has (nat_lt (length n.queue) most_waiting) _ _ none_have none_have
    reaction_has Served = either_has (is_running n.mode) _ _ (served_have n n.queue) none_have
    reaction_has (Came p) = received_have n own_values p
    reaction_has (Withdrew p) = received_have (withdrawn p n) (withdrawn_values n own_values p) p
    reaction_has Ticked = λ p at. was p (resent_sent w ps i n (holds.talk.nodes i n here) p at)

  event_has : (x : World) (e : Event) → IsHeld w x → HaveValues x.packets → HaveValues (happens w x e).world.packets
  unfolding definitions
  event_has x e holds was = by_place (place_of w x e)
    where
      by_node : (a : At) (o : Option Node) → slice_get x.nodes a.site ≡ o → HaveValues (reacts w x a o).world.packets
      by_node a None here = was
      by_node a (Some n) here = both_have x.packets (reaction w a.input n).sends was (reaction_has x.nodes x.packets holds was a.site n here a.input)

      by_place : (o : Option At) → HaveValues (happens_at w x o).world.packets
      by_place None = was
      by_place (Some a) = by_node a (slice_get x.nodes a.site) refl

  events_have : (events : List Event) (x : World) → IsHeld w x → HaveValues x.packets → HaveValues (after w events x).packets
  unfolding definitions
  events_have [] x holds was = was
  events_have (e ∷ events) x holds was = events_have events (happens w x e).world (event_holds w x e accepted holds) (event_has x e holds was)

  reached_have : (events : List Event) → HaveValues (reached w events).packets
  unfolding definitions
  reached_have events = events_have events (at_start w) (reached_holds w [] accepted) none_have

  -- ---- calls and sites
  each_call : (i : ℕ) (calls : List CallId) → AreAt w i calls → Each (IsSmallCall w i) calls
  unfolding plan_definitions
  each_call i [] at = tt
  each_call i (c ∷ calls) at = (call_small w i c accepted at.0, each_call i calls at.1)

  module _ (events : List Event) where
    abbrev x : World
    x = reached w events

    held : IsHeld w x
    held = reached_holds w events accepted

    site_there : (i r : ℕ) (P : Node → Type 0) → Since x.nodes i r P → i < sites_of w
    site_there i r P since = let lt = slice_get_within x.nodes i since.node since.here in let count = held.talk.count in omega (arith, lt, count)

    breach_small : (b : Breach) → Sent x.packets (Want b) → b.round < 2 ^ 53 → IsSmallFound (Want b) → IsSmallBreach w b
    breach_small b at round found =
        let stands = held.talk.packets (Want b) at in
        let lt = site_there b.site b.round _ stands.1 in
        let few = few_sites w accepted in
        record { round = round; site = omega (arith, lt, few); call = call_small w b.site b.call accepted stands.0; broken = found }

    packet_small : (p : Packet) → Sent x.packets p → round_of p < 2 ^ 53 → IsSmallFound p → IsSmall w p
    unfolding definitions
    packet_small (Want b) at round found = breach_small b at round found
    packet_small (Stop b) at round found = breach_small b (held.talk.packets (Stop b) at).0 round found
    packet_small (State r i said) at round found =
        let stands = held.talk.packets (State r i said) at in
        let values = reached_have events (State r i said) at in
        let lt = site_there i r _ stands.1 in
        let few = few_sites w accepted in
        record {
          small_round = round;
          small_site = omega (arith, lt, few);
          there = lt;
          said = record { deltas = values.all; values = values.values; few = stands.0.few; calls = each_call i said.calls stands.0.at_site };
        }

    pub sent_small : (p : Packet) → Contains x.packets p → round_of p < 2 ^ 53 → IsSmallFound p → IsSmall w p
    sent_small p at round found = packet_small p (sent x.packets p at) round found

    said_small : (r i : ℕ) (said : Said) → Sent x.packets (State r i said) → r < 2 ^ 53 → IsSmallSaid w i said
    said_small r i said at round = let small : IsSmallState w r i said = packet_small (State r i said) at round tt in small.said

    -- how a node has closed a round
    all_small : (r k : ℕ) (all : List Said) → r < 2 ^ 53 → ((m : ℕ) (said : Said) → slice_get all m ≡ Some said → Sent x.packets (State r (k + m) said)) → AllSmall w k all
    all_small r k [] round at = tt
    all_small r k (said ∷ all) round at = (
      said_small r k said (subst (λ m. Sent x.packets (State r m said)) (let e : k + 0 ≡ k = omega arith in e) (at 0 said refl)) round,
      all_small r (suc k) all round (λ m other e. subst (λ j. Sent x.packets (State r j other)) (let f : k + suc m ≡ suc k + m = omega arith in f) (at (suc m) other e)),
    )

    pub past_small : (i : ℕ) (n : Node) (p : Past) → slice_get x.nodes i ≡ Some n → n.past ≡ Some p → p.breach.round < 2 ^ 53 → IsSmallFinding p.breach.broken → IsSmallPast w p
    past_small i n p here is round found =
        let was = (held.talk.nodes i n here).turned p is in
        record {
          breach = breach_small p.breach (held.talk.packets (Stop p.breach) was.stop).0 round found;
          sites = was.count;
          states = all_small p.breach.round 0 p.states round (λ m said e. subst (λ j. Sent x.packets (State p.breach.round j said)) (let f : m ≡ 0 + m = omega arith in f) (was.states m said e));
        }

    -- ---- what a node keeps, where all that was sent is small
    module _ (all : (p : Packet) → Contains x.packets p → (round_of p < 2 ^ 53) × IsSmallFound p) (i : ℕ) (n : Node) (here : slice_get x.nodes i ≡ Some n) (round : n.journal.site.round < 2 ^ 53) where
      hears : Hears w x.packets i n
      hears = held.talk.nodes i n here

      sent_is : (p : Packet) → Sent x.packets p → IsSmall w p
      sent_is p at = let h = all p (contains x.packets p at) in packet_small p at h.0 h.1

      mode_is : (m : Mode) → n.mode ≡ m → IsSmallMode w m
      mode_is Running e = tt
      mode_is (Waiting b) e = sent_is (Want b) (hears.waiting b e)
      mode_is (Stopped b) e = sent_is (Stop b) (hears.stopped b e).0

      decided_is : (o : Option Breach) → n.decided ≡ o → IfSome o (IsSmallBreach w)
      decided_is None e = tt
      decided_is (Some b) e = sent_is (Stop b) (hears.chosen b e)

      kept_are : (k : ℕ) (states : List (Option Said)) → ((m : ℕ) (said : Said) → slice_get states m ≡ Some (Some said) → Sent x.packets (State n.journal.site.round (k + m) said)) → AllKept w k states
      kept_are k [] at = tt
      kept_are k (None ∷ states) at =
          (tt, kept_are (suc k) states (λ m other e. subst (λ j. Sent x.packets (State n.journal.site.round j other)) (let f : k + suc m ≡ suc k + m = omega arith in f) (at (suc m) other e)))
      kept_are k (Some said ∷ states) at = (
        said_small n.journal.site.round k said (subst (λ j. Sent x.packets (State n.journal.site.round j said)) (let e : k + 0 ≡ k = omega arith in e) (at 0 said refl)) round,
        kept_are (suc k) states (λ m other e. subst (λ j. Sent x.packets (State n.journal.site.round j other)) (let f : k + suc m ≡ suc k + m = omega arith in f) (at (suc m) other e)),
      )

      past_is : (o : Option Past) → n.past ≡ o → IfSome o (IsSmallPast w)
      past_is None e = tt
      past_is (Some p) e =
          let h = all (Stop p.breach) (contains x.packets (Stop p.breach) (hears.turned p e).stop) in past_small i n p here e h.0 h.1

      pub node_small : IsSmallNode w (small n)
      unfolding definitions meaning_definitions
      node_small =
          let h = node_holds w x.nodes x.packets accepted held i n here in
          let lt = slice_get_within x.nodes i n here in
          let count = held.talk.count in
          let few = few_sites w accepted in
          let same = hears.numbered in
          record {
            number = omega (arith, lt, count, few, same);
            round = round;
            base = base_values n.journal.site h.site;
            deltas = site_values n.journal.site h.site h.within;
            mode = mode_is n.mode refl;
            decided = decided_is n.decided refl;
            sites = hears.count;
            states = kept_are 0 n.states (λ m said e. subst (λ j. Sent x.packets (State n.journal.site.round j said)) (let f : m ≡ 0 + m = omega arith in f) (hears.kept m said e));
            past = past_is n.past refl;
          }
