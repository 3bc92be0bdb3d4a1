-- After any events the nodes tell one story, and their packets agree.
use Rattle.homeo_history.specs.Key.{definitions as history_definitions}
use Rattle.homeo_core.specs.Key.{definitions as core_definitions}
use Rattle.homeo_nodes.specs.Key.{definitions}
use Rattle.std.proofs.Common.{inl, inr, ◌≡◌, ℕ, zero, suc, ◌<◌, List, [], ◌∷◌, ◌++◌, map, length, take, ℤ, Some, refl, sym, ap, subst, ◌∙◌, arith, slice_index_or}
use Rattle.std.specs.Prelude.{slice_get, All, Contains}
use Rattle.std.proofs.lemmas.List.{take_at, take-append-le}
use Rattle.std.proofs.lemmas.List.Elements.{All-push}
use mathlib.Core.Logic.{⊎_elim}
use Rattle.homeo_lemmas.proofs.Places.{one_placed, get_left}
use Rattle.homeo_syntax.specs.Source as s
use Rattle.homeo_meaning.specs.Acceptance.{IsAccepted}
use Rattle.homeo_meaning.specs.Initial.{initial}
use Rattle.homeo_history.specs.History.{Round}
use Rattle.homeo_history.specs.Legal.{IsSerialFrom}
use Rattle.homeo_history.specs.Replayed.{IsReplayed}
use Rattle.homeo_history.proofs.Lists.{get_map_back, get_end}
use Rattle.homeo_history.proofs.Rounds.{serial_end}
use Rattle.homeo_site.specs.SiteState.{SiteState}
use Rattle.homeo_core.specs.Joined.{BookState, AreJoined, open_round, gathered, rounds_of}
use Rattle.homeo_core.specs.Joined as core
use Rattle.homeo_core.proofs.Joining as joining
use Rattle.homeo_core.proofs.OpenRound as open_round_facts
use Rattle.homeo_nodes.specs.declared.breach.Breach.{Breach}
use Rattle.homeo_nodes.specs.Laws.{journals, HasRun, IsAnswered, IsOnce, IsStory, IsOneRound, OneRound, OneStory, OneEachRound, SentBefore, FewCarried}
use Rattle.homeo_nodes.specs.Making.{Joint, first_joint}
use Rattle.homeo_nodes.specs.Nodes.{Said, Packet, Stop, State, Left, left_of, Journal, Node, newest, closed, own_calls, goes_on, World, Event, resent, at_start, reached}
use Rattle.homeo_nodes.proofs.Courses.{IsUp, IsNear}
use Rattle.homeo_nodes.proofs.Happening.{IsHeld, events_hold}
use Rattle.homeo_nodes.proofs.Sending.{Sent}
use Rattle.homeo_nodes.proofs.Followed.{made_follows, first_follows}
use Rattle.homeo_nodes.proofs.InHistory.{answered}
use Rattle.homeo_nodes.proofs.Made.{JointHolds}
use Rattle.homeo_nodes.proofs.Reacting.{running_not_stopped}
use Rattle.homeo_nodes.proofs.Settling.{behind_stopped}
use Rattle.homeo_nodes.proofs.Starting.{joint_joined, start_holds}
use Rattle.homeo_nodes.proofs.Ticking.{resent_sent}

pub reached_holds : (w : s.Workload) (events : List Event) → IsAccepted w → IsHeld w (reached w events)
unfolding definitions
reached_holds w events accepted = events_hold w events (at_start w) accepted (start_holds w accepted)

-- ---- closed rounds and sites in one round are a serial history
module _ (w : s.Workload) (start : List ℤ) (b : BookState) (sites : List SiteState) (accepted : IsAccepted w) (joined : AreJoined w start b sites) where
  pub serial_joined : IsSerialFrom w start (core.history_of b sites)
  unfolding core_definitions
  serial_joined = record {
    framed = joining.framed w start b sites accepted joined;
    at_sites = joining.at_sites w start b sites accepted joined;
    serial = serial_end w b.closed (open_round b.base sites) (gathered b.base sites) joined.book.serial (joining.runs w start b sites accepted joined);
    replayed = All-push (IsReplayed w) b.closed (open_round b.base sites) joined.book.replayed (record { segments = open_round_facts.keeps_at w start b sites accepted joined; closing = tt });
  }

-- ---- lists
-- what stands before an item of a mapped list is mapped from what stands before it there
record Found {X Y : Type 0} (f : X → Y) (before : List Y) (y : Y) (xs : List X) : Type 0 where
  pub item : X
  pub here : slice_get xs (length before) ≡ Some item
  pub is : y ≡ f item
  pub first : before ≡ map f (take (length before) xs)

found : {X Y : Type 0} (f : X → Y) (before : List Y) (y : Y) (after : List Y) (xs : List X) → before ++ y ∷ after ≡ map f xs → Found f before y xs
found f [] y after [] e = absurd (cc)
found f [] y after (x ∷ xs) e = record { item = x; here = refl; is = cc; first = refl }
found f (z ∷ before) y after [] e = absurd (cc)
found f (z ∷ before) y after (x ∷ xs) e =
    let rest = found f before y after xs (cc) in
    let same : z ≡ f x = cc in
    record { item = rest.item; here = rest.here; is = rest.is; first = ap (λ v. v ∷ before) same ∙ ap (λ l. f x ∷ l) rest.first }

-- ---- each node
module _ (w : s.Workload) (x : Joint) (joined : AreJoined w (initial w) x.book x.sites) where
  abbrev rounds : List Round
  rounds = rounds_of x.book x.sites

  up_is : (i : ℕ) (j : Journal) → IsUp x i j → HasRun rounds i j
  unfolding core_definitions history_definitions
  up_is i j up = record {
    left = up.left ∙ ap (map (left_of i)) (sym (take_at x.book.closed (open_round x.book.base x.sites ∷ []) j.site.round (sym up.round)));
    round = open_round x.book.base x.sites;
    here = subst (λ n. slice_get rounds n ≡ Some (open_round x.book.base x.sites)) (sym up.round) (get_end x.book.closed (open_round x.book.base x.sites));
    base = (joined.round.each i j.site up.site).base;
    segment = sym (open_round_facts.segment_at x.sites i j.site up.site);
  }

  module _ (u : Breach) (ds : List Said) (i : ℕ) (j : Journal) (long : length j.left ≡ j.site.round) (before : j.site.round < length x.book.closed) (up : IsUp x i (closed w u ds j)) where
    placed : Found (left_of i) j.left (newest w u ds j) x.book.closed
    unfolding definitions
    placed = found (left_of i) j.left (newest w u ds j) (map (left_of j.site.number) (goes_on w u ds j).book.closed) x.book.closed up.left

    pub base_there : (q : Round) → slice_get x.book.closed j.site.round ≡ Some q → j.site.base ≡ q.base
    unfolding definitions
    base_there q e =
        ap (λ (l : Left). l.base) placed.is ∙ ap (λ (r : Round). r.base) (one_placed x.book.closed j.site.round placed.item q (subst (λ n. slice_get x.book.closed n ≡ Some placed.item) long placed.here) e)

    behind_is : HasRun rounds i j
    unfolding definitions core_definitions
    behind_is = record {
      left = placed.first ∙ ap (λ n. map (left_of i) (take n x.book.closed)) long ∙ ap (map (left_of i)) (sym (take-append-le j.site.round x.book.closed (open_round x.book.base x.sites ∷ []) (omega (arith, before))));
      round = placed.item;
      here = get_left x.book.closed (open_round x.book.base x.sites ∷ []) j.site.round placed.item (subst (λ n. slice_get x.book.closed n ≡ Some placed.item) long placed.here);
      base = ap (λ (l : Left). l.base) placed.is;
      segment = ap (λ (l : Left). l.segment) placed.is;
    }

-- ---- the story
module _ (w : s.Workload) (x : World) (accepted : IsAccepted w) (h : IsHeld w x) where
  abbrev y : Joint
  y = h.joint

  node_of : (i : ℕ) (j : Journal) → slice_get (journals x) i ≡ Some j → (n : Node) × ((slice_get x.nodes i ≡ Some n) × (n.journal ≡ j))
  unfolding definitions
  node_of i j e = get_map_back (λ (n : Node). n.journal) x.nodes i j e

  is_of : (i : ℕ) (n : Node) → IsNear w x.packets y h.turn h.calls i n → HasRun (rounds_of y.book y.sites) i n.journal
  is_of i n near =
      ⊎_elim (λ a. up_is w y h.course.joined i n.journal a.up) (λ b. behind_is w y h.course.joined h.turn.breach h.turn.states i n.journal b.long b.before b.then) near

  site_there : (i : ℕ) (n : Node) → IsNear w x.packets y h.turn h.calls i n → n.journal.site.round ≡ length y.book.closed → slice_get y.sites i ≡ Some n.journal.site
  site_there i n near up =
      ⊎_elim (λ a. a.up.site) (λ b. absurd (let lt = b.before in omega (arith, lt, up))) near

  is_once : (i : ℕ) (n : Node) → slice_get x.nodes i ≡ Some n → IsNear w x.packets y h.turn h.calls i n → IsOnce h.calls i n
  is_once i n here near =
      ⊎_elim (λ a. record { waits = n.queue; once = a.once; made = []; queue = refl; running = λ r. refl }) (λ b. record { waits = b.waits; once = b.once; made = own_calls h.turn.breach h.turn.states i; queue = b.queue; running = λ r. absurd (running_not_stopped n.mode r (behind_stopped w x.nodes x.packets y h.turn h.calls i n h.talk here b)) }) near

  base_is : (i : ℕ) (j : Journal) → slice_get (journals x) i ≡ Some j → HasRun (rounds_of y.book y.sites) i j
  base_is i j e = let n = node_of i j e in subst (HasRun (rounds_of y.book y.sites) i) n.1.1 (is_of i n.0 (h.course.near i n.0 n.1.0))

  pub first_joined : JointHolds w (initial w) (first_joint w)
  first_joined = joint_joined w accepted

  pub story : IsStory w x h.calls
  unfolding definitions
  story = record {
    at_sites = h.course.at_sites;
    journals_are = λ i j e. let n = node_of i j e in
        subst (λ (z : Joint). HasRun (rounds_of z.book z.sites) i j) (sym h.course.ran) (subst (HasRun (rounds_of y.book y.sites) i) n.1.1 (is_of i n.0 (h.course.near i n.0 n.1.0)));
    sites = λ i j e up. let n = node_of i j e in
        subst (λ (z : Joint). slice_get z.sites i ≡ Some j.site) (sym h.course.ran) (subst (λ (l : Journal). slice_get y.sites i ≡ Some l.site) n.1.1 (site_there i n.0 (h.course.near i n.0 n.1.0) (ap (λ (l : Journal). l.site.round) n.1.1 ∙ up ∙ ap (λ (z : Joint). length z.book.closed) h.course.ran)));
    answered = λ i j e. subst (λ (z : Joint). IsAnswered (rounds_of z.book z.sites) i j) (sym h.course.ran) (answered (rounds_of y.book y.sites) i j (base_is i j e));
    once = λ i n e. is_once i n e (h.course.near i n e);
    serial = subst (λ (z : Joint). IsSerialFrom w (initial w) (core.history_of z.book z.sites)) (sym h.course.ran) (serial_joined w (initial w) y.book y.sites accepted h.course.joined);
    follows = made_follows w (initial w) accepted h.calls (first_joint w) [] h.course.at_sites first_joined (first_follows w);
  }

  maps_same : {X : Type 0} (f : Left → X) (g : Round → X) (i : ℕ) → ((q : Round) → f (left_of i q) ≡ g q) → (qs : List Round) → map f (map (left_of i) qs) ≡ map g qs
  maps_same f g i same [] = refl
  maps_same f g i same (q ∷ qs) = let here = same q in let rest = maps_same f g i same qs in cc

  module _ (i k : ℕ) (j l : Journal) (e : slice_get (journals x) i ≡ Some j) (f : slice_get (journals x) k ≡ Some l) (same : j.site.round ≡ l.site.round) where
    a : HasRun (rounds_of y.book y.sites) i j
    a = base_is i j e

    b : HasRun (rounds_of y.book y.sites) k l
    b = base_is k l f

    one : a.round ≡ b.round
    one =
        one_placed (rounds_of y.book y.sites) l.site.round a.round b.round (subst (λ n. slice_get (rounds_of y.book y.sites) n ≡ Some a.round) same a.here) b.here

    base_of_left : (n : ℕ) (q : Round) → (left_of n q).base ≡ q.base
    unfolding definitions
    base_of_left n q = refl

    closing_of_left : (n : ℕ) (q : Round) → (left_of n q).closing ≡ q.closing
    unfolding definitions
    closing_of_left n q = refl

    pub round_here : IsOneRound j l
    round_here = record {
      base = a.base ∙ ap (λ (r : Round). r.base) one ∙ sym b.base;
      bases =
          ap (map (λ (r : Left). r.base)) a.left
          ∙ maps_same (λ (r : Left). r.base) (λ (q : Round). q.base) i (base_of_left i) (take j.site.round (rounds_of y.book y.sites))
          ∙ ap (λ n. map (λ (q : Round). q.base) (take n (rounds_of y.book y.sites))) same
          ∙ sym (ap (map (λ (r : Left). r.base)) b.left ∙ maps_same (λ (r : Left). r.base) (λ (q : Round). q.base) k (base_of_left k) (take l.site.round (rounds_of y.book y.sites)));
      closings =
          ap (map (λ (r : Left). r.closing)) a.left
          ∙ maps_same (λ (r : Left). r.closing) (λ (q : Round). q.closing) i (closing_of_left i) (take j.site.round (rounds_of y.book y.sites))
          ∙ ap (λ n. map (λ (q : Round). q.closing) (take n (rounds_of y.book y.sites))) same
          ∙ sym (ap (map (λ (r : Left). r.closing)) b.left ∙ maps_same (λ (r : Left). r.closing) (λ (q : Round). q.closing) k (closing_of_left k) (take l.site.round (rounds_of y.book y.sites)));
    }

pub one_story : OneStory
unfolding definitions
one_story w events accepted =
    let h = reached_holds w events accepted in
    (h.calls, story w (reached w events) accepted h)

pub one_round : OneRound
unfolding definitions
one_round w events accepted i k j l one other same =
    round_here w (reached w events) accepted (reached_holds w events accepted) i k j l one other same

-- ---- packets
sent_of : (ps : List Packet) (p : Packet) (k : ℕ) → k < length ps → slice_index_or ps k p ≡ p → Sent ps p
sent_of [] p k lt e = absurd (omega (arith, lt))
sent_of (q ∷ ps) p zero lt e = inl e
sent_of (q ∷ ps) p (suc k) lt e = inr (sent_of ps p k (omega (arith, lt)) e)

pub sent : (ps : List Packet) (p : Packet) → Contains ps p → Sent ps p
sent ps p h = sent_of ps p h.0 h.1 h.2

contains_next : (ps : List Packet) (q p : Packet) → Contains ps p → Contains (q ∷ ps) p
contains_next ps q p h = let lt = h.1 in (suc h.0, omega (arith, lt), h.2)

pub contains : (ps : List Packet) (p : Packet) → Sent ps p → Contains ps p
contains [] p h = absurd h
contains (q ∷ ps) p h = ⊎_elim (λ e. (zero, omega arith, e)) (λ r. contains_next ps q p (contains ps p r)) h

pub sent_before : SentBefore
unfolding definitions
sent_before w events i n p accepted here again =
    let held = reached_holds w events accepted in
    contains (reached w events).packets p (resent_sent w (reached w events).packets i n (held.talk.nodes i n here) p (sent (resent n) p again))

pub one_each : OneEachRound
unfolding definitions
one_each w events accepted =
    let one = (reached_holds w events accepted).talk.one in
    let ps = (reached w events).packets in
    record {
      stop = λ a b e f same. one.stop a b (sent ps (Stop a) e) (sent ps (Stop b) f) same;
      state = λ r i d d' e f. one.state r i d d' (sent ps (State r i d) e) (sent ps (State r i d') f);
    }

pub few_carried : FewCarried
unfolding definitions
few_carried w events r i said accepted e =
    ((reached_holds w events accepted).talk.packets (State r i said) (sent (reached w events).packets (State r i said) e)).0.few
