-- What inputs make of the calls that wait.
use Rattle.homeo_history.specs.Key.{definitions as history_definitions}
use Rattle.homeo_site.specs.Key.{definitions as site_definitions}
use Rattle.homeo_nodes.specs.Key.{definitions}
use Rattle.std.proofs.Common.{◌≡◌, ℕ, ◌<◌, min, List, [], ◌∷◌, ◌++◌, map, length, take, drop, Bool, true, false, cond, eqb, Option, Some, None, refl, sym, ap, subst, ◌∙◌, arith, slice_set, slice_index_or, ℤ}
use Rattle.std.specs.Prelude.{nat_lt, ◌&&◌, is_some, not}
use Rattle.std.proofs.Math.Seq.{take-length}
use Rattle.std.proofs.lemmas.List.{length-take, take-append-le, take-append-drop}
use Rattle.homeo_syntax.specs.Listed.{Listed}
use Rattle.homeo_syntax.specs.Source as s
use Rattle.homeo_meaning.specs.declared.call.CallId.{CallId}
use Rattle.homeo_plan.specs.declared.treaty.Broken.{Broken}
use Rattle.homeo_plan.specs.Planned.{sites_of}
use Rattle.homeo_history.specs.Answers as h
use Rattle.homeo_history.proofs.Lists.{get_some, get_index, get_set_same, get_set_other, length_set}
use Rattle.homeo_site.specs.SiteState.{step_finding}
use Rattle.homeo_nodes.specs.declared.breach.Breach.{Breach}
use Rattle.homeo_nodes.specs.declared.breach.Mode.{Mode}
use Rattle.homeo_nodes.specs.declared.breach.Mode.TheVariants.{Running, Waiting, Stopped}
use Rattle.homeo_nodes.specs.Nodes as n
use Rattle.homeo_nodes.specs.Nodes.{Said, Node, Reaction, Packet, rest_of, calls_at, own_calls, answers_then, all_of, settled_by, settled, told_by, closing_step, closed, stopped, keeping, said_by, has_state, is_stopped, is_arbiter, taken, received, tried, served_by, served, asked}
use Rattle.homeo_nodes.specs.Small.{Small, small, grown}
use Rattle.homeo_nodes.specs.Told.{told}
use Rattle.homeo_nodes.proofs.Brief.{brief_closes}
use Rattle.homeo_nodes.proofs.Places.{length_replicate, AreThere, all_there}
use Rattle.std.proofs.lemmas.Bool.Decides.{nat_tests}
use Rattle.std.proofs.lemmas.Bool.{eqb-true, cond-true}
use Rattle.homeo_live.specs.Key.{definitions as live_definitions}
use Rattle.homeo_live.specs.declared.packet.Step.TheVariants as live
use Rattle.homeo_live.specs.declared.packet.Step.{Step}
use Rattle.homeo_live.specs.LiveView.{plain_step}
use Rattle.homeo_desk.specs.DeskView.{IsFirst, HasSaid, IsStopped, KeepsFirst}
use Rattle.homeo_desk.specs.inner.Keeping.{FitsQueue, closed_by}
use Rattle.homeo_desk.proofs.Answering.{answers_own}
use Rattle.homeo_desk.proofs.Placing.{Rises, rounds_of, closing_rises}

abbrev nothing : Said
nothing = record { deltas = []; calls = [] }

-- ---- the first calls that wait are those that are made when the node closes its round
first_of : (queue cs : List CallId) (call : CallId) → take 1 queue ≡ call ∷ [] → take (length cs) queue ≡ cs →
    take (length (call ∷ rest_of cs)) queue ≡ call ∷ rest_of cs
first_of [] cs call e f = absurd (cc)
first_of (q ∷ qs) [] call e f = e
first_of (q ∷ qs) (c ∷ cs) call e f =
    let one : q ≡ call = cc in
    let more : take (length cs) qs ≡ cs = cc in
    ap (λ d. d ∷ take (length cs) qs) one ∙ ap (λ l. call ∷ l) more

own_first : (u : Breach) (i : ℕ) (said : Said) (queue : List CallId) → IsFirst u i queue → take (length said.calls) queue ≡ said.calls →
    let own = cond (eqb i u.site) (u.call ∷ []) [] ++ calls_at u i said in take (length own) queue ≡ own
own_first u i said queue first begins = go (eqb i u.site) refl
  where
    go : (t : Bool) → eqb i u.site ≡ t →
        let own = cond t (u.call ∷ []) [] ++ cond t (rest_of said.calls) said.calls in take (length own) queue ≡ own
    go true e = first_of queue said.calls u.call (first (sym (eqb-true i u.site e))) begins
    go false e = begins

said_is : (o : Option Said) (x : Said) (queue : List CallId) → o ≡ Some x → HasSaid o queue → take (length x.calls) queue ≡ x.calls
said_is None x queue e has = absurd has
said_is (Some y) x queue e has = let same : y ≡ x = cc in subst (λ z. take (length z.calls) queue ≡ z.calls) same has

closing_first : (u : Breach) (i : ℕ) (states : List (Option Said)) (all : List Said) (queue : List CallId) → i < length states → all_of states ≡ Some all →
    IsStopped (Stopped u) i states queue → take (length (own_calls u all i)) queue ≡ own_calls u all i
unfolding definitions
closing_first u i states all queue own kept stops =
    let there : AreThere states all = all_there states all kept in
    let y = get_some all i (subst (λ k. i < k) (sym there.long) own) in
    let said : slice_index_or states i None ≡ Some y.0 = get_index states i (Some y.0) None (there.each i y.0 y.1) in
    subst (λ x. let calls = cond (eqb i u.site) (u.call ∷ []) [] ++ calls_at u i x in take (length calls) queue ≡ calls)
    (sym (get_index all i y.0 nothing y.1))
    (own_first u i y.0 queue stops.0 (said_is (slice_index_or states i None) y.0 queue said stops.1))

-- ---- a reaction keeps these
pub record Keeps (w : s.Workload) (x : Node) (r : Reaction) : Type 0 where
  pub queue : x.queue ≡ map h.called (told x r.step) ++ r.node.queue
  pub first : KeepsFirst (small r.node)
  pub number : r.node.journal.site.number ≡ x.journal.site.number
  pub states : length r.node.states ≡ sites_of w
  pub rises : Rises x.journal.site.round (rounds_of (told x r.step)) r.node.journal.site.round

-- and tells nothing but what the end of a round does
pub record Closes (w : s.Workload) (x : Node) (r : Reaction) : Type 0 where
  pub keeps : Keeps w x r
  pub told_is : told x r.step ≡ closed_by r.step

module _ (w : s.Workload) (x : Node) (below : x.journal.site.number < sites_of w) (long : length x.states ≡ sites_of w) (was : KeepsFirst (small x)) where
  by_test : (t : Bool) (r q : Reaction) → (t ≡ true → Closes w x r) → (t ≡ false → Closes w x q) → Closes w x (cond t r q)
  by_test true r q f g = f refl
  by_test false r q f g = g refl

  unchanged : (step : n.Step) → told x step ≡ [] → closed_by step ≡ [] → Closes w x (n.stays x step)
  unfolding definitions
  unchanged step none closed = record {
    keeps = record {
      queue = ap (λ ts. map h.called ts ++ x.queue) (sym none);
      first = was;
      number = refl;
      states = long;
      rises = subst (λ ts. Rises x.journal.site.round (rounds_of ts) x.journal.site.round) (sym none) (omega arith);
    };
    told_is = none ∙ sym closed;
  }

  -- a node of this number, with these calls and so many places, goes on
  module _ (y : Node) (sends : List Packet) (same : y.queue ≡ x.queue) (numbered : y.journal.site.number ≡ x.journal.site.number) (in_round : y.journal.site.round ≡ x.journal.site.round) (as_long : length y.states ≡ sites_of w) (first : KeepsFirst (small y)) where
    at_once : Closes w x (record { node = y; sends = sends; step = n.Taken })
    unfolding definitions
    at_once = record {
      keeps = record { queue = sym same; first = first; number = numbered; states = as_long; rises = omega (arith, in_round) };
      told_is = refl;
    }

    by_states : (m : Mode) (o : Option (List Said)) → y.mode ≡ m → all_of y.states ≡ o →
        Closes w x (record { node = settled_by w y m o; sends = sends; step = told_by w y m o })
    unfolding definitions
    by_states Running o e f = at_once
    by_states (Waiting b) o e f = at_once
    by_states (Stopped u) None e f = at_once
    by_states (Stopped u) (Some all) e f =
        let i : ℕ = y.journal.site.number in
        let own : i < sites_of w = subst (λ k. k < sites_of w) (sym numbered) below in
        let places : i < length y.states = subst (λ k. i < k) (sym as_long) own in
        let all_long : length all ≡ sites_of w = (all_there y.states all f).long ∙ as_long in
        let stops : IsStopped (Stopped u) i y.states y.queue = subst (λ m. IsStopped m i y.states y.queue) e first in
        let begins : take (length (own_calls u all i)) y.queue ≡ own_calls u all i = closing_first u i y.states all y.queue places f stops in
        let told_calls : map h.called (answers_then w u all y.journal) ≡ own_calls u all i = answers_own w u all y.journal all_long own in
        record {
          keeps = record {
            queue =
                sym same ∙ sym (take-append-drop (length (own_calls u all i)) y.queue)
                ∙ ap (λ cs. cs ++ drop (length (own_calls u all i)) y.queue) (begins ∙ sym told_calls);
            first = tt;
            number = (brief_closes w u all y.journal all_long own).number ∙ numbered;
            states = length_replicate (sites_of w) None;
            rises = subst (λ k. Rises k (rounds_of (answers_then w u all y.journal)) (closed w u all y.journal).site.round) in_round (closing_rises w u all y.journal all_long own);
          };
          told_is = refl;
        }

    settles : Closes w x (record { node = settled w y; sends = sends; step = closing_step w y })
    unfolding definitions
    settles = by_states y.mode (all_of y.states) refl refl

  -- ---- a packet
  -- a node that stops says all calls that wait
  stop_first : (b : Breach) → IsFirst b x.journal.site.number x.queue → KeepsFirst (small (stopped x b))
  unfolding definitions
  stop_first b fits =
      let i : ℕ = x.journal.site.number in
      let y = get_some x.states i (subst (λ k. i < k) (sym long) below) in
      let said : slice_index_or (slice_set x.states i (Some (said_by x))) i None ≡ Some (said_by x) =
      get_index (slice_set x.states i (Some (said_by x))) i (Some (said_by x)) None (get_set_same x.states i y.0 (Some (said_by x)) y.1) in
      (fits, subst (λ o. HasSaid o x.queue) (sym said) (take-length x.queue))

  -- what another says is no matter
  other_said : (m : Mode) (site : ℕ) (said : Said) → is_some (slice_index_or x.states site None) ≡ false → IsStopped m x.journal.site.number x.states x.queue →
      IsStopped m x.journal.site.number (slice_set x.states site (Some said)) x.queue
  other_said Running site said lacks stops = tt
  other_said (Waiting b) site said lacks stops = tt
  other_said (Stopped b) site said lacks stops =
      let i : ℕ = x.journal.site.number in
      let there = get_some x.states i (subst (λ k. i < k) (sym long) below) in
      let here : slice_index_or x.states i None ≡ there.0 = get_index x.states i there.0 None there.1 in
      let other : i ≡ site → ⊥ = λ e. no_said (slice_index_or x.states i None) (subst (λ k. is_some (slice_index_or x.states k None) ≡ false) (sym e) lacks) stops.1 in
      let same : slice_index_or (slice_set x.states site (Some said)) i None ≡ slice_index_or x.states i None =
      get_index (slice_set x.states site (Some said)) i there.0 None (get_set_other x.states site i (Some said) other ∙ there.1) ∙ sym here in
      (stops.0, subst (λ o. HasSaid o x.queue) (sym same) stops.1)
    where
      no_said : (o : Option Said) → is_some o ≡ false → HasSaid o x.queue → ⊥
      no_said None e has = has
      no_said (Some y) e has = absurd (cc)

  takes : (p : Packet) → FitsQueue p x.journal.site.number x.queue → Closes w x (taken w x p)
  unfolding definitions
  takes (n.Want b) fits =
      by_test (is_arbiter w x && not (is_some x.decided)) _ _
      (λ e. record { keeps = record { queue = refl; first = was; number = refl; states = long; rises = omega arith }; told_is = refl })
      (λ e. unchanged n.Ignored refl refl)
  takes (n.Stop b) fits =
      by_test (is_stopped x.mode) _ _ (λ e. unchanged n.Ignored refl refl)
      (λ e. settles (stopped x b) _ refl refl refl (length_set x.states x.journal.site.number (Some (said_by x)) ∙ long) (stop_first b fits))
  takes (n.State round site said) fits =
      by_test (has_state x.states site) _ _ (λ e. unchanged n.Ignored refl refl)
      (λ e. settles (keeping x site said) _ refl refl refl (length_set x.states site (Some said) ∙ long) (other_said x.mode site said e was))

  pub receives : (p : Packet) → FitsQueue p x.journal.site.number x.queue → Closes w x (received w p x)
  unfolding definitions
  receives p fits = by_test (eqb (n.round_of p) x.journal.site.round) _ _ (λ e. takes p fits) (λ e. unchanged n.Ignored refl refl)

  -- ---- a call
  tries : (call : CallId) (queue : List CallId) (o : Option Broken) → x.queue ≡ call ∷ queue → is_stopped x.mode ≡ false → Keeps w x (tried w x call queue o)
  unfolding definitions history_definitions site_definitions
  tries call queue None e runs = record { queue = e; first = not_stopped x.mode runs; number = refl; states = long; rises = (omega arith, omega arith) }
    where
      not_stopped : (m : Mode) → is_stopped m ≡ false → IsStopped m x.journal.site.number x.states queue
      not_stopped Running f = tt
      not_stopped (Waiting b) f = tt
      not_stopped (Stopped b) f = absurd (cc)
  tries call queue (Some broken) e runs = record { queue = refl; first = tt; number = refl; states = long; rises = omega arith }

  serves_by : (queue : List CallId) → x.queue ≡ queue → is_stopped x.mode ≡ false → Keeps w x (served_by w x queue)
  unfolding definitions
  serves_by [] e runs = (unchanged n.Held refl refl).keeps
  serves_by (call ∷ queue) e runs = tries call queue (step_finding w x.journal.site call) e runs

  pub serves : Keeps w x (served w x)
  unfolding definitions
  serves = go x.mode refl
    where
      go : (m : Mode) → x.mode ≡ m → Keeps w x (cond (n.is_running m) (served_by w x x.queue) (n.stays x n.Held))
      go Running e = serves_by x.queue refl (ap is_stopped e)
      go (Waiting b) e = (unchanged n.Held refl refl).keeps
      go (Stopped b) e = (unchanged n.Held refl refl).keeps

-- ---- a call more waits
more_first : (cs queue : List CallId) (call : CallId) → take (length cs) queue ≡ cs → take (length cs) (queue ++ call ∷ []) ≡ cs
more_first cs queue call e =
    let long : min (length cs) (length queue) ≡ length cs = sym (length-take (length cs) queue) ∙ ap length e in
    take-append-le (length cs) queue (call ∷ []) (omega (arith, long)) ∙ e

more_said : (o : Option Said) (queue : List CallId) (call : CallId) → HasSaid o queue → HasSaid o (queue ++ call ∷ [])
more_said None queue call has = has
more_said (Some said) queue call has = more_first said.calls queue call has

pub more_waits : (m : Mode) (i : ℕ) (states : List (Option Said)) (queue : List CallId) (call : CallId) → IsStopped m i states queue → IsStopped m i states (queue ++ call ∷ [])
more_waits Running i states queue call stops = tt
more_waits (Waiting b) i states queue call stops = tt
more_waits (Stopped b) i states queue call stops =
    (λ e. more_first (b.call ∷ []) queue call (stops.0 e), more_said (slice_index_or states i None) queue call stops.1)

-- ---- a served call alone is told
-- what a step tells that isn't the end of a round
made_by : Node → n.Step → List h.Answer
made_by x n.Queued = []
made_by x (n.Kept call prints) = told x (n.Kept call prints)
made_by x (n.Wanted broken) = []
made_by x n.Held = []
made_by x n.Taken = []
made_by x n.Ignored = []
made_by x (n.Closed answers) = []
made_by x n.Told = []

served_told : (w : s.Workload) (x : Node) → told x (served w x).step ≡ made_by x (served w x).step
unfolding definitions made_by
served_told w x = go (n.is_running x.mode)
  where
    tries_told : (call : CallId) (queue : List CallId) (o : Option Broken) → told x (tried w x call queue o).step ≡ made_by x (tried w x call queue o).step
    tries_told call queue None = refl
    tries_told call queue (Some broken) = refl

    by : (queue : List CallId) → told x (served_by w x queue).step ≡ made_by x (served_by w x queue).step
    by [] = refl
    by (call ∷ queue) = tries_told call queue (step_finding w x.journal.site call)

    go : (t : Bool) → told x (cond t (served_by w x x.queue) (n.stays x n.Held)).step ≡ made_by x (cond t (served_by w x x.queue) (n.stays x n.Held)).step
    go true = by x.queue
    go false = refl

pub nothing_served : (w : s.Workload) (x : Node) (step : Step) → ((call : CallId) (prints : Listed ℤ) → step ≡ live.Kept call prints → ⊥) → plain_step step ≡ (served w x).step →
    told x (served w x).step ≡ []
unfolding definitions live_definitions made_by
nothing_served w x step other came = served_told w x ∙ sym (ap (made_by x) came) ∙ by step other
  where
    by : (step : Step) → ((call : CallId) (prints : Listed ℤ) → step ≡ live.Kept call prints → ⊥) → made_by x (plain_step step) ≡ []
    by live.Queued other = refl
    by (live.Kept call prints) other = absurd (other call prints refl)
    by (live.Wanted broken) other = refl
    by live.Held other = refl
    by live.Taken other = refl
    by live.Ignored other = refl
    by (live.Closed answers) other = refl

-- ---- a call is taken on
module _ (x : Small) (call : CallId) (room : length x.queue < 64) where
  abbrev waits : Reaction
  waits = record {
    node = record (grown x) {
      journal = record { site = (grown x).journal.site; left = []; asked = [] ++ call ∷ [] };
      queue = x.queue ++ call ∷ [];
    };
    sends = [];
    step = n.Queued;
  }

  pub asked_is : asked call (grown x) ≡ waits
  unfolding definitions
  asked_is =
      cond-true (nat_lt (length x.queue) 64) waits (n.stays (grown x) n.Held) (let t : nat_lt (length x.queue) 64 ≡ true = grind (arith, nat_tests, room) in t)

  pub asked_told : told (grown x) (asked call (grown x)).step ≡ []
  unfolding definitions
  asked_told = ap (λ (r : Reaction). told (grown x) r.step) asked_is

  pub asked_sends : (asked call (grown x)).sends ≡ []
  unfolding definitions
  asked_sends = ap (λ (r : Reaction). r.sends) asked_is

  pub asked_queue : (small (asked call (grown x)).node).queue ≡ x.queue ++ call ∷ []
  unfolding definitions
  asked_queue = ap (λ (r : Reaction). r.node.queue) asked_is

  pub asked_number : (small (asked call (grown x)).node).number ≡ x.number
  unfolding definitions
  asked_number = ap (λ (r : Reaction). r.node.journal.site.number) asked_is

  pub asked_round : (small (asked call (grown x)).node).round ≡ x.round
  unfolding definitions
  asked_round = ap (λ (r : Reaction). r.node.journal.site.round) asked_is

  pub asked_first : KeepsFirst x → KeepsFirst (small (asked call (grown x)).node)
  unfolding definitions
  asked_first was = subst (λ (r : Reaction). KeepsFirst (small r.node)) (sym asked_is) (more_waits x.mode x.number x.states x.queue call was)
