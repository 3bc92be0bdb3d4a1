-- What a node in memory stands for, and what it does with calls.
use Rattle.homeo_site.specs.Key.{definitions as site_definitions}
use Rattle.homeo_nodes.specs.Key.{definitions as node_definitions}
use Rattle.std.proofs.Common.{◌≡◌, ◌<◌, ◌≤◌, List, drop, [], ◌∷◌, ◌++◌, map, length, get_or, false, cond, ℤ, Option, Some, None, refl, sym, ap, subst, ◌∙◌, arith}
use Rattle.std.specs.Prelude.{All, nat_lt}
use Rattle.std.proofs.lemmas.Bool.Decides.{nat_tests}
use Rattle.std.proofs.lemmas.List.{append-nil, drop_more, map-append}
use Rattle.std.proofs.lemmas.List.Elements.{All-head}
use Rattle.std.proofs.lemmas.Bool.{cond-true, cond-false}
use Rattle.homeo_lemmas.proofs.Bools.{cond_same}
use Rattle.homeo_syntax.specs.Source as s
use Rattle.homeo_syntax.specs.SourceView.{plain_workload}
use Rattle.homeo_syntax.specs.declared.workload.Workload.{Workload}
use Rattle.homeo_meaning.specs.declared.call.CallId.{CallId}
use Rattle.homeo_plan.specs.declared.treaty.Broken.{Broken}
use Rattle.homeo_site.specs.BareView.{BareValue, after_bare}
use Rattle.homeo_site.specs.SiteState.{SiteState, step_prints, step_finding}
use Rattle.homeo_nodes.specs.declared.breach.Breach.{Breach}
use Rattle.homeo_nodes.specs.declared.breach.Mode.{Mode}
use Rattle.homeo_nodes.specs.declared.breach.Mode.TheVariants.{Running, Waiting, Stopped}
use Rattle.homeo_nodes.specs.Nodes as n
use Rattle.homeo_nodes.specs.Small.{Small, small, grown}
use Rattle.homeo_carry.specs.declared.bounds.Bounds.{Bounds}
use Rattle.homeo_carry.specs.declared.said.Said.{Said}
use Rattle.homeo_live.specs.declared.packet.Packet.{Packet}
use Rattle.homeo_live.specs.declared.packet.Step.{Step}
use Rattle.homeo_live.specs.declared.state.Past.{Past}
use Rattle.homeo_live.specs.LiveView.{plain_packet, plain_step, LiveValue, IsReaction}
use Rattle.homeo_live.specs.inner.Standing.{node_of, IsModeOf, AreCallsOf, IsLive}

abbrev pub value_in : Workload → SiteState → Mode → Option Breach → List (Option Said) → Option Past → List CallId → LiveValue
value_in work x mode decided states past queue = record { work = work; node = node_of x mode decided states past queue }

-- ---- the invariant, with another site, mode or queue
pub live_site : (work : Workload) (bounds : List Bounds) (site next : BareValue) (mode after : Mode) (states : List (Option Said)) (past : Option Past) (queue rest : List CallId) → IsLive work bounds site mode states past queue → next.work ≡ site.work → next.state.segment ≡ [] → IsModeOf (plain_workload work) after → AreCallsOf (plain_workload work) next.state.number rest → IsLive work bounds next after states past rest
live_site work bounds site next mode after states past queue rest live same empty can calls = record {
  work_is = same ∙ live.work_is;
  accepted = live.accepted;
  empty = empty;
  bounds_are = live.bounds_are;
  count = live.count;
  mode_of = can;
  past_long = live.past_long;
  waiting = calls;
}

pub after_empty : (w : s.Workload) (x y : SiteState) (call : CallId) → y ≡ after_bare w x call → y.segment ≡ []
unfolding site_definitions
after_empty w x y call e = ap (λ (z : SiteState). z.segment) e

pub after_number : (w : s.Workload) (x y : SiteState) (call : CallId) → y ≡ after_bare w x call → y.number ≡ x.number
unfolding site_definitions
after_number w x y call e = ap (λ (z : SiteState). z.number) e

-- ---- the queue
pub first_of : {X : Type 0} (xs : List X) (x : X) → 0 < length xs → x ≡ get_or xs 0 x → xs ≡ x ∷ drop 1 xs
first_of xs x lt e = drop_more xs 0 x lt ∙ ap (λ z. z ∷ drop 1 xs) (sym e)

pub first_at : {X : Type 0} (P : X → Type 0) (x : X) (xs ys : List X) → ys ≡ x ∷ xs → All P ys → P x
first_at P x xs ys e h = All-head P x xs (subst (All P) e h)

asked_held : (call : CallId) (y : Small) → 64 ≤ length y.queue → n.asked call (grown y) ≡ n.stays (grown y) n.Held
unfolding node_definitions
asked_held call y many =
    cond-false (nat_lt (length y.queue) 64) _ (n.stays (grown y) n.Held) (grind (arith, nat_tests, many))

pub held_node : (call : CallId) (y : Small) → 64 ≤ length y.queue → y ≡ small (n.asked call (grown y)).node
unfolding node_definitions
held_node call y many = ap (λ (r : n.Reaction). small r.node) (sym (asked_held call y many))

pub held_step : (call : CallId) (y : Small) → 64 ≤ length y.queue → n.Held ≡ (n.asked call (grown y)).step
held_step call y many = ap (λ (r : n.Reaction). r.step) (sym (asked_held call y many))

asked_queued : (call : CallId) (y : Small) → length y.queue < 64 → (small (n.asked call (grown y)).node ≡ record y { queue = y.queue ++ call ∷ [] }) × ((n.asked call (grown y)).step ≡ n.Queued)
unfolding node_definitions
asked_queued call y few =
    let is = cond-true (nat_lt (length y.queue) 64) _ (n.stays (grown y) n.Held) (grind (arith, nat_tests, few)) in
    (ap (λ (r : n.Reaction). small r.node) is, ap (λ (r : n.Reaction). r.step) is)

pub queued_node : (work : Workload) (x : SiteState) (mode : Mode) (decided : Option Breach) (states : List (Option Said)) (past : Option Past) (queue : List CallId) (u : LiveValue) → value_in work x mode decided states past queue ≡ u → (call : CallId) (more : List CallId) → length queue < 64 → more ≡ queue ++ call ∷ [] → node_of x mode decided states past more ≡ small (n.asked call (grown u.node)).node
queued_node work x mode decided states past queue u is call more few pushed =
    ap (node_of x mode decided states past) pushed
    ∙ sym (asked_queued call (node_of x mode decided states past queue) few).0
    ∙ ap (λ (v : LiveValue). small (n.asked call (grown v.node)).node) is

pub queued_step : (call : CallId) (y : Small) → length y.queue < 64 → n.Queued ≡ (n.asked call (grown y)).step
queued_step call y few = sym (asked_queued call y few).1

-- a reaction that changes nothing
pub idle_is : (r : n.Reaction) (y : Small) (before after : List Packet) (step : Step) (came : n.Step) → r ≡ n.stays (grown y) came → after ≡ before → plain_step step ≡ came → IsReaction r y before after step
unfolding node_definitions
idle_is r y before after step came is sent same =
    subst (λ q. IsReaction q y before after step) (sym is) (record { node = refl; sends = ap (map plain_packet) sent ∙ sym (append-nil (map plain_packet before)); came_to = same })

-- ---- by its mode
not_running : (m : Mode) → (m ≡ Running → ⊥) → n.is_running m ≡ false
not_running Running other = absurd (other refl)
not_running (Waiting b) other = refl
not_running (Stopped b) other = refl

pub served_running : (w : s.Workload) (y : Small) → y.mode ≡ Running → n.served w (grown y) ≡ n.served_by w (grown y) y.queue
unfolding node_definitions
served_running w y e =
    cond-true (n.is_running y.mode) (n.served_by w (grown y) y.queue) (n.stays (grown y) n.Held) (ap n.is_running e)

pub served_held : (w : s.Workload) (y : Small) → (y.mode ≡ Running → ⊥) → n.served w (grown y) ≡ n.stays (grown y) n.Held
unfolding node_definitions
served_held w y other =
    cond-false (n.is_running y.mode) (n.served_by w (grown y) y.queue) (n.stays (grown y) n.Held) (not_running y.mode other)

pub served_none : (w : s.Workload) (y : Small) → y.queue ≡ [] → n.served w (grown y) ≡ n.stays (grown y) n.Held
unfolding node_definitions
served_none w y e =
    ap (λ l. cond (n.is_running y.mode) (n.served_by w (grown y) l) (n.stays (grown y) n.Held)) e ∙ cond_same (n.is_running y.mode) (n.stays (grown y) n.Held)

-- ---- the first call that waits
module _ (work v : Workload) (x : SiteState) (mode : Mode) (decided : Option Breach) (states : List (Option Said)) (past : Option Past) (queue : List CallId) (u : LiveValue) (is : value_in work x mode decided states past queue ≡ u) (same : v ≡ work) (call : CallId) (rest : List CallId) (first : queue ≡ call ∷ rest) (before after : List Packet) (step : Step) where
  abbrev own : n.Node
  own = grown (node_of x mode decided states past queue)

  abbrev serves : Workload → Small → n.Reaction
  serves z y = n.served_by (plain_workload z) (grown y) y.queue

  abbrev w : s.Workload
  w = plain_workload work

  named : (new : Small) → IsReaction (serves work (node_of x mode decided states past queue)) new before after step → IsReaction (serves u.work u.node) new before after step
  named new h = subst (λ (y : LiveValue). IsReaction (serves y.work y.node) new before after step) is h

  tries : (new : Small) (o : Option Broken) → step_finding (plain_workload v) x call ≡ o → IsReaction (n.tried w own call rest o) new before after step → IsReaction (serves work (node_of x mode decided states past queue)) new before after step
  unfolding node_definitions site_definitions
  tries new o e h =
      let found : step_finding w x call ≡ o = ap (λ (z : Workload). step_finding (plain_workload z) x call) (sym same) ∙ e in
      subst (λ l. IsReaction (n.served_by w own l) new before after step) (sym first) (subst (λ f. IsReaction (n.tried w own call rest f) new before after step) (sym found) h)

  kept_here : (y : SiteState) (prints : List ℤ) → prints ≡ step_prints (plain_workload v) x call → y ≡ after_bare (plain_workload v) x call → plain_step step ≡ n.Kept call prints → after ≡ before → IsReaction (n.tried w own call rest None) (node_of y mode decided states past rest) before after step
  unfolding node_definitions site_definitions
  kept_here y prints printed left came sent = record {
    node = ap (λ z. node_of z mode decided states past rest) (left ∙ ap (λ (z : Workload). after_bare (plain_workload z) x call) same);
    sends = ap (map plain_packet) sent ∙ sym (append-nil (map plain_packet before));
    came_to = came ∙ ap (n.Kept call) (printed ∙ ap (λ (z : Workload). step_prints (plain_workload z) x call) same);
  }

  pub kept_call : (y : SiteState) (prints : List ℤ) → step_finding (plain_workload v) x call ≡ None → prints ≡ step_prints (plain_workload v) x call → y ≡ after_bare (plain_workload v) x call → plain_step step ≡ n.Kept call prints → after ≡ before → IsReaction (serves u.work u.node) (node_of y mode decided states past rest) before after step
  kept_call y prints none printed left came sent =
      named (node_of y mode decided states past rest) (tries (node_of y mode decided states past rest) None none (kept_here y prints printed left came sent))

  wanted_here : (y : SiteState) (broken : Broken) (b : Breach) (mid : List Packet) (p : Packet) → y ≡ x → b ≡ record { round = x.round; site = x.number; call = call; broken = broken } → plain_packet p ≡ n.Want b → mid ≡ before → after ≡ mid ++ p ∷ [] → plain_step step ≡ n.Wanted broken → IsReaction (n.tried w own call rest (Some broken)) (node_of y (Waiting b) decided states past queue) before after step
  unfolding node_definitions site_definitions
  wanted_here y broken b mid p stays breach packet sent more came = record {
    node = ap (λ z. node_of z (Waiting b) decided states past queue) stays ∙ ap (λ c. node_of x (Waiting c) decided states past queue) breach;
    sends =
        ap (map plain_packet) (more ∙ ap (λ l. l ++ p ∷ []) sent) ∙ map-append plain_packet before (p ∷ [])
        ∙ ap (λ q. map plain_packet before ++ q ∷ []) (packet ∙ ap n.Want breach);
    came_to = came;
  }

  pub wanted_call : (y : SiteState) (broken : Broken) (b : Breach) (mid : List Packet) (p : Packet) → step_finding (plain_workload v) x call ≡ Some broken → y ≡ x → b ≡ record { round = x.round; site = x.number; call = call; broken = broken } → plain_packet p ≡ n.Want b → mid ≡ before → after ≡ mid ++ p ∷ [] → plain_step step ≡ n.Wanted broken → IsReaction (serves u.work u.node) (node_of y (Waiting b) decided states past queue) before after step
  wanted_call y broken b mid p breaks stays breach packet sent more came =
      named (node_of y (Waiting b) decided states past queue) (tries (node_of y (Waiting b) decided states past queue) (Some broken) breaks (wanted_here y broken b mid p stays breach packet sent more came))
