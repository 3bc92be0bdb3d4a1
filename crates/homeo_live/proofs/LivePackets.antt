-- What a node in memory does with packets.
use Rattle.homeo_nodes.specs.Key.{definitions as node_definitions}
use Rattle.std.proofs.Common.{◌≡◌, ℕ, ◌<◌, List, [], ◌∷◌, ◌++◌, map, Bool, true, false, cond, Option, Some, None, Result, Ok, Err, refl, sym, ap, subst, ◌∙◌, slice_set}
use Rattle.std.specs.Prelude.{IfOk, IfSome, is_some, not, ◌&&◌, ◌==◌, ◌%◌}
use Rattle.std.proofs.lemmas.List.{append-nil, map-append}
use Rattle.std.proofs.lemmas.Bool.{eq-eqb, ne_eqb, cond-true, cond-false}
use Rattle.homeo_syntax.specs.Source as s
use Rattle.homeo_syntax.specs.SourceView.{plain_workload}
use Rattle.homeo_syntax.specs.declared.workload.Workload.{Workload}
use Rattle.homeo_meaning.specs.declared.call.CallId.{CallId}
use Rattle.homeo_plan.specs.Planned.{sites_of}
use Rattle.homeo_history.specs.Legal.{IsCallAt}
use Rattle.homeo_site.specs.SiteState.{SiteState}
use Rattle.homeo_nodes.specs.declared.breach.Breach.{Breach}
use Rattle.homeo_nodes.specs.declared.breach.Mode.{Mode}
use Rattle.homeo_nodes.specs.declared.breach.Mode.TheVariants.{Running, Waiting, Stopped}
use Rattle.homeo_nodes.specs.Coming.{CanClose, CanCome}
use Rattle.homeo_nodes.specs.Nodes as n
use Rattle.homeo_nodes.specs.Small.{Small, small, grown}
use Rattle.homeo_carry.specs.declared.said.Said.{Said}
use Rattle.homeo_live.specs.declared.packet.Packet.{Packet}
use Rattle.homeo_live.specs.declared.packet.Step.{Step}
use Rattle.homeo_live.specs.declared.state.Past.{Past}
use Rattle.homeo_live.specs.LiveView.{plain_packet, plain_step, LiveValue, IsReaction}
use Rattle.homeo_live.specs.inner.Standing.{placed, CanSettle}
use Rattle.homeo_live.proofs.LiveViews.{value_in, idle_is}

-- ---- a Want
abbrev pub may_choose : s.Workload → Small → Bool
may_choose w y = (y.number == (y.round % sites_of w)) && not (is_some y.decided)

pub want_left : (w : s.Workload) (y : Small) (b : Breach) (before : List Packet) (step : Step) → may_choose w y ≡ false → plain_step step ≡ n.Ignored → IsReaction (n.taken w (grown y) (n.Want b)) y before before step
unfolding node_definitions
want_left w y b before step e came =
    idle_is (n.taken w (grown y) (n.Want b)) y before before step n.Ignored (cond-false (may_choose w y) _ (n.stays (grown y) n.Ignored) e) refl came

pub want_taken : (w : s.Workload) (y new : Small) (b : Breach) (before after : List Packet) (p : Packet) (step : Step) → may_choose w y ≡ true → new ≡ record y { decided = Some b } → plain_packet p ≡ n.Stop b → after ≡ before ++ p ∷ [] → plain_step step ≡ n.Taken → IsReaction (n.taken w (grown y) (n.Want b)) new before after step
unfolding node_definitions
want_taken w y new b before after p step e is packet more came =
    subst (λ q. IsReaction q new before after step) (sym (cond-true (may_choose w y) (record { node = record (grown y) { decided = Some b }; sends = n.Stop b ∷ []; step = n.Taken }) (n.stays (grown y) n.Ignored) e)) (record {
      node = is;
      sends = ap (map plain_packet) more ∙ map-append plain_packet before (p ∷ []) ∙ ap (λ q. map plain_packet before ++ q ∷ []) packet;
      came_to = came;
    })

-- as the code computes it
pub choice_is : (work z : Workload) (x : SiteState) (mode : Mode) (decided : Option Breach) (states : List (Option Said)) (past : Option Past) (queue : List CallId) (u : LiveValue) (number round sites : ℕ) (t : Bool) → value_in work x mode decided states past queue ≡ u → z ≡ work → number ≡ x.number → round ≡ x.round → sites ≡ sites_of (plain_workload z) → t ≡ ((number == (round % sites)) && not (is_some decided)) → may_choose (plain_workload u.work) u.node ≡ t
choice_is work z x mode decided states past queue u number round sites t is same a b c e =
    ap (λ (y : LiveValue). may_choose (plain_workload y.work) y.node) (sym is)
    ∙ ap (λ k. (k == (x.round % sites_of (plain_workload work))) && not (is_some decided)) (sym a)
    ∙ ap (λ k. (number == (k % sites_of (plain_workload work))) && not (is_some decided)) (sym b)
    ∙ ap (λ (y : Workload). (number == (round % sites_of (plain_workload y))) && not (is_some decided)) (sym same)
    ∙ ap (λ k. (number == (round % k)) && not (is_some decided)) (sym c)
    ∙ sym e

-- ---- a State, and a Stop
module _ (w : s.Workload) (y : Small) where
  pub left_state : (r k : ℕ) (said : n.Said) → n.has_state y.states k ≡ true → n.taken w (grown y) (n.State r k said) ≡ n.stays (grown y) n.Ignored
  unfolding node_definitions
  left_state r k said there =
      cond-true (n.has_state y.states k) (n.stays (grown y) n.Ignored) (record { node = n.settled w (n.keeping (grown y) k said); sends = []; step = n.closing_step w (n.keeping (grown y) k said) }) there

  abbrev pub keeps : ℕ → n.Said → n.Node
  keeps k said = placed y y.mode (slice_set y.states k (Some said))

  pub taken_state : (r k : ℕ) (said : n.Said) → n.has_state y.states k ≡ false → n.taken w (grown y) (n.State r k said) ≡ record { node = n.settled w (keeps k said); sends = []; step = n.closing_step w (keeps k said) }
  unfolding node_definitions
  taken_state r k said there =
      cond-false (n.has_state y.states k) (n.stays (grown y) n.Ignored) (record { node = n.settled w (n.keeping (grown y) k said); sends = []; step = n.closing_step w (n.keeping (grown y) k said) }) there

  abbrev pub own_said : n.Said
  own_said = record { deltas = y.deltas; calls = y.queue }

  abbrev pub stops : Breach → n.Node
  stops b = placed y (Stopped b) (slice_set y.states y.number (Some own_said))

  pub left_stop : (b c : Breach) → y.mode ≡ Stopped c → n.taken w (grown y) (n.Stop b) ≡ n.stays (grown y) n.Ignored
  unfolding node_definitions
  left_stop b c there =
      cond-true (n.is_stopped y.mode) (n.stays (grown y) n.Ignored) (record { node = n.settled w (n.stopped (grown y) b); sends = n.State y.round y.number own_said ∷ []; step = n.closing_step w (n.stopped (grown y) b) }) (ap n.is_stopped there)

  pub taken_stop : (b : Breach) → n.is_stopped y.mode ≡ false → n.taken w (grown y) (n.Stop b) ≡ record { node = n.settled w (stops b); sends = n.State y.round y.number own_said ∷ []; step = n.closing_step w (stops b) }
  unfolding node_definitions
  taken_stop b there =
      cond-false (n.is_stopped y.mode) (n.stays (grown y) n.Ignored) (record { node = n.settled w (n.stopped (grown y) b); sends = n.State y.round y.number own_said ∷ []; step = n.closing_step w (n.stopped (grown y) b) }) there

pub said_is : (w : s.Workload) (y : Small) (said : n.Said) → said ≡ n.said_by (grown y) → said ≡ own_said w y
unfolding node_definitions
said_is w y said e = e

pub said_here : (work : Workload) (x : SiteState) (mode : Mode) (decided : Option Breach) (states : List (Option Said)) (past : Option Past) (queue : List CallId) (u : LiveValue) (said : n.Said) → value_in work x mode decided states past queue ≡ u → said.deltas ≡ x.deltas → said.calls ≡ queue → said ≡ n.said_by (grown u.node)
unfolding node_definitions
said_here work x mode decided states past queue u said is same waits =
    (λ j. record { deltas = same j; calls = waits j }) ∙ ap (λ (v : LiveValue). n.said_by (grown v.node)) is

pub free_mode : (m : Mode) → ((b : Breach) → m ≡ Stopped b → ⊥) → n.is_stopped m ≡ false
free_mode Running other = refl
free_mode (Waiting b) other = refl
free_mode (Stopped b) other = absurd (other b refl)

some_both : {X : Type 0} {P Q R : X → Type 0} (o : Option X) → ((x : X) → P x → Q x → R x) → IfSome o P → IfSome o Q → IfSome o R
some_both None f h g = tt
some_both (Some x) f h g = f x h g

pub ok_both : {X E : Type 0} {P Q R : X → Type 0} (r : Result (Option X) E) → ((x : X) → P x → Q x → R x) → IfOk r (λ o. IfSome o P) → IfOk r (λ o. IfSome o Q) → IfOk r (λ o. IfSome o R)
ok_both (Ok o) f h g = some_both o f h g
ok_both (Err e) f h g = tt

pub keep_node : (u : LiveValue) (mode : Mode) (sts : List (Option n.Said)) (r k : ℕ) (said : n.Said) (new : Small) → mode ≡ u.node.mode → sts ≡ slice_set u.node.states k (Some said) → n.has_state u.node.states k ≡ false → new ≡ small (n.settled (plain_workload u.work) (placed u.node mode sts)) → new ≡ small (n.taken (plain_workload u.work) (grown u.node) (n.State r k said)).node
keep_node u mode sts r k said new m put free h =
    let w = plain_workload u.work in
    let y = u.node in
    let at : placed y mode sts ≡ keeps w y k said = ap (λ x. placed y x sts) m ∙ ap (placed y y.mode) put in
    h ∙ ap (λ x. small (n.settled w x)) at ∙ ap (λ (q : n.Reaction). small q.node) (sym (taken_state w y r k said free))

pub keep_step : (u : LiveValue) (mode : Mode) (sts : List (Option n.Said)) (r k : ℕ) (said : n.Said) (step : Step) → mode ≡ u.node.mode → sts ≡ slice_set u.node.states k (Some said) → n.has_state u.node.states k ≡ false → plain_step step ≡ n.closing_step (plain_workload u.work) (placed u.node mode sts) → plain_step step ≡ (n.taken (plain_workload u.work) (grown u.node) (n.State r k said)).step
keep_step u mode sts r k said step m put free h =
    let w = plain_workload u.work in
    let y = u.node in
    let at : placed y mode sts ≡ keeps w y k said = ap (λ x. placed y x sts) m ∙ ap (placed y y.mode) put in
    h ∙ ap (n.closing_step w) at ∙ ap (λ (q : n.Reaction). q.step) (sym (taken_state w y r k said free))

pub stop_reaction : (w : s.Workload) (y : Small) (b : Breach) (sts : List (Option n.Said)) (new : Small) (before after : List Packet) (p : Packet) (step : Step) → ((c : Breach) → y.mode ≡ Stopped c → ⊥) → sts ≡ slice_set y.states y.number (Some (own_said w y)) → plain_packet p ≡ n.State y.round y.number (own_said w y) → after ≡ before ++ p ∷ [] → new ≡ small (n.settled w (placed y (Stopped b) sts)) → plain_step step ≡ n.closing_step w (placed y (Stopped b) sts) → IsReaction (n.taken w (grown y) (n.Stop b)) new before after step
stop_reaction w y b sts new before after p step free put packet more is came =
    let at : placed y (Stopped b) sts ≡ stops w y b = ap (placed y (Stopped b)) put in
    subst (λ q. IsReaction q new before after step) (sym (taken_stop w y b (free_mode y.mode free))) (record {
      node = is ∙ ap (λ x. small (n.settled w x)) at;
      sends = ap (map plain_packet) more ∙ map-append plain_packet before (p ∷ []) ∙ ap (λ q. map plain_packet before ++ q ∷ []) packet;
      came_to = came ∙ ap (n.closing_step w) at;
    })

pub left_node : (w : s.Workload) (y : Small) (p : n.Packet) → n.taken w (grown y) p ≡ n.stays (grown y) n.Ignored → y ≡ small (n.taken w (grown y) p).node
unfolding node_definitions
left_node w y p is = ap (λ (r : n.Reaction). small r.node) (sym is)

-- ---- a packet by its round
pub received_own : (w : s.Workload) (p : n.Packet) (y : Small) → n.round_of p ≡ y.round → n.received w p (grown y) ≡ n.taken w (grown y) p
unfolding node_definitions
received_own w p y e = cond-true (n.round_of p == y.round) (n.taken w (grown y) p) (n.stays (grown y) n.Ignored) (eq-eqb (n.round_of p) y.round e)

pub received_other : (w : s.Workload) (p : n.Packet) (y : Small) → (n.round_of p ≡ y.round → ⊥) → n.received w p (grown y) ≡ n.stays (grown y) n.Ignored
unfolding node_definitions
received_other w p y e = cond-false (n.round_of p == y.round) (n.taken w (grown y) p) (n.stays (grown y) n.Ignored) (ne_eqb (n.round_of p) y.round e)

no_sends : (w : s.Workload) (y : Small) (k : ℕ) (said : n.Said) (t : Bool) → (cond t (n.stays (grown y) n.Ignored) (record { node = n.settled w (n.keeping (grown y) k said); sends = []; step = n.closing_step w (n.keeping (grown y) k said) })).sends ≡ []
unfolding node_definitions
no_sends w y k said true = refl
no_sends w y k said false = refl

state_sends : (w : s.Workload) (y : Small) (r k : ℕ) (said : n.Said) → (n.taken w (grown y) (n.State r k said)).sends ≡ []
unfolding node_definitions
state_sends w y r k said = no_sends w y k said (n.has_state y.states k)

pub state_reaction : (w : s.Workload) (y new : Small) (p : n.Packet) (r k : ℕ) (said : n.Said) (before : List Packet) (step : Step) → n.received w p (grown y) ≡ n.taken w (grown y) (n.State r k said) → new ≡ small (n.taken w (grown y) (n.State r k said)).node → plain_step step ≡ (n.taken w (grown y) (n.State r k said)).step → IsReaction (n.received w p (grown y)) new before before step
state_reaction w y new p r k said before step is at came =
    subst (λ q. IsReaction q new before before step) (sym is) (record {
      node = at;
      sends = sym (append-nil (map plain_packet before)) ∙ ap (λ qs. map plain_packet before ++ qs) (sym (state_sends w y r k said));
      came_to = came;
    })

-- ---- packets that can come
module _ (w : s.Workload) (y : Small) where
  pub come_want : (b : Breach) → CanCome w (grown y) (n.Want b) → IsCallAt w b.site b.call
  unfolding node_definitions
  come_want b h = h

  pub come_stop : (b : Breach) → CanCome w (grown y) (n.Stop b) → IsCallAt w b.site b.call
  unfolding node_definitions
  come_stop b h = h.0

  pub come_state : (r k : ℕ) (said : n.Said) → CanCome w (grown y) (n.State r k said) → k < sites_of w
  unfolding node_definitions
  come_state r k said h = h.0

  pub settle_stop : (b : Breach) (sts : List (Option n.Said)) → CanCome w (grown y) (n.Stop b) → ((c : Breach) → y.mode ≡ Stopped c → ⊥) → sts ≡ slice_set y.states y.number (Some (own_said w y)) → CanSettle w y (Stopped b) sts
  unfolding node_definitions
  settle_stop b sts h free put = λ c all m e. let same : b ≡ c = cc in subst (λ z. CanClose w (grown y).journal z all) same (h.1 all (free_mode y.mode free) (ap n.all_of (sym put) ∙ e))

  pub settle_state : (r k : ℕ) (said : n.Said) (mode : Mode) (sts : List (Option n.Said)) → CanCome w (grown y) (n.State r k said) → mode ≡ y.mode → sts ≡ slice_set y.states k (Some said) → CanSettle w y mode sts
  unfolding node_definitions
  settle_state r k said mode sts h same put = λ b all m e. h.1 b all (sym same ∙ m) (ap n.all_of (sym put) ∙ e)
