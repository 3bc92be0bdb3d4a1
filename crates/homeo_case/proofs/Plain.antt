-- Nodes whose callers withdraw at each stop: their states carry nothing but the call that closes the round.
use Rattle.homeo_nodes.specs.Key.{definitions as node_definitions}
use Rattle.std.proofs.Common.{◌≡◌, ℕ, zero, suc, ◌<◌, arith, List, [], ◌∷◌, ◌++◌, length, take, drop, Bool, true, false, cond, ℤ, Option, Some, None, refl, sym, ap, subst, ◌∙◌, slice_index_or}
use Rattle.std.specs.Prelude.{slice_get, ◌==◌, ◌⊎◌}
use mathlib.Core.Logic.{⊎_elim}
use Rattle.homeo_lemmas.proofs.Places.{one_placed}
use Rattle.homeo_syntax.specs.Source as s
use Rattle.homeo_meaning.specs.declared.call.CallId.{CallId}
use Rattle.homeo_history.proofs.Lists.{get_index, get_past}
use Rattle.homeo_nodes.specs.declared.breach.Breach.{Breach}
use Rattle.homeo_nodes.specs.declared.breach.Mode.TheVariants.{Stopped}
use Rattle.homeo_nodes.specs.Nodes.{Said, Packet, Want, Stop, State, Node, is_running, rest_of, calls_at, all_of, still_waits}
use Rattle.homeo_nodes.proofs.Places.{all_there}
use Rattle.homeo_nodes.proofs.Sending.{Sent, sent_left, sent_cases}
use Rattle.homeo_nodes.proofs.Settling.{Holds}
use Rattle.homeo_nodes.proofs.Talking.{Since, IsOverruled, Wants, Hears}

-- ---- packets
-- the state of a site carries nothing besides the call that stopped its round
pub record IsPlainState (ps : List Packet) (r k : ℕ) (said : Said) : Type 0 where
  pub by : Breach
  pub stop : Sent ps (Stop by)
  pub round : by.round ≡ r
  pub none : calls_at by k said ≡ []

abbrev pub ArePlain : List Packet → Type 0
ArePlain ps = (r k : ℕ) (said : Said) → Sent ps (State r k said) → IsPlainState ps r k said

pub plain_more : (ps sends : List Packet) (r k : ℕ) (said : Said) → IsPlainState ps r k said → IsPlainState (ps ++ sends) r k said
plain_more ps sends r k said h = record { by = h.by; stop = sent_left ps sends (Stop h.by) h.stop; round = h.round; none = h.none }

pub plain_with : (ps sends : List Packet) → ArePlain ps → ((r k : ℕ) (said : Said) → Sent sends (State r k said) → IsPlainState (ps ++ sends) r k said) → ArePlain (ps ++ sends)
plain_with ps sends plain new r k said sent =
    ⊎_elim (λ o. plain_more ps sends r k said (plain r k said o)) (λ f. new r k said f) (sent_cases ps sends (State r k said) sent)

-- ---- nodes
-- at most the call that closes the round waits where a node has stopped, and none where it runs
abbrev pub own_count : Node → Breach → ℕ
own_count m u = cond (m.journal.site.number == u.site) 1 0

pub record IsPlainNode (m : Node) : Type 0 where
  pub running : is_running m.mode ≡ true → m.queue ≡ []
  pub stopped : (u : Breach) → m.mode ≡ Stopped u → drop (own_count m u) m.queue ≡ []

-- ---- lists
abbrev no_said : Said
no_said = record { deltas = []; calls = [] }

pub drop_take : {X : Type 0} (n : ℕ) (xs : List X) → drop n (take n xs) ≡ []
drop_take zero [] = refl
drop_take zero (x ∷ xs) = refl
drop_take (suc n) [] = refl
drop_take (suc n) (x ∷ xs) = drop_take n xs

rest_one : {X : Type 0} (xs : List X) → rest_of (take 1 xs) ≡ []
rest_one [] = refl
rest_one (x ∷ []) = refl
rest_one (x ∷ y ∷ xs) = refl

take_none : {X : Type 0} (xs : List X) → take 0 xs ≡ []
take_none [] = refl
take_none (x ∷ xs) = refl

kept_by : {X : Type 0} (t : Bool) (xs : List X) → cond t (rest_of (take (cond t 1 0) xs)) (take (cond t 1 0) xs) ≡ []
kept_by true xs = rest_one xs
kept_by false xs = take_none xs

-- what a node says when its callers have withdrawn
pub withdrawn_none : (u : Breach) (site : ℕ) (deltas : List ℤ) (queue : List CallId) → calls_at u site (record { deltas = deltas; calls = take (cond (site == u.site) 1 0) queue }) ≡ []
withdrawn_none u site deltas queue = kept_by (site == u.site) queue

none_said : (t : Bool) → cond t (rest_of (no_said.calls)) no_said.calls ≡ []
none_said true = refl
none_said false = refl

-- ---- the end of a round
one_of : (t : Bool) (call : CallId) → length (cond t (call ∷ []) [] ++ []) ≡ cond t 1 0
one_of true call = refl
one_of false call = refl

module _ (w : s.Workload) (ns : List Node) (ps : List Packet) (holds : Holds w ns ps) (plain : ArePlain ps) (i : ℕ) (m : Node) (here : slice_get ns i ≡ Some m) (u : Breach) (all : List Said) (stop : m.mode ≡ Stopped u) (states : all_of m.states ≡ Some all) where
  hears : Hears w ps i m
  hears = holds.talk.nodes i m here

  pub nothing_carried : (k : ℕ) (said : Said) → slice_get all k ≡ Some said → calls_at u k said ≡ []
  nothing_carried k said e =
      let sent = hears.kept k said ((all_there m.states all states).each k said e) in
      let p = plain m.journal.site.round k said sent in
      let own = hears.stopped u stop in
      subst (λ b. calls_at b k said ≡ []) (holds.talk.one.stop p.by u p.stop own.0 (p.round ∙ sym own.1)) p.none

  -- at its own site it is the first that waits
  unruled : (b : Breach) → b.round ≡ m.journal.site.round → Sent ps (Stop b) → IsOverruled b m → ⊥
  unruled b same sent o =
      let h = hears.stopped o.by o.mode in
      o.other (ap (λ (a : Breach). a.site) (holds.talk.one.stop o.by b h.0 sent (h.1 ∙ sym same)))

  pub own_first : m.journal.site.number ≡ u.site → (rest : List CallId) × (m.queue ≡ u.call ∷ rest)
  own_first own =
      let h = hears.stopped u stop in
      let since : Since ns u.site u.round (Wants w u) = (holds.talk.packets (Want u) (holds.talk.packets (Stop u) h.0).0).1 in
      let same : since.node ≡ m = one_placed ns i since.node m (subst (λ k. slice_get ns k ≡ Some since.node) (sym own ∙ hears.numbered) since.here) here in
      let now : (u.round < m.journal.site.round) ⊎ ((m.journal.site.round ≡ u.round) × Wants w u m) =
      subst (λ (y : Node). (u.round < y.journal.site.round) ⊎ ((y.journal.site.round ≡ u.round) × Wants w u y)) same since.since in
      let wants : Wants w u m = ⊎_elim (λ lt. let e = h.1 in absurd (omega (arith, lt, e))) (λ p. p.1) now in
      ⊎_elim (λ f. f) (λ o. absurd (unruled u h.1 h.0 o)) wants.first

  no_calls : (o : Option Said) → slice_get all m.journal.site.number ≡ o → calls_at u m.journal.site.number (slice_index_or all m.journal.site.number (record { deltas = []; calls = [] })) ≡ []
  no_calls None e = ap (calls_at u m.journal.site.number) (get_past all m.journal.site.number (record { deltas = []; calls = [] }) e) ∙ none_said (m.journal.site.number == u.site)
  no_calls (Some said) e =
      ap (calls_at u m.journal.site.number) (get_index all m.journal.site.number said (record { deltas = []; calls = [] }) e)
      ∙ nothing_carried m.journal.site.number said e

  pub nothing_waits : drop (own_count m u) m.queue ≡ [] → still_waits u all m.journal.site.number m.queue ≡ []
  unfolding node_definitions
  nothing_waits none =
      ap (λ cs. drop (length (cond (m.journal.site.number == u.site) (u.call ∷ []) [] ++ cs)) m.queue) (no_calls (slice_get all m.journal.site.number) refl)
      ∙ ap (λ k. drop k m.queue) (one_of (m.journal.site.number == u.site) u.call)
      ∙ none
