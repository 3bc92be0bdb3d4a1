-- What holds of nodes and packets holds after a stop before which a node's callers withdraw what waits.
use Rattle.homeo_nodes.specs.Key.{definitions}
use Rattle.std.proofs.Common.{inl, inr, ◌≡◌, ℕ, zero, suc, ◌+◌, ◌-◌, ◌<◌, List, [], ◌∷◌, ◌++◌, length, take, drop, cond, true, Some, refl, sym, ap, subst, ◌∙◌, append_assoc, length-append, take-append-drop, arith, slice_set}
use Rattle.std.specs.Prelude.{slice_get, ◌==◌, ◌⊎◌}
use Rattle.std.proofs.lemmas.List.{append-nil, length-take, take_at}
use Rattle.std.proofs.lemmas.Bool.{cases_eq, eq-eqb, cond-true}
use mathlib.Core.Logic.{⊎_elim}
use Rattle.homeo_lemmas.proofs.Places.{one_placed}
use Rattle.homeo_syntax.specs.Source as s
use Rattle.homeo_meaning.specs.declared.call.CallId.{CallId}
use Rattle.homeo_meaning.specs.Acceptance.{IsAccepted}
use Rattle.homeo_history.proofs.Lists.{get_set_same, set_cases, length_set}
use Rattle.homeo_nodes.specs.declared.breach.Breach.{Breach}
use Rattle.homeo_nodes.specs.declared.breach.Mode.TheVariants.{Waiting, Stopped}
use Rattle.homeo_nodes.specs.Laws.{calls_of}
use Rattle.homeo_nodes.specs.Nodes.{Said, said_by, Packet, Stop, State, Node, is_stopped, settled, stopped, withdrawing}
use Rattle.homeo_nodes.proofs.Carrying.{AreAt}
use Rattle.homeo_nodes.proofs.Courses.{IsThere, IsNear, course_quiet}
use Rattle.homeo_nodes.proofs.Reacting.{one_state, quiet_settled}
use Rattle.homeo_nodes.proofs.Sending.{Sent, sent_left, sent_right, sent_one}
use Rattle.homeo_nodes.proofs.Settling.{Holds, behind_stopped}
use Rattle.homeo_nodes.proofs.Talking.{Since, IsOverruled, Wants, HasStopped, CanCarry, Stands, Hears, Talk, GoesOn, past_more, talk_goes}

-- ---- a queue that loses its end
at_take : (w : s.Workload) (i n : ℕ) (cs : List CallId) → AreAt w i cs → AreAt w i (take n cs)
at_take w i zero [] a = tt
at_take w i zero (c ∷ cs) a = tt
at_take w i (suc n) [] a = tt
at_take w i (suc n) (c ∷ cs) a = (a.0, at_take w i n cs a.1)

-- a list that ends with the queue loses the same end
pub less_asked : {X : Type 0} (xs queue all : List X) (n : ℕ) → xs ++ queue ≡ all → xs ++ take n queue ≡ take (length all - length (drop n queue)) all
less_asked xs queue all n e =
    let split : all ≡ (xs ++ take n queue) ++ drop n queue =
    sym e ∙ ap (λ q. xs ++ q) (sym (take-append-drop n queue)) ∙ sym (append_assoc xs (take n queue) (drop n queue)) in
    let long : length all ≡ length (xs ++ take n queue) + length (drop n queue) = ap length split ∙ length-append (xs ++ take n queue) (drop n queue) in
    sym (ap (take (length all - length (drop n queue))) split ∙ take_at (xs ++ take n queue) (drop n queue) (length all - length (drop n queue)) (omega (arith, long)))

first_of : (queue rest : List CallId) (call : CallId) (kept : ℕ) → queue ≡ call ∷ rest → kept ≡ 1 → take kept queue ≡ call ∷ []
first_of queue rest call kept e one = ap (λ k. take k queue) one ∙ ap (take 1) e

-- ---- the stop
module _ (w : s.Workload) (ns : List Node) (ps : List Packet) (accepted : IsAccepted w) (holds : Holds w ns ps) (i : ℕ) (n : Node) (here : slice_get ns i ≡ Some n) (b : Breach) (sent : Sent ps (Stop b)) (round : b.round ≡ n.journal.site.round) (free : is_stopped n.mode ≡ true → ⊥) where
  abbrev now : ℕ
  now = n.journal.site.round

  talk : Talk w ns ps
  talk = holds.talk

  hears : Hears w ps i n
  hears = talk.nodes i n here

  abbrev kept : ℕ
  kept = cond (n.journal.site.number == b.site) 1 0

  abbrev m : Node
  m = withdrawing n b

  abbrev n' : Node
  n' = stopped m b

  abbrev state : Packet
  state = State now n.journal.site.number (said_by m)

  queue_is : n'.queue ≡ take kept n.queue
  unfolding definitions
  queue_is = refl

  carry : CanCarry w i n'.queue
  carry =
      let h = hears.queue.few in
      let e = length-take kept n.queue in
      subst (CanCarry w i) (sym queue_is) (record { at_site = at_take w i kept n.queue hears.queue.at_site; few = omega (arith, h, e) })

  first_then : (a : Breach) → Wants w a n → ((rest : List CallId) × (n'.queue ≡ a.call ∷ rest)) ⊎ IsOverruled a n'
  unfolding definitions
  first_then a h = ⊎_elim own (λ other. inr (record { by = b; mode = refl; other = λ e. other (h.home ∙ sym e) })) (cases_eq n.journal.site.number b.site)
    where
      own : n.journal.site.number ≡ b.site → ((rest : List CallId) × (n'.queue ≡ a.call ∷ rest)) ⊎ IsOverruled a n'
      own e =
          ⊎_elim (λ f. inl ([], queue_is ∙ first_of n.queue f.0 a.call kept f.1 (cond-true (n.journal.site.number == b.site) 1 0 (eq-eqb n.journal.site.number b.site e)))) (λ o. absurd (free (ap is_stopped o.mode))) h.first

  goes : GoesOn w n n'
  unfolding definitions
  goes = record {
    later = omega arith;
    wants = λ e a h. record { held = refl; at_site = h.at_site; breaks = h.breaks; home = h.home; first = first_then a h };
    decided = λ e h. h;
    stopped = λ e d h. absurd (free h.stopped);
  }

  kept_then : (k : ℕ) (d : Said) → slice_get (slice_set n.states n.journal.site.number (Some (said_by m))) k ≡ Some (Some d) → Sent (ps ++ state ∷ []) (State now k d)
  kept_then k d e = ⊎_elim own (λ o. sent_left ps (state ∷ []) (State now k d) (hears.kept k d o)) (set_cases n.states n.journal.site.number k (Some (said_by m)) (Some d) e)
    where
      own : (k ≡ n.journal.site.number) × (Some (said_by m) ≡ Some d) → Sent (ps ++ state ∷ []) (State now k d)
      own h =
          let a : said_by m ≡ d = let f = h.1 in cc in
          sent_right ps (state ∷ []) (State now k d) (inl (ap (λ x. State now x (said_by m)) (sym h.0) ∙ ap (State now k) a))

  hears_then : Hears w (ps ++ state ∷ []) i n'
  unfolding definitions
  hears_then = record {
    numbered = hears.numbered;
    count = length_set n.states n.journal.site.number (Some (said_by m)) ∙ hears.count;
    kept = kept_then;
    stopped = λ a e. let same : b ≡ a = cc in
        (sent_left ps (state ∷ []) (Stop a) (subst (λ x. Sent ps (Stop x)) same sent), sym (ap Breach.round same) ∙ round);
    waiting = λ a e. absurd (let f : Stopped b ≡ Waiting a = e in cc);
    chosen = λ a e. sent_left ps (state ∷ []) (Stop a) (hears.chosen a e);
    turned = λ q e. past_more w ps (state ∷ []) q (hears.turned q e);
    queue = carry;
  }

  no_state : (e : Said) → Sent ps (State now n.journal.site.number e) → ⊥
  no_state e o =
      let since : Since ns n.journal.site.number now (HasStopped e) = (talk.packets (State now n.journal.site.number e) o).1 in
      let same : since.node ≡ n = one_placed ns i since.node n (subst (λ k. slice_get ns k ≡ Some since.node) hears.numbered since.here) here in
      let h = subst (λ (y : Node). (now < y.journal.site.round) ⊎ ((y.journal.site.round ≡ now) × HasStopped e y)) same since.since in
      ⊎_elim (λ lt. absurd (omega (arith, lt))) (λ q. free q.1.stopped) h

  stands : (q : Packet) → Sent (state ∷ []) q → Stands w (slice_set ns i n') (ps ++ state ∷ []) q
  unfolding definitions
  stands q h =
      subst (Stands w (slice_set ns i n') (ps ++ state ∷ [])) (sent_one state q h) (subst (λ k. CanCarry w k n'.queue) (sym hears.numbered) carry, record { node = n'; here = subst (λ k. slice_get (slice_set ns i n') k ≡ Some n') (sym hears.numbered) (get_set_same ns i n n' here); since = inr (refl, record { stopped = refl; deltas_are = refl; rest = []; queue_is = sym (append-nil n'.queue) }) })

  -- a node that is behind is stopped
  there : IsThere holds.joint holds.calls i n
  there =
      ⊎_elim (λ a. a) (λ d. absurd (free (behind_stopped w ns ps holds.joint holds.turn holds.calls i n talk here d))) (holds.course.near i n here)

  near : IsNear w (ps ++ state ∷ []) holds.joint holds.turn holds.calls i n'
  unfolding definitions
  near = inl (record {
    up = record { round = there.up.round; site = there.up.site; left = there.up.left };
    once = less_asked (calls_of i holds.calls) n.queue n.journal.asked kept there.once;
  })

  pub withdraw_holds : Holds w (slice_set ns i n') (ps ++ state ∷ [])
  withdraw_holds = record {
    joint = holds.joint;
    turn = holds.turn;
    calls = holds.calls;
    talk = talk_goes w ns ps (state ∷ []) i n n' talk here goes hears_then stands (one_state ps now n.journal.site.number (said_by m) talk.one no_state);
    course = course_quiet w ns ps (state ∷ []) holds.joint holds.turn holds.calls i n' holds.course near;
  }

  pub withdraws : Holds w (slice_set ns i (settled w n')) (ps ++ state ∷ [])
  withdraws = quiet_settled w ns ps accepted holds i n here n' (state ∷ []) withdraw_holds
