-- After any events, two nodes in one round have one base, and the rounds are a legal history.
use Rattle.homeo_history.specs.Key.{definitions as history_definitions}
use Rattle.homeo_core.specs.Key.{definitions as core_definitions}
use Rattle.homeo_wire.specs.Key.{definitions}
use Rattle.std.proofs.Common.{◌≡◌, ℕ, suc, ◌<◌, List, length, Some, sym, ap, subst, ◌∙◌, arith}
use Rattle.std.specs.Prelude.{slice_get}
use Rattle.std.proofs.lemmas.List.{length-map}
use mathlib.Core.Logic.{⊎_elim}
use Rattle.homeo_syntax.specs.Source as s
use Rattle.homeo_meaning.specs.Acceptance.{IsAccepted}
use Rattle.homeo_meaning.specs.Initial.{initial}
use Rattle.homeo_plan.specs.Planned.{sites_of}
use Rattle.homeo_history.specs.Legal.{IsLegalFrom}
use Rattle.homeo_history.proofs.Lists.{get_map_back, get_some}
use Rattle.homeo_core.specs.Joined as core
use Rattle.homeo_wire.specs.declared.events.Event.{Event}
use Rattle.homeo_wire.specs.Laws.{OneBase, OneHistory}
use Rattle.homeo_wire.specs.Nodes.{Node, Journal, World, at_start, reached}
use Rattle.homeo_wire.specs.Read.{history_in, counts_in}
use Rattle.homeo_core.proofs.Joining.{joining}
use Rattle.homeo_wire.proofs.Courses.{sites_then}
use Rattle.homeo_wire.proofs.Happening.{IsHeld, events_hold}
use Rattle.homeo_wire.proofs.Reading.{read_is, counts_are, base_behind, base_up}
use Rattle.homeo_wire.proofs.Settling.{journals_of, up_or_behind}
use Rattle.homeo_wire.proofs.Starting.{start_holds}

pub reached_holds : (w : s.Workload) (events : List Event) → IsAccepted w → IsHeld w (reached w events)
unfolding definitions
reached_holds w events accepted = events_hold w events (at_start w) accepted (start_holds w accepted)

-- ---- the history
module _ (w : s.Workload) (x : World) (accepted : IsAccepted w) (h : IsHeld w x) where
  long : length (journals_of x.nodes) ≡ sites_of w
  long = length-map x.nodes (λ (n : Node). n.journal) ∙ h.talk.count

  legal : IsLegalFrom w (initial w) h.counts (core.history_of h.book (sites_then w h.book h.turn (journals_of x.nodes)))
  unfolding core_definitions
  legal = joining w (initial w) h.book (sites_then w h.book h.turn (journals_of x.nodes)) h.counts accepted h.course.joined h.course.ordered

  pub legal_here : IsLegalFrom w (initial w) (counts_in w (history_in x).rounds) (history_in x)
  unfolding definitions core_definitions
  legal_here =
      subst (λ g. IsLegalFrom w (initial w) (counts_in w g.rounds) g) (sym (read_is w (journals_of x.nodes) x.packets h.book h.turn h.counts h.course long)) (subst (λ c. IsLegalFrom w (initial w) c (core.history_of h.book (sites_then w h.book h.turn (journals_of x.nodes)))) (counts_are w (journals_of x.nodes) x.packets h.book h.turn h.counts h.course long) legal)

  -- ---- the bases
  module _ (i k : ℕ) (j l : Journal) (one : slice_get (journals_of x.nodes) i ≡ Some j) (other : slice_get (journals_of x.nodes) k ≡ Some l) (same : j.site.round ≡ l.site.round) where
    both_up : j.site.round ≡ length h.book.closed → j.site.base ≡ l.site.base
    both_up e =
        base_up w (journals_of x.nodes) x.packets h.book h.turn h.counts h.course long i j one e
        ∙ sym (base_up w (journals_of x.nodes) x.packets h.book h.turn h.counts h.course long k l other (sym same ∙ e))

    both_behind : suc j.site.round ≡ length h.book.closed → j.site.base ≡ l.site.base
    both_behind e =
        let lt : j.site.round < length h.book.closed = omega (arith, e) in
        let q = get_some h.book.closed j.site.round lt in
        base_behind w (journals_of x.nodes) x.packets h.book h.turn h.counts h.course long i j q.0 one e q.1
        ∙ sym (base_behind w (journals_of x.nodes) x.packets h.book h.turn h.counts h.course long k l q.0 other (ap suc (sym same) ∙ e) (subst (λ n. slice_get h.book.closed n ≡ Some q.0) same q.1))

    pub bases_here : j.site.base ≡ l.site.base
    bases_here =
        let was = get_map_back (λ (n : Node). n.journal) x.nodes i j one in
        ⊎_elim (λ e. both_up (sym (ap (λ (y : Journal). y.site.round) was.1.1) ∙ e)) (λ behind. both_behind (ap suc (sym (ap (λ (y : Journal). y.site.round) was.1.1)) ∙ behind.before)) (up_or_behind w x.nodes x.packets h.book h.turn h.counts h.talk h.course i was.0 was.1.0)

pub one_history : OneHistory
unfolding definitions history_definitions
one_history w events accepted = legal_here w (reached w events) accepted (reached_holds w events accepted)

pub one_base : OneBase
unfolding definitions
one_base w events accepted i k j l one other same =
    bases_here w (reached w events) accepted (reached_holds w events accepted) i k j l one other same
