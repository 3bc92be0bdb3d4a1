-- How a node in memory closes its round.
use Rattle.homeo_nodes.specs.Key.{definitions as node_definitions}
use Rattle.std.proofs.Common.{◌≡◌, ℕ, ◌<◌, List, drop, replicate, [], map, length, false, Option, Some, None, refl, sym, ap, subst, ◌∙◌}
use Rattle.std.specs.Prelude.{All, is_some}
use Rattle.std.proofs.lemmas.List.{length-map}
use Rattle.std.proofs.lemmas.List.Elements.{All-drop}
use Rattle.homeo_syntax.specs.Source as s
use Rattle.homeo_syntax.specs.SourceView.{plain_workload}
use Rattle.homeo_syntax.specs.declared.workload.Workload.{Workload}
use Rattle.homeo_meaning.specs.declared.call.CallId.{CallId}
use Rattle.homeo_plan.specs.Planned.{sites_of}
use Rattle.homeo_history.specs.HistoryView.{plain_answer}
use Rattle.homeo_history.specs.Legal.{IsCallAt}
use Rattle.homeo_site.specs.BareView.{BareValue}
use Rattle.homeo_site.specs.SiteState.{SiteState}
use Rattle.homeo_nodes.specs.declared.breach.Breach.{Breach}
use Rattle.homeo_nodes.specs.declared.breach.Mode.{Mode}
use Rattle.homeo_nodes.specs.declared.breach.Mode.TheVariants.{Running, Waiting, Stopped}
use Rattle.homeo_nodes.specs.Coming.{CanClose}
use Rattle.homeo_nodes.specs.Nodes as n
use Rattle.homeo_nodes.specs.Small.{Small, small, grown}
use Rattle.homeo_nodes.proofs.Brief.{brief_is}
use Rattle.homeo_nodes.proofs.Places.{length_replicate, all_there}
use Rattle.homeo_carry.specs.CarryView.{plain_said, journal_of, IsClosed}
use Rattle.homeo_carry.specs.declared.bounds.Bounds.{Bounds}
use Rattle.homeo_carry.specs.declared.closing.Closed.{Closed}
use Rattle.homeo_carry.specs.declared.said.Said.{Said}
use Rattle.homeo_live.specs.declared.packet.Step.{Step}
use Rattle.homeo_live.specs.declared.state.Past.{Past}
use Rattle.homeo_live.specs.LiveView.{plain_step, plain_state, plain_past, LiveValue}
use Rattle.homeo_live.specs.inner.Standing.{node_of, placed, IsLive, CanSettle}
use Rattle.homeo_live.proofs.LiveViews.{value_in}

-- ---- what is settled
module _ (w : s.Workload) (y : Small) (mode : Mode) (states : List (Option n.Said)) where
  settled_view : (u : Breach) (all : List n.Said) → mode ≡ Stopped u → n.all_of states ≡ Some all → n.settled w (placed y mode states) ≡ n.in_round w (n.past_of u all) (n.still_waits u all y.number y.queue) (n.closed w u all (grown y).journal)
  unfolding node_definitions
  settled_view u all m e = ap (λ o. n.settled_by w (placed y mode states) mode o) e ∙ ap (λ k. n.settled_by w (placed y mode states) k (Some all)) m

  told_view : (u : Breach) (all : List n.Said) → mode ≡ Stopped u → n.all_of states ≡ Some all → n.closing_step w (placed y mode states) ≡ n.Closed (n.answers_then w u all (grown y).journal)
  unfolding node_definitions
  told_view u all m e = ap (λ o. n.told_by w (placed y mode states) mode o) e ∙ ap (λ k. n.told_by w (placed y mode states) k (Some all)) m

  none_of : {X : Type 0} (o : Option X) → is_some o ≡ false → o ≡ None
  none_of None e = refl
  none_of (Some x) e = absurd (cc)

  pub settled_waits : (u : Breach) → mode ≡ Stopped u → is_some (n.all_of states) ≡ false → n.settled w (placed y mode states) ≡ placed y mode states
  unfolding node_definitions
  settled_waits u m e = ap (λ o. n.settled_by w (placed y mode states) mode o) (none_of (n.all_of states) e) ∙ ap (λ k. n.settled_by w (placed y mode states) k None) m

  pub told_waits : (u : Breach) → mode ≡ Stopped u → is_some (n.all_of states) ≡ false → n.closing_step w (placed y mode states) ≡ n.Taken
  unfolding node_definitions
  told_waits u m e = ap (λ o. n.told_by w (placed y mode states) mode o) (none_of (n.all_of states) e) ∙ ap (λ k. n.told_by w (placed y mode states) k None) m

-- where the node isn't stopped
free : (w : s.Workload) (m : n.Node) (mode : Mode) (o : Option (List n.Said)) → ((u : Breach) → mode ≡ Stopped u → ⊥) → (n.settled_by w m mode o ≡ m) × (n.told_by w m mode o ≡ n.Taken)
unfolding node_definitions
free w m Running o other = (refl, refl)
free w m (Waiting b) o other = (refl, refl)
free w m (Stopped b) o other = absurd (other b refl)

pub settled_free : (w : s.Workload) (y : Small) (mode : Mode) (states : List (Option n.Said)) → ((u : Breach) → mode ≡ Stopped u → ⊥) → (n.settled w (placed y mode states) ≡ placed y mode states) × (n.closing_step w (placed y mode states) ≡ n.Taken)
unfolding node_definitions
settled_free w y mode states other = free w (placed y mode states) mode (n.all_of states) other

pub placed_small : (y : Small) (x : SiteState) (mode after : Mode) (decided : Option Breach) (kept states : List (Option Said)) (past : Option Past) (queue : List CallId) → node_of x mode decided kept past queue ≡ y → node_of x after decided states past queue ≡ small (placed y after (map plain_state states))
unfolding node_definitions
placed_small y x mode after decided kept states past queue is =
    ap (λ (z : Small). small (placed z after (map plain_state states))) is

-- ---- the end of a round
-- all that the states say, as they are kept
pub count_all : (kept : List (Option Said)) (all : List Said) (count : ℕ) → n.all_of (map plain_state kept) ≡ Some (map plain_said all) → length kept ≡ count → length all ≡ count
count_all kept all count e long =
    sym (length-map all plain_said) ∙ (all_there (map plain_state kept) (map plain_said all) e).long ∙ length-map kept plain_state ∙ long

module _ (work : Workload) (x : SiteState) (bare : x.segment ≡ []) (mode : Mode) (decided : Option Breach) (states : List (Option Said)) (past : Option Past) (queue : List CallId) where
  abbrev here : Small
  here = node_of x mode decided states past queue

  pub journal_is : journal_of x ≡ (grown here).journal
  unfolding node_definitions
  journal_is = λ j. record {
    site = record { number = x.number; round = x.round; base = x.base; deltas = x.deltas; segment = bare j };
    left = [];
    asked = [];
  }

  pub can_close : (kept : List (Option Said)) (u : Breach) (all : List n.Said) (v : LiveValue) → value_in work x mode decided states past queue ≡ v → CanSettle (plain_workload v.work) v.node (Stopped u) (map plain_state kept) → n.all_of (map plain_state kept) ≡ Some all → CanClose (plain_workload work) (journal_of x) u all
  can_close kept u all v is can e =
      subst (λ k. CanClose (plain_workload work) k u all) (sym journal_is) (subst (λ (z : LiveValue). CanSettle (plain_workload z.work) z.node (Stopped u) (map plain_state kept)) (sym is) can u all refl e)

  module _ (u : Breach) (kept : List (Option Said)) (all : List Said) (e : n.all_of (map plain_state kept) ≡ Some (map plain_said all)) (y : Closed) (h : IsClosed work u (map plain_said all) x y) where
    abbrev w : s.Workload
    w = plain_workload work

    abbrev said : List n.Said
    said = map plain_said all

    abbrev gone : SiteState → List (Option n.Said) → List CallId → Small
    gone z none rest = record {
      number = z.number;
      round = z.round;
      base = z.base;
      deltas = z.deltas;
      mode = Running;
      decided = None;
      states = none;
      past = Some (record { breach = u; states = said });
      queue = rest;
    }

    pub gone_view : (v : LiveValue) (none : List (Option Said)) (sites : ℕ) (after : Past) (rest : List CallId) (made : ℕ) → value_in work x mode decided states past queue ≡ v → map plain_state none ≡ replicate sites None → sites ≡ sites_of w → plain_past after ≡ record { breach = u; states = said } → rest ≡ drop made queue → made ≡ length (n.own_calls u said x.number) → node_of y.site.state Running None none (Some after) rest ≡ small (n.settled (plain_workload v.work) (placed v.node (Stopped u) (map plain_state kept)))
    unfolding node_definitions
    gone_view v none sites after rest made is empty count was left makes =
        ap (λ p. record (node_of y.site.state Running None none None rest) { past = Some p }) was
        ∙ ap (λ z. gone z (map plain_state none) rest) h.state
        ∙ ap (λ (j : n.Journal). gone (n.closed w u said j).site (map plain_state none) rest) journal_is
        ∙ ap (λ l. gone (n.closed w u said (grown here).journal).site l rest) (empty ∙ ap (λ k. replicate k None) count)
        ∙ ap (λ l. gone (n.closed w u said (grown here).journal).site (replicate (sites_of w) None) l) (left ∙ ap (λ k. drop k queue) makes)
        ∙ ap small (sym (settled_view w here (Stopped u) (map plain_state kept) u said refl e))
        ∙ ap (λ (z : LiveValue). small (n.settled (plain_workload z.work) (placed z.node (Stopped u) (map plain_state kept)))) is

    pub gone_told : (v : LiveValue) (step : Step) → value_in work x mode decided states past queue ≡ v → plain_step step ≡ n.Closed (map plain_answer y.answers.items) → plain_step step ≡ n.closing_step (plain_workload v.work) (placed v.node (Stopped u) (map plain_state kept))
    gone_told v step is came =
        came ∙ ap n.Closed (h.answers ∙ ap (n.answers_then w u said) journal_is)
        ∙ sym (told_view w here (Stopped u) (map plain_state kept) u said refl e)
        ∙ ap (λ (z : LiveValue). n.closing_step (plain_workload z.work) (placed z.node (Stopped u) (map plain_state kept))) is

    gone_number : length kept ≡ sites_of w → x.number < sites_of w → y.site.state.number ≡ x.number
    gone_number long below =
        ap (λ (z : SiteState). z.number) h.state
        ∙ (brief_is w u said (journal_of x) (length-map all plain_said ∙ count_all kept all (sites_of w) e long) below).number

    pub gone_live : (bounds : List Bounds) (site : BareValue) (planner : Workload) (none : List (Option Said)) (sites : ℕ) (after : Past) (rest : List CallId) (made : ℕ) → IsLive work bounds site mode states past queue → site.state ≡ x → planner ≡ work → map plain_state none ≡ replicate sites None → sites ≡ sites_of w → after.states.items ≡ all → length kept ≡ sites_of w → x.number < sites_of w → rest ≡ drop made queue → IsLive planner bounds y.site Running none (Some after) rest
    gone_live bounds site planner none sites after rest made live at same empty count was long below left =
        subst (λ v. IsLive v bounds y.site Running none (Some after) rest) (sym same) (record {
          work_is = h.work_is;
          accepted = live.accepted;
          empty = ap (λ (z : SiteState). z.segment) h.state;
          bounds_are = live.bounds_are;
          count = sym (length-map none plain_state) ∙ ap length empty ∙ length_replicate sites None ∙ count;
          mode_of = tt;
          past_long = ap length was ∙ count_all kept all (sites_of w) e long;
          waiting =
              subst (λ k. All (IsCallAt w k) rest) (ap (λ (z : SiteState). z.number) at ∙ sym (gone_number long below)) (subst (All (IsCallAt w site.state.number)) (sym left) (All-drop (IsCallAt w site.state.number) made queue live.waiting));
        })
