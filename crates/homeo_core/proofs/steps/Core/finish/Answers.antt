use Rattle.homeo_history.specs.Key.{definitions as history_definitions}
use Rattle.std.proofs.Common.{◌≡◌, List, [], ◌∷◌, ◌++◌, None, map, length, take, sym, ap, subst, ◌∙◌, FitsSigned}
use Rattle.std.specs.Int.{w64}
use Rattle.std.specs.Prelude.{All}
use Rattle.std.proofs.lemmas.List.{length-map, map-append}
use Rattle.homeo_syntax.specs.Listed.{Listed}
use Rattle.homeo_syntax.specs.SourceView.{plain_workload}
use Rattle.homeo_meaning.specs.Bounds.{IsWithin}
use Rattle.homeo_meaning.specs.Schema.{schema_of}
use Rattle.homeo_history.specs.HistoryView.{plain_segment, plain_round, plain_history}
use Rattle.homeo_history.specs.Legal.{IsLegalFrom}
use Rattle.homeo_history.specs.declared.history.Round.{Round}
use Rattle.homeo_site.specs.SiteState.{SiteState}
use Rattle.homeo_core.specs.Key.{definitions}
use Rattle.homeo_core.specs.CoreView.{CoreValue, CoreHolds, core_history, start_of}
use Rattle.homeo_core.specs.Joined.{gathered, segments_of}
use Rattle.homeo_core.specs.SiteLists.{states, AreAt}
use Rattle.homeo_core.proofs.CoreSteps.{core_of, is_legal}
use Rattle.homeo_core.proofs.InRounds.{at_round, all_fit}
use Rattle.homeo_core.proofs.OpenRound.{first_within, whole_within}
use Rattle.homeo_core.proofs.steps.Core.finish.Goals as goal
use Rattle.homeo_core.proofs.steps.Core.finish.Goals.{In_ok-push}

pub gathered_values-requires-clause-at : goal.gathered_values-requires-clause-at
unfolding definitions
gathered_values-requires-clause-at c =
    let x : CoreValue = core_of c.self.inside in
    let holds : CoreHolds x = c.self.invariant.1 in
    let round : length x.book.closed ≡ length c.as_slice.result.now = length-map c.self.inside.closed.items plain_round ∙ sym (ap length c.as_slice.ensures) in
    subst (λ (l : List SiteState). AreAt (length c.as_slice.result.now) x.book.base l) (sym (ap states c.as_slice-2.ensures.value))
    (subst (λ n. AreAt n x.book.base x.sites) round (at_round (plain_workload x.work) (start_of x.book) x.book x.sites holds.joined))

pub gathered_values-requires-clause-fits : goal.gathered_values-requires-clause-fits
unfolding definitions
gathered_values-requires-clause-fits c n =
    let x : CoreValue = core_of c.self.inside in
    let w = plain_workload x.work in
    let holds : CoreHolds x = c.self.invariant.1 in
    subst (λ (l : List SiteState). All (FitsSigned w64) (gathered x.book.base (take n l))) (sym (ap states c.as_slice-2.ensures.value))
    (all_fit w (gathered x.book.base (take n x.sites)) holds.accepted (first_within w (start_of x.book) x.book x.sites holds.accepted holds.joined n))

-- ---- the history that is handed out
last_is : (c : In_ok-push) → c.in_ok-last.last.items ≡ gathered c.self.inside.base.items (states c.self.inside.sites.items)
unfolding definitions
last_is c = c.in_ok-last.ensures ∙ ap (gathered c.self.inside.base.items) (ap states c.as_slice-2.ensures.value)

history_is : (c : In_ok-push) → plain_history (record { rounds = c.push.new.self; last = c.in_ok-last.last }) ≡ core_history (core_of c.self.inside)
unfolding definitions history_definitions
history_is c =
    let f = c.self.inside in
    let rounds : c.push.new.self.items ≡ f.closed.items ++ record { base = f.base; segments = c.in_ok-segments.segments; closing = None } ∷ [] = ap (λ (l : Listed Round). l.items) c.in_ok-push.ensures.ok in
    let segments : map plain_segment c.in_ok-segments.segments.items ≡ segments_of (states f.sites.items) = c.in_ok-segments.ensures in
    (λ j. record {
      rounds = (ap (map plain_round) rounds ∙ map-append plain_round f.closed.items (record { base = f.base; segments = c.in_ok-segments.segments; closing = None } ∷ []) ∙ (λ k. map plain_round f.closed.items ++ record { base = f.base.items; segments = segments k; closing = None } ∷ [])) j;
      last = last_is c j;
    })

pub returns-clause-history : goal.returns-clause-history
unfolding definitions history_definitions
returns-clause-history c = history_is (goal.at.returns-clause-history c).In_ok-push ∙ ap core_history c.self.view_is

pub returns-clause-legal : goal.returns-clause-legal
unfolding definitions history_definitions
returns-clause-legal c =
    let x : CoreValue = core_of c.self.inside in
    let history = history_is (goal.at.returns-clause-legal c).In_ok-push in
    subst (λ (v : CoreValue). IsLegalFrom (plain_workload v.work) (start_of v.book) v.counts (plain_history (record { rounds = c.push.new.self; last = c.in_ok-last.last }))) c.self.view_is
    (subst (IsLegalFrom (plain_workload x.work) (start_of x.book) x.counts) (sym history) (is_legal x c.self.invariant.1))

pub returns-clause-within : goal.returns-clause-within
unfolding definitions history_definitions
returns-clause-within c =
    let x : CoreValue = core_of c.self.inside in
    let w = plain_workload x.work in
    let holds : CoreHolds x = c.self.invariant.1 in
    let last = last_is (goal.at.returns-clause-within c).In_ok-push in
    subst (λ (v : CoreValue). IsWithin (schema_of (plain_workload v.work)) c.in_ok-last.last.items) c.self.view_is
    (subst (IsWithin (schema_of w)) (sym last) (whole_within w (start_of x.book) x.book x.sites holds.accepted holds.joined))
