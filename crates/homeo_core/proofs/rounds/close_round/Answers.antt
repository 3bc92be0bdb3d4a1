use Rattle.std.proofs.Common.{◌≡◌, true, [], ◌<◌, List, ◌∷◌, ◌++◌, Some, length, map, get_or, take, replicate, sym, ap, subst, ◌∙◌, arith}
use Rattle.std.proofs.lemmas.List.{length-map, map-append, length-replicate}
use Rattle.homeo_syntax.specs.Listed.{Listed}
use Rattle.homeo_syntax.specs.Source as s
use Rattle.homeo_syntax.specs.SourceView.{plain_workload}
use Rattle.homeo_syntax.specs.declared.workload.Workload.{Workload}
use Rattle.homeo_meaning.specs.Acceptance.{IsAccepted}
use Rattle.homeo_meaning.specs.Bounds.{IsWithin}
use Rattle.homeo_meaning.specs.Schema.{schema_of}
use Rattle.homeo_meaning.specs.Serial.{call_outcome}
use Rattle.homeo_plan.specs.Planned.{sites_of}
use Rattle.homeo_plan.proofs.Policy.{some_sites}
use Rattle.homeo_outline.specs.declared.plan.ObjectPlan.{ObjectPlan}
use Rattle.homeo_build.specs.Plan.{IsObjectPlan}
use Rattle.homeo_history.specs.Answers.{closing_answer}
use Rattle.homeo_history.specs.Follows.{site_or_zero}
use Rattle.homeo_history.specs.HistoryView.{plain_round}
use Rattle.homeo_history.specs.declared.history.Round.{Round}
use Rattle.homeo_site.specs.SiteState.{renewed}
use Rattle.homeo_site.specs.SiteView.{SiteValue}
use Rattle.homeo_round.specs.GatherView.{GatherValue}
use Rattle.homeo_core.specs.Key.{definitions}
use Rattle.homeo_core.specs.CoreView.{start_of}
use Rattle.homeo_core.specs.Events.{closing_on}
use Rattle.homeo_core.specs.PreparedView.{PreparedValue}
use Rattle.homeo_core.specs.Joined.{BookState, gathered, segments_of}
use Rattle.homeo_core.specs.Books.{book_of}
use Rattle.homeo_core.specs.SiteLists.{states, AreAt}
use Rattle.homeo_core.proofs.GatheredSites.{states_count}
use Rattle.homeo_core.proofs.InRounds.{at_round, all_fit}
use Rattle.homeo_core.proofs.OpenRound.{first_within, whole_within}
use Rattle.homeo_core.proofs.rounds.close_round.Goals as goal
use Rattle.homeo_core.proofs.rounds.close_round.Goals.{After-as_slice, After-install_all}

-- as many rounds are closed as before the call
count : (c : After-as_slice) → length c.as_slice.result.now ≡ length c.args.closed.now.items
unfolding definitions
count c = ap length (c.as_slice.ensures ∙ ap (λ (l : Listed Round). l.items) c.in_ok-reserve.ensures.ok)

pub gather_all-requires-clause-at : goal.gather_all-requires-clause-at
unfolding definitions
gather_all-requires-clause-at c =
    let w = plain_workload c.args.c.now.value in
    let b : BookState = book_of c.args.closed.now.items c.args.base.now.items in
    subst (λ n. AreAt n c.args.base.now.items (states c.args.sites.now)) (length-map c.args.closed.now.items plain_round ∙ sym (count (goal.at.gather_all-requires-clause-at c).After-as_slice))
    (at_round w (start_of b) b (states c.args.sites.now) c.requires.joined)

pub gather_all-requires-clause-fits : goal.gather_all-requires-clause-fits
unfolding definitions
gather_all-requires-clause-fits c n =
    let w = plain_workload c.args.c.now.value in
    let b : BookState = book_of c.args.closed.now.items c.args.base.now.items in
    all_fit w (gathered c.args.base.now.items (take n (states c.args.sites.now))) c.requires.accepted
    (first_within w (start_of b) b (states c.args.sites.now) c.requires.accepted c.requires.joined n)

-- there is a first site, and its plan is one of the workload
first_inside : (w : s.Workload) (sites : List SiteValue) → IsAccepted w → length (states sites) ≡ sites_of w → 0 < length sites
first_inside w sites accepted counted =
    omega (arith, some_sites w accepted, counted, states_count sites)

pub bounds-sites-0 : goal.bounds-sites-0
unfolding definitions
bounds-sites-0 c = first_inside (plain_workload c.args.c.now.value) c.args.sites.now c.requires.accepted c.requires.joined.round.count

pub prepare-requires-clause-last : goal.prepare-requires-clause-last
unfolding definitions
prepare-requires-clause-last c =
    let w = plain_workload c.args.c.now.value in
    let d : SiteValue = c.index-sites-0.result in
    let x : SiteValue = get_or c.args.sites.now 0 d in
    let p : ObjectPlan = c.plan-last.result.now in
    let lt : 0 < length c.args.sites.now = first_inside w c.args.sites.now c.requires.accepted c.requires.joined.round.count in
    let work : x.work ≡ c.args.c.now.value = c.requires.of 0 d lt in
    let own : IsObjectPlan (plain_workload x.work) p.base.items p =
    subst (λ b. IsObjectPlan (plain_workload x.work) b p) (sym c.plan-last.ensures.base) c.plan-last.ensures in
    subst (λ (v : Workload). IsObjectPlan (plain_workload v) p.base.items p) work own

pub prepare-requires-clause-sites : goal.prepare-requires-clause-sites
unfolding definitions
prepare-requires-clause-sites c =
    ap (λ (g : GatherValue). g.added) c.in_ok-gather.ensures ∙ sym (states_count c.args.sites.now) ∙ c.requires.joined.round.count

pub prepare-requires-clause-within : goal.prepare-requires-clause-within
unfolding definitions
prepare-requires-clause-within c =
    let w = plain_workload c.args.c.now.value in
    let b : BookState = book_of c.args.closed.now.items c.args.base.now.items in
    subst (IsWithin (schema_of w)) (sym (ap (λ (g : GatherValue). g.sum) c.in_ok-gather.ensures))
    (whole_within w (start_of b) b (states c.args.sites.now) c.requires.accepted c.requires.joined)

pub install_all-requires-clause-at : goal.install_all-requires-clause-at
unfolding definitions
install_all-requires-clause-at c =
    let w = plain_workload c.args.c.now.value in
    let b : BookState = book_of c.args.closed.now.items c.args.base.now.items in
    let round : c.in_ok-prepared.prepared.round ≡ length b.closed =
    ap (λ (p : PreparedValue). p.round) c.in_ok-prepared.ensures ∙ ap (λ (g : GatherValue). g.round) c.in_ok-gather.ensures ∙ count (goal.at.install_all-requires-clause-at c).After-as_slice ∙ sym (length-map c.args.closed.now.items plain_round) in
    let base : c.in_ok-prepared.prepared.base ≡ b.base =
    ap (λ (p : PreparedValue). p.base) c.in_ok-prepared.ensures ∙ ap (λ (g : GatherValue). g.base) c.in_ok-gather.ensures in
    subst (λ n. AreAt n c.in_ok-prepared.prepared.base (states c.args.sites.now)) (sym round)
    (subst (λ d. AreAt (length b.closed) d (states c.args.sites.now)) (sym base) (at_round w (start_of b) b (states c.args.sites.now) c.requires.joined))

pub install_all-requires-clause-segments : goal.install_all-requires-clause-segments
unfolding definitions
install_all-requires-clause-segments c =
    let w = plain_workload c.args.c.now.value in
    ap (λ (p : PreparedValue). length p.segments) c.in_ok-prepared.ensures
    ∙ length-replicate (sites_of w) []
    ∙ sym c.requires.joined.round.count ∙ states_count c.args.sites.now

pub install_all-requires-clause-waiting : goal.install_all-requires-clause-waiting
unfolding definitions
install_all-requires-clause-waiting c =
    ap (λ (p : PreparedValue). p.waiting) c.in_ok-prepared.ensures
    ∙ ap (λ n. replicate n true) (sym c.requires.joined.round.count ∙ states_count c.args.sites.now)

-- ---- what it is closed by
closing : (c : After-install_all) → c.install_all.new.prepared.closing ≡ closing_on (plain_workload c.args.c.now.value) (gathered c.args.base.now.items (states c.args.sites.now)) (site_or_zero (plain_workload c.args.c.now.value) c.args.call) c.args.call c.args.broken
unfolding definitions
closing c =
    let w = plain_workload c.args.c.now.value in
    ap (λ (p : PreparedValue). p.closing) c.install_all.ensures.prepared ∙ ap (λ (p : PreparedValue). p.closing) c.in_ok-prepared.ensures
    ∙ ap (λ (g : GatherValue). closing_on w g.sum (site_or_zero w c.args.call) c.args.call c.args.broken) c.in_ok-gather.ensures

pub returns-clause-book : goal.returns-clause-book
unfolding definitions
returns-clause-book c =
    let w = plain_workload c.args.c.now.value in
    let call = c.args.call in
    let b : BookState = book_of c.args.closed.now.items c.args.base.now.items in
    let sum : c.in_ok-gather.gather.sum ≡ gathered c.args.base.now.items (states c.args.sites.now) = ap (λ (g : GatherValue). g.sum) c.in_ok-gather.ensures in
    let base : c.install_all.new.prepared.base ≡ c.args.base.now.items =
    ap (λ (p : PreparedValue). p.base) c.install_all.ensures.prepared ∙ ap (λ (p : PreparedValue). p.base) c.in_ok-prepared.ensures ∙ ap (λ (g : GatherValue). g.base) c.in_ok-gather.ensures in
    let segments : c.install_all.new.prepared.segments ≡ segments_of (states c.args.sites.now) = ap (λ (p : PreparedValue). p.segments) c.install_all.ensures.prepared in
    let next : c.closed-round.result.1.items ≡ (call_outcome w call (gathered c.args.base.now.items (states c.args.sites.now))).database =
    c.closed-round.ensures.next ∙ ap (λ (p : PreparedValue). p.next) c.install_all.ensures.prepared ∙ ap (λ (p : PreparedValue). p.next) c.in_ok-prepared.ensures
    ∙ ap (λ d. (call_outcome w call d).database) sum in
    let round = c.closed-round.ensures.round ∙ (λ j. record { base = base j; segments = segments j; closing = Some (closing (goal.at.returns-clause-book c).After-install_all j) }) in
    let reserved : c.reserve.new.self.items ≡ c.args.closed.now.items = ap (λ (l : Listed Round). l.items) c.in_ok-reserve.ensures.ok in
    let rounds =
    ap (map plain_round) c.push_reserved.ensures
    ∙ map-append plain_round c.reserve.new.self.items (c.closed-round.result.0 ∷ [])
    ∙ (λ j. map plain_round (reserved j) ++ round j ∷ []) in
    (λ j. record { closed = rounds j; base = next j })

pub returns-clause-sites : goal.returns-clause-sites
unfolding definitions
returns-clause-sites c =
    let w = plain_workload c.args.c.now.value in
    let next : c.in_ok-prepared.prepared.next ≡ (call_outcome w c.args.call (gathered c.args.base.now.items (states c.args.sites.now))).database =
    ap (λ (p : PreparedValue). p.next) c.in_ok-prepared.ensures ∙ ap (λ (g : GatherValue). (call_outcome w c.args.call g.sum).database) c.in_ok-gather.ensures in
    c.install_all.ensures.sites ∙ ap (λ n. map (renewed n) (states c.args.sites.now)) next

pub returns-clause-answer : goal.returns-clause-answer
unfolding definitions
returns-clause-answer c =
    let round : c.install_all.new.prepared.round ≡ length c.args.closed.now.items =
    ap (λ (p : PreparedValue). p.round) c.install_all.ensures.prepared ∙ ap (λ (p : PreparedValue). p.round) c.in_ok-prepared.ensures ∙ ap (λ (g : GatherValue). g.round) c.in_ok-gather.ensures ∙ count (goal.at.returns-clause-answer c).After-as_slice in
    c.closed-round.ensures.answer ∙ (λ j. closing_answer (round j) (closing (goal.at.returns-clause-answer c).After-install_all j))
