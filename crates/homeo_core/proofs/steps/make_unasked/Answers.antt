use Rattle.std.proofs.Common.{◌≡◌, ◌<◌, length, map, get_or, Some, refl, sym, ap, subst, ◌∙◌, slice_set}
use Rattle.std.proofs.lemmas.List.{length-map}
use Rattle.homeo_syntax.specs.declared.workload.Workload.{Workload}
use Rattle.homeo_syntax.specs.SourceView.{plain_workload}
use Rattle.homeo_history.specs.Answers.{local_answer}
use Rattle.homeo_history.specs.Follows.{site_or_zero}
use Rattle.homeo_history.specs.HistoryView.{plain_answer, plain_round}
use Rattle.homeo_history.specs.Legal.{IsCallAt}
use Rattle.homeo_site.specs.SiteState.{SiteState, KeepsCall, step_finding, local_entry, after_local}
use Rattle.homeo_site.specs.SiteView.{SiteValue}
use Rattle.homeo_round.specs.Key.{definitions as round_definitions}
use Rattle.homeo_round.specs.Tried.{IsTriedUnasked, after_unasked}
use Rattle.homeo_core.specs.Key.{definitions}
use Rattle.homeo_core.specs.CoreView.{start_of}
use Rattle.homeo_core.specs.Events.{BreaksCall}
use Rattle.homeo_core.specs.Joined.{BookState, AreJoined}
use Rattle.homeo_core.specs.Books.{book_of}
use Rattle.homeo_core.specs.SiteLists.{states}
use Rattle.homeo_core.proofs.CallsMade.{home_is, home_lt, states_stay, made_alone, made_closing, on_err}
use Rattle.homeo_core.proofs.GatheredSites.{states_at}
use Rattle.homeo_core.proofs.steps.make_unasked.Goals as goal
use Rattle.homeo_core.proofs.steps.make_unasked.Goals.{In-Some}

pub bounds-sites-home : goal.bounds-sites-home
unfolding definitions
bounds-sites-home c =
    let w = plain_workload c.args.c.now.value in
    let b : BookState = book_of c.args.closed.now.items c.args.base.now.items in
    home_lt w (start_of b) b c.args.sites.now c.args.home c.args.call c.requires.accepted c.requires.joined c.requires.at_home

pub try_unasked-requires : goal.try_unasked-requires
unfolding definitions
try_unasked-requires c =
    let w = plain_workload c.args.c.now.value in
    let b : BookState = book_of c.args.closed.now.items c.args.base.now.items in
    let sites = c.args.sites.now in
    let home = c.args.home in
    let d : SiteValue = c.index-sites-home.result in
    let lt : home < length sites = home_lt w (start_of b) b sites home c.args.call c.requires.accepted c.requires.joined c.requires.at_home in
    let number : (get_or sites home d).state.number ≡ home = (c.requires.joined.round.each home (get_or sites home d).state (states_at sites home d lt)).numbered in
    subst (λ (v : Workload). IsCallAt (plain_workload v) (get_or sites home d).state.number c.args.call) (sym (c.requires.of home d lt))
    (subst (λ n. IsCallAt w n c.args.call) (sym number) c.requires.at_home)

pub returns-in_err-finding-clause-unchanged : goal.returns-in_err-finding-clause-unchanged
unfolding definitions
returns-in_err-finding-clause-unchanged c =
    let w = plain_workload c.args.c.now.value in
    let b : BookState = book_of c.args.closed.now.items c.args.base.now.items in
    let sites = c.args.sites.now in
    let home = c.args.home in
    let d : SiteValue = c.index-sites-home.result in
    let lt : home < length sites = home_lt w (start_of b) b sites home c.args.call c.requires.accepted c.requires.joined c.requires.at_home in
    on_err c.from_residual.result _ (states_stay sites home d c.try_unasked.new.site lt c.in_err-finding.ensures.unchanged)

-- ---- where it makes it
pub returns-in-None-clause-made : goal.returns-in-None-clause-made
unfolding definitions round_definitions
returns-in-None-clause-made c =
    let w = plain_workload c.args.c.now.value in
    let b : BookState = book_of c.args.closed.now.items c.args.base.now.items in
    let sites = c.args.sites.now in
    let home = c.args.home in
    let call = c.args.call in
    let d : SiteValue = c.index-sites-home.result in
    let x : SiteState = (get_or sites home d).state in
    let lt : home < length sites = home_lt w (start_of b) b sites home call c.requires.accepted c.requires.joined c.requires.at_home in
    let work : (get_or sites home d).work ≡ c.args.c.now.value = c.requires.of home d lt in
    let keeps : KeepsCall w x call =
    subst (λ (v : Workload). KeepsCall (plain_workload v) x call) work
    (subst (IsTriedUnasked (plain_workload (get_or sites home d).work) x call) c.in-None.is c.in_ok-finding.ensures.tried) in
    let state : c.try_unasked.new.site.state ≡ after_local w x call =
    c.in_ok-finding.ensures.state ∙ (λ j. after_unasked (plain_workload (work j)) x call (c.in-None.is j)) in
    let a = local_answer (length b.closed) home (local_entry w x call) in
    record { answer = a; made = made_alone w b sites home call d c.try_unasked.new.site lt a keeps state refl }

-- ---- where the site refuses the call
abbrev site : In-Some → SiteValue
site c = get_or c.args.sites.now c.args.home c.index-sites-home.result

is_site : (c : In-Some) → c.args.home < length c.args.sites.now
unfolding definitions
is_site c =
    let b : BookState = book_of c.args.closed.now.items c.args.base.now.items in
    home_lt (plain_workload c.args.c.now.value) (start_of b) b c.args.sites.now c.args.home c.args.call c.requires.accepted c.requires.joined c.requires.at_home

unmoved : (c : In-Some) → states (slice_set c.args.sites.now c.args.home c.try_unasked.new.site) ≡ states c.args.sites.now
unfolding definitions round_definitions
unmoved c =
    let state : c.try_unasked.new.site.state ≡ (site c).state =
    c.in_ok-finding.ensures.state ∙ ap (after_unasked (plain_workload (site c).work) (site c).state c.args.call) c.in-Some.is in
    states_stay c.args.sites.now c.args.home c.index-sites-home.result c.try_unasked.new.site (is_site c) state

breaks : (c : In-Some) → step_finding (plain_workload c.args.c.now.value) (site c).state c.args.call ≡ Some c.in-Some.broken
unfolding definitions round_definitions
breaks c =
    let tried : IsTriedUnasked (plain_workload c.args.c.now.value) (site c).state c.args.call c.in_ok-finding.finding =
    subst (λ (v : Workload). IsTriedUnasked (plain_workload v) (site c).state c.args.call c.in_ok-finding.finding) (c.requires.of c.args.home c.index-sites-home.result (is_site c)) c.in_ok-finding.ensures.tried in
    subst (IsTriedUnasked (plain_workload c.args.c.now.value) (site c).state c.args.call) c.in-Some.is tried

pub close_round-requires-clause-joined : goal.close_round-requires-clause-joined
unfolding definitions
close_round-requires-clause-joined c =
    let b : BookState = book_of c.args.closed.now.items c.args.base.now.items in
    subst (AreJoined (plain_workload c.args.c.now.value) (start_of b) b) (sym (unmoved (goal.at.close_round-requires-clause-joined c).In-Some)) c.requires.joined

pub close_round-requires-clause-breaks : goal.close_round-requires-clause-breaks
unfolding definitions
close_round-requires-clause-breaks c =
    let e = (goal.at.close_round-requires-clause-breaks c).In-Some in
    let w = plain_workload c.args.c.now.value in
    let sites = c.args.sites.now in
    let home = c.args.home in
    let call = c.args.call in
    let event : BreaksCall w (states sites) home call c.in-Some.broken = record { site = (site e).state; here = states_at sites home c.index-sites-home.result (is_site e); at_site = c.requires.at_home; breaks = breaks e } in
    subst (λ l. BreaksCall w l (site_or_zero w call) call c.in-Some.broken) (sym (unmoved e))
    (subst (λ n. BreaksCall w (states sites) n call c.in-Some.broken) (sym (home_is w home call c.requires.at_home)) event)

pub returns-in_err-close_round-in-Some-clause-unchanged : goal.returns-in_err-close_round-in-Some-clause-unchanged
unfolding definitions
returns-in_err-close_round-in-Some-clause-unchanged c =
    on_err c.from_residual-in_err-close_round-in-Some.result _ (ap states c.in_err-close_round-in-Some.ensures.unchanged ∙ unmoved (goal.at.returns-in_err-close_round-in-Some-clause-unchanged c).In-Some)

pub returns-in_ok-close_round-in-Some-clause-made : goal.returns-in_ok-close_round-in-Some-clause-made
unfolding definitions
returns-in_ok-close_round-in-Some-clause-made c =
    let e = (goal.at.returns-in_ok-close_round-in-Some-clause-made c).In-Some in
    let b : BookState = book_of c.args.closed.now.items c.args.base.now.items in
    let closed : length c.args.closed.now.items ≡ length (map plain_round c.args.closed.now.items) = sym (length-map c.args.closed.now.items plain_round) in
    let r = c.in_ok-close_round-in-Some.ensures in
    record {
      answer = plain_answer c.in_ok-close_round-in-Some.field-0;
      made = made_closing (plain_workload c.args.c.now.value) b c.args.sites.now c.args.home c.args.call c.index-sites-home.result c.try_unasked.new.site (is_site e)
          c.in-Some.broken _ _ _ _ c.requires.at_home (unmoved e) (breaks e) closed r.book r.sites r.answer;
    }
