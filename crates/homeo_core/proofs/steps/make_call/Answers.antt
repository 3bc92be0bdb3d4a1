use Rattle.homeo_history.specs.Key.{definitions as history_definitions}
use Rattle.homeo_site.specs.Key.{definitions as site_definitions}
use Rattle.std.proofs.Common.{◌≡◌, ◌<◌, length, map, get_or, Some, None, sym, ap, subst, ◌∙◌, slice_set}
use Rattle.std.proofs.lemmas.List.{length-map}
use Rattle.homeo_syntax.specs.declared.workload.Workload.{Workload}
use Rattle.homeo_syntax.specs.SourceView.{plain_workload}
use Rattle.homeo_plan.specs.declared.treaty.Broken.{Broken}
use Rattle.homeo_history.specs.Answers.{closing_answer}
use Rattle.homeo_history.specs.Follows.{site_or_zero}
use Rattle.homeo_history.specs.HistoryView.{plain_round}
use Rattle.homeo_history.specs.Legal.{IsCallAt}
use Rattle.homeo_history.specs.declared.answer.Path.TheVariants.{Local}
use Rattle.homeo_site.specs.SiteState.{SiteState, renewed, step_finding, after_local}
use Rattle.homeo_site.specs.SiteView.{SiteValue}
use Rattle.homeo_round.specs.Key.{definitions as round_definitions}
use Rattle.homeo_round.specs.Tried.{IsTried, after_try}
use Rattle.homeo_core.specs.Key.{definitions}
use Rattle.homeo_core.specs.CoreView.{start_of, book_after, sites_after, answer_to}
use Rattle.homeo_core.specs.Events.{BreaksCall, closing_of, next_base, after_closing}
use Rattle.homeo_core.specs.Joined.{BookState, AreJoined}
use Rattle.homeo_core.specs.Books.{book_of}
use Rattle.homeo_core.specs.SiteLists.{states}
use Rattle.homeo_core.proofs.CallsMade.{none_where_kept, home_is, home_lt, states_stay, on_err, on_err_map, if_ok}
use Rattle.homeo_core.proofs.GatheredSites.{states_at, states_set}
use Rattle.homeo_core.proofs.steps.make_call.Goals as goal
use Rattle.homeo_core.proofs.steps.make_call.Goals.{In-Refused}

pub bounds-sites-home : goal.bounds-sites-home
unfolding definitions
bounds-sites-home c =
    let w = plain_workload c.args.c.now.value in
    let b : BookState = book_of c.args.closed.now.items c.args.base.now.items in
    home_lt w (start_of b) b c.args.sites.now c.args.home c.args.call c.requires.accepted c.requires.joined c.requires.at_home

pub try_call-requires : goal.try_call-requires
unfolding definitions
try_call-requires c =
    let w = plain_workload c.args.c.now.value in
    let b : BookState = book_of c.args.closed.now.items c.args.base.now.items in
    let sites = c.args.sites.now in
    let home = c.args.home in
    let d : SiteValue = c.index-sites-home.result in
    let lt : home < length sites = home_lt w (start_of b) b sites home c.args.call c.requires.accepted c.requires.joined c.requires.at_home in
    let number : (get_or sites home d).state.number ≡ home = (c.requires.joined.round.each home (get_or sites home d).state (states_at sites home d lt)).numbered in
    subst (λ (v : Workload). IsCallAt (plain_workload v) (get_or sites home d).state.number c.args.call) (sym (c.requires.of home d lt))
    (subst (λ n. IsCallAt w n c.args.call) (sym number) c.requires.at_home)

pub returns-in_err-prints-clause-unchanged : goal.returns-in_err-prints-clause-unchanged
unfolding definitions
returns-in_err-prints-clause-unchanged c =
    let w = plain_workload c.args.c.now.value in
    let b : BookState = book_of c.args.closed.now.items c.args.base.now.items in
    let sites = c.args.sites.now in
    let home = c.args.home in
    let d : SiteValue = c.index-sites-home.result in
    let lt : home < length sites = home_lt w (start_of b) b sites home c.args.call c.requires.accepted c.requires.joined c.requires.at_home in
    on_err c.from_residual.result _ (states_stay sites home d c.try_call.new.site lt c.in_err-prints.ensures.unchanged)

-- ---- where it makes it
pub returns-in-Made-clause-made : goal.returns-in-Made-clause-made
unfolding definitions round_definitions history_definitions site_definitions
returns-in-Made-clause-made c =
    let w = plain_workload c.args.c.now.value in
    let b : BookState = book_of c.args.closed.now.items c.args.base.now.items in
    let sites = c.args.sites.now in
    let home = c.args.home in
    let call = c.args.call in
    let d : SiteValue = c.index-sites-home.result in
    let x : SiteState = (get_or sites home d).state in
    let lt : home < length sites = home_lt w (start_of b) b sites home call c.requires.accepted c.requires.joined c.requires.at_home in
    let work : (get_or sites home d).work ≡ c.args.c.now.value = c.requires.of home d lt in
    let tried : IsTried w x call c.in_ok-prints.field-0 = subst (λ (v : Workload). IsTried (plain_workload v) x call c.in_ok-prints.field-0) work c.in_ok-prints.ensures.tried in
    let made = subst (IsTried w x call) c.in-Made.is tried in
    let none : step_finding w x call ≡ None = none_where_kept w x call made.0 in
    let state : c.try_call.new.site.state ≡ after_local w x call =
    c.in_ok-prints.ensures.state ∙ (λ j. after_try (plain_workload (work j)) x call (c.in-Made.is j)) in
    let round : length c.as_slice.result.now ≡ length (map plain_round c.args.closed.now.items) = ap length c.as_slice.ensures ∙ sym (length-map c.args.closed.now.items plain_round) in
    record {
      site = x;
      here = states_at sites home d lt;
      rounds = ap (book_after w b (states sites) home call) (sym none);
      states =
          states_set sites home c.try_call.new.site ∙ ap (slice_set (states sites) home) state
          ∙ ap (sites_after w b (states sites) home x call) (sym none);
      answer =
          (λ j. record { client = call.client; seq = call.seq; site = home; round = round j; path = Local; prints = made.1 j })
          ∙ ap (answer_to w b (states sites) home x call) (sym none);
    }

-- ---- where the site refuses the call
abbrev site : In-Refused → SiteValue
site c = get_or c.args.sites.now c.args.home c.index-sites-home.result

is_site : (c : In-Refused) → c.args.home < length c.args.sites.now
unfolding definitions
is_site c =
    let b : BookState = book_of c.args.closed.now.items c.args.base.now.items in
    home_lt (plain_workload c.args.c.now.value) (start_of b) b c.args.sites.now c.args.home c.args.call c.requires.accepted c.requires.joined c.requires.at_home

unmoved : (c : In-Refused) → states (slice_set c.args.sites.now c.args.home c.try_call.new.site) ≡ states c.args.sites.now
unfolding definitions round_definitions
unmoved c =
    let state : c.try_call.new.site.state ≡ (site c).state = c.in_ok-prints.ensures.state ∙ ap (after_try (plain_workload (site c).work) (site c).state c.args.call) c.in-Refused.is in
    states_stay c.args.sites.now c.args.home c.index-sites-home.result c.try_call.new.site (is_site c) state

breaks : (c : In-Refused) → step_finding (plain_workload c.args.c.now.value) (site c).state c.args.call ≡ Some c.in-Refused.broken
unfolding definitions round_definitions
breaks c =
    let tried : IsTried (plain_workload c.args.c.now.value) (site c).state c.args.call c.in_ok-prints.field-0 =
    subst (λ (v : Workload). IsTried (plain_workload v) (site c).state c.args.call c.in_ok-prints.field-0) (c.requires.of c.args.home c.index-sites-home.result (is_site c)) c.in_ok-prints.ensures.tried in
    subst (IsTried (plain_workload c.args.c.now.value) (site c).state c.args.call) c.in-Refused.is tried

pub close_round-requires-clause-joined : goal.close_round-requires-clause-joined
unfolding definitions
close_round-requires-clause-joined c =
    let b : BookState = book_of c.args.closed.now.items c.args.base.now.items in
    subst (AreJoined (plain_workload c.args.c.now.value) (start_of b) b) (sym (unmoved (goal.at.close_round-requires-clause-joined c).In-Refused)) c.requires.joined

pub close_round-requires-clause-breaks : goal.close_round-requires-clause-breaks
unfolding definitions
close_round-requires-clause-breaks c =
    let e = (goal.at.close_round-requires-clause-breaks c).In-Refused in
    let w = plain_workload c.args.c.now.value in
    let sites = c.args.sites.now in
    let home = c.args.home in
    let call = c.args.call in
    let event : BreaksCall w (states sites) home call c.in-Refused.broken = record { site = (site e).state; here = states_at sites home c.index-sites-home.result (is_site e); at_site = c.requires.at_home; breaks = breaks e } in
    subst (λ l. BreaksCall w l (site_or_zero w call) call c.in-Refused.broken) (sym (unmoved e))
    (subst (λ n. BreaksCall w (states sites) n call c.in-Refused.broken) (sym (home_is w home call c.requires.at_home)) event)

pub returns-in-Refused-clause-made : goal.returns-in-Refused-clause-made
unfolding definitions
returns-in-Refused-clause-made c =
    let e = (goal.at.returns-in-Refused-clause-made c).In-Refused in
    let w = plain_workload c.args.c.now.value in
    let b : BookState = book_of c.args.closed.now.items c.args.base.now.items in
    let sites = c.args.sites.now in
    let home = c.args.home in
    let call = c.args.call in
    let x : SiteState = (site e).state in
    let broken : Broken = c.in-Refused.broken in
    let stay = unmoved e in
    let place = home_is w home call c.requires.at_home in
    let closed : length c.args.closed.now.items ≡ length (map plain_round c.args.closed.now.items) = sym (length-map c.args.closed.now.items plain_round) in
    if_ok c.close_round.result _ _ _ _ c.close_round.ensures.book c.close_round.ensures.sites c.close_round.ensures.answer
    (λ a book moved answer. record {
      site = x;
      here = states_at sites home c.index-sites-home.result (is_site e);
      rounds = book ∙ (λ j. after_closing w b (stay j) (place j) call broken) ∙ ap (book_after w b (states sites) home call) (sym (breaks e));
      states = moved ∙ (λ j. map (renewed (next_base w b (stay j) call)) (stay j)) ∙ ap (sites_after w b (states sites) home x call) (sym (breaks e));
      answer =
          answer ∙ (λ j. closing_answer (closed j) (closing_of w b (stay j) (place j) call broken))
          ∙ ap (answer_to w b (states sites) home x call) (sym (breaks e));
    })

pub returns-in-Refused-clause-unchanged : goal.returns-in-Refused-clause-unchanged
unfolding definitions
returns-in-Refused-clause-unchanged c =
    on_err_map c.close_round.result _ _ (λ e. ap states e ∙ unmoved (goal.at.returns-in-Refused-clause-unchanged c).In-Refused) c.close_round.ensures.unchanged
