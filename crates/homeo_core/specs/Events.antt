-- What a call makes of closed rounds and sites (this project's rule): a local call changes its own site, and a call that breaks
-- its site's treaty closes the round.
use Rattle.std.specs.Prelude.{◌≡◌, ℕ, List, [], ◌∷◌, ◌++◌, ℤ, Some, slice_get}
use Rattle.homeo_syntax.specs.Source as s
use Rattle.homeo_meaning.specs.declared.call.CallId.{CallId}
use Rattle.homeo_meaning.specs.Serial.{call_outcome}
use Rattle.homeo_plan.specs.declared.treaty.Broken.{Broken}
use Rattle.homeo_history.specs.Answers.{Answer, answers_of, answers_to}
use Rattle.homeo_history.specs.History.{Closing, Round}
use Rattle.homeo_history.specs.Legal.{IsCallAt}
use Rattle.homeo_site.specs.SiteState.{SiteState, step_finding}
use Rattle.homeo_core.specs.Key.{definitions}
use Rattle.homeo_core.specs.Joined.{BookState, AreJoined, segments_of, gathered, rounds_of}

-- a client at site home has the call, and its local step there breaks the treaty, with this finding
pub record BreaksCall (w : s.Workload) (sites : List SiteState) (home : ℕ) (call : CallId) (broken : Broken) : Type 0 where
  pub site : SiteState
  pub here : slice_get sites home ≡ Some site
  pub at_site : IsCallAt w home call
  pub breaks : step_finding w site call ≡ Some broken

-- the call with what it prints on a database
abbrev pub closing_on : s.Workload → List ℤ → ℕ → CallId → Broken → Closing
unfolding definitions
closing_on w database home call broken =
    record { site = home; entry = record { call = call; prints = (call_outcome w call database).prints }; broken = broken }

-- on the base with the deltas of all sites
abbrev pub closing_of : s.Workload → BookState → List SiteState → ℕ → CallId → Broken → Closing
unfolding definitions
closing_of w b sites home call broken = closing_on w (gathered b.base sites) home call broken

-- the round of these sites, closed by the call
abbrev pub closed_round : s.Workload → BookState → List SiteState → ℕ → CallId → Broken → Round
unfolding definitions
closed_round w b sites home call broken = record {
  base = b.base;
  segments = segments_of sites;
  closing = Some (closing_of w b sites home call broken);
}

-- the database that the call leaves
abbrev pub next_base : s.Workload → BookState → List SiteState → CallId → List ℤ
unfolding definitions
next_base w b sites call = (call_outcome w call (gathered b.base sites)).database

abbrev pub after_closing : s.Workload → BookState → List SiteState → ℕ → CallId → Broken → BookState
unfolding definitions
after_closing w b sites home call broken = record {
  closed = b.closed ++ closed_round w b sites home call broken ∷ [];
  base = next_base w b sites call;
}

-- the answers to each client are those of the old rounds, and this one comes last among its own client's
abbrev pub OneMore : Answer → List Round → List Round → Type 0
unfolding definitions
OneMore a old new =
    (client : ℕ) → answers_to client (answers_of 0 new) ≡ answers_to client (answers_of 0 old) ++ answers_to client (a ∷ [])

-- the state after a call, which got this answer
pub record IsAfter (w : s.Workload) (start : List ℤ) (a : Answer) (b b' : BookState) (sites sites' : List SiteState) : Type 0 where
  pub joined : AreJoined w start b' sites'
  pub answer : OneMore a (rounds_of b sites) (rounds_of b' sites')
