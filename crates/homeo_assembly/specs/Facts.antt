-- What each site and the book of closed rounds keep for themselves, and what is known once their lists are found equal (this
-- project's rule).
use Rattle.std.specs.Prelude.{◌≡◌, ℕ, suc, ◌<◌, List, [], ◌∷◌, ◌++◌, map, length, ℤ, Some, slice_get}
use Rattle.std.specs.List.{range_with_len}
use Rattle.homeo_syntax.specs.Source as s
use Rattle.homeo_meaning.specs.Initial.{initial}
use Rattle.homeo_plan.specs.Planned.{sites_of}
use Rattle.homeo_history.specs.Answers.{Answer, local_answer, answers_of, answers_to}
use Rattle.homeo_history.specs.Legal.{IsClientAt}
use Rattle.homeo_site.specs.SiteState.{SiteState, SiteHolds}
use Rattle.homeo_core.specs.Joined.{BookState, BookHolds}
use Rattle.homeo_assembly.specs.Key.{definitions}

-- ---- a site
-- the bases of the rounds that the site has been in; for each client the answers that it gave it, and those of them that stand in
-- closed rounds
pub record SiteLists : Type 0 where
  pub at : List (List ℤ)
  pub done : ℕ → List Answer
  pub shut : ℕ → List Answer

-- to a client of it: the answers in closed rounds, then those to its entries in the open round; they are numbered 1, 2 and so on
pub record Serves (x : SiteState) (done shut : List Answer) (client : ℕ) : Type 0 where
  pub answered : done ≡ shut ++ answers_to client (map (local_answer x.round x.number) x.segment)
  pub numbered : map (λ a. a.seq) done ≡ range_with_len 1 (length done)

pub record SiteFacts (w : s.Workload) (x : SiteState) (l : SiteLists) : Type 0 where
  pub holds : SiteHolds w x
  pub rounds : length l.at ≡ suc x.round
  pub base : slice_get l.at x.round ≡ Some x.base
  pub serves : (client : ℕ) → IsClientAt w x.number client → Serves x (l.done client) (l.shut client) client

-- ---- the book
-- the bases of all rounds begun, and for each client the answers to its calls in closed rounds
pub record BookLists : Type 0 where
  pub bases : List (List ℤ)
  pub kept : ℕ → List Answer

pub record BookFacts (w : s.Workload) (b : BookState) (l : BookLists) : Type 0 where
  pub holds : BookHolds w (initial w) b
  pub bases : l.bases ≡ map (λ r. r.base) b.closed ++ b.base ∷ []
  pub kept : (client : ℕ) → client < length w.clients → l.kept client ≡ answers_to client (answers_of 0 b.closed)

-- ---- lists that are found equal
-- a site's state with its lists
pub record Cell : Type 0 where
  pub site : SiteState
  pub lists : SiteLists

abbrev pub states_of : List Cell → List SiteState
unfolding definitions
states_of cells = map (λ c. c.site) cells

-- there is a cell for each site, in order; each site has been in all rounds, and has of its clients in closed rounds what the
-- book has
pub record AreMet (w : s.Workload) (l : BookLists) (cells : List Cell) : Type 0 where
  pub count : length cells ≡ sites_of w
  pub numbers : (i : ℕ) (c : Cell) → slice_get cells i ≡ Some c → c.site.number ≡ i
  pub at : (i : ℕ) (c : Cell) → slice_get cells i ≡ Some c → c.lists.at ≡ l.bases
  pub shut : (client i : ℕ) (c : Cell) → IsClientAt w i client → slice_get cells i ≡ Some c → c.lists.shut client ≡ l.kept client

-- each client has been answered what its site gave it
pub record AreAsked (w : s.Workload) (cells : List Cell) (asked : List (List Answer)) : Type 0 where
  pub clients : length asked ≡ length w.clients
  pub done : (client i : ℕ) (c : Cell) → IsClientAt w i client → slice_get cells i ≡ Some c →
      slice_get asked client ≡ Some (c.lists.done client)
