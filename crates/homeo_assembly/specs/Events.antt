-- What a call does to the lists of sites and book (this project's rule).
use Rattle.std.specs.Prelude.{◌≡◌, ℕ, suc, List, [], ◌∷◌, ◌++◌, map, take, length, ℤ, All, Some, slice_get}
use Rattle.homeo_syntax.specs.Source as s
use Rattle.homeo_history.specs.Answers.{Answer, local_answer, answers_to}
use Rattle.homeo_history.specs.History.{Entry}
use Rattle.homeo_history.specs.Legal.{IsClientAt}
use Rattle.homeo_site.specs.SiteState.{SiteState, renewed}
use Rattle.homeo_core.specs.Joined.{BookState}
use Rattle.homeo_assembly.specs.Key.{definitions}
use Rattle.homeo_assembly.specs.Facts.{SiteLists, SiteFacts, BookLists, BookFacts, Cell, AreMet}

-- of the site's clients, the answer's own gets it at the end of its list, and no other list changes
abbrev pub Gives : s.Workload → ℕ → Answer → (ℕ → List Answer) → (ℕ → List Answer) → Type 0
unfolding definitions
Gives w site a old new =
    (client : ℕ) → IsClientAt w site client → new client ≡ old client ++ answers_to client (a ∷ [])

-- the two hold the same for the site's clients
abbrev pub Agree : s.Workload → ℕ → (ℕ → List Answer) → (ℕ → List Answer) → Type 0
unfolding definitions
Agree w site old new = (client : ℕ) → IsClientAt w site client → new client ≡ old client

-- the answer is the next one of its client, where this is a client of the site
abbrev pub IsNext : s.Workload → ℕ → Answer → (ℕ → List Answer) → Type 0
unfolding definitions
IsNext w site a done = IsClientAt w site a.client → a.seq ≡ suc (length (done a.client))

-- ---- a local call
-- the site gives the answer to its client
pub record ExtendsDone (w : s.Workload) (x : SiteState) (a : Answer) (l l' : SiteLists) : Type 0 where
  pub next : IsNext w x.number a l.done
  pub at : l'.at ≡ l.at
  pub done : Gives w x.number a l.done l'.done
  pub shut : Agree w x.number l.shut l'.shut

-- ---- a call that closes the round
-- at each site: the next base comes to the list of bases, the answer to its client's, and all that was answered is closed
pub record Renews (w : s.Workload) (base : List ℤ) (x : SiteState) (a : Answer) (l l' : SiteLists) : Type 0 where
  pub next : IsNext w x.number a l.done
  pub at : l'.at ≡ l.at ++ base ∷ []
  pub done : Gives w x.number a l.done l'.done
  pub shut : Agree w x.number l'.done l'.shut

-- and in the book: the next base comes to its bases, and of each client it has what the client's site has
pub record Closes (w : s.Workload) (base : List ℤ) (a : Answer) (cells cells' : List Cell) (l l' : BookLists) : Type 0 where
  pub count : length cells' ≡ length cells
  pub bases : l'.bases ≡ l.bases ++ base ∷ []
  pub site : (i : ℕ) (c c' : Cell) → slice_get cells i ≡ Some c → slice_get cells' i ≡ Some c' → c'.site ≡ renewed base c.site
  pub lists : (i : ℕ) (c c' : Cell) → slice_get cells i ≡ Some c → slice_get cells' i ≡ Some c' →
      Renews w base c.site a c.lists c'.lists
  pub kept : (i : ℕ) (c' : Cell) → slice_get cells' i ≡ Some c' → Agree w i c'.lists.shut l'.kept

-- sites and book keep what they keep, and their lists are found equal
pub record InHand (w : s.Workload) (b : BookState) (l : BookLists) (cells : List Cell) : Type 0 where
  pub book : BookFacts w b l
  pub sites : All (λ c. SiteFacts w c.site c.lists) cells
  pub met : AreMet w l cells

-- ---- while a round is closed, the answers to a site's entries go over one by one
-- the answers to the first k entries have come to the ends of the lists
abbrev pub HasMoved : s.Workload → SiteState → ℕ → (ℕ → List Answer) → (ℕ → List Answer) → Type 0
unfolding definitions
HasMoved w x k old now =
    (client : ℕ) → IsClientAt w x.number client →
    now client ≡ old client ++ answers_to client (map (local_answer x.round x.number) (take k x.segment))

-- from none to all of them, and then the closing call's answer
pub record Moves (w : s.Workload) (x : SiteState) (l : SiteLists) : Type 0 where
  pub none : HasMoved w x 0 l.shut l.shut
  pub more : (k : ℕ) (e : Entry) (now later : ℕ → List Answer) → slice_get x.segment k ≡ Some e → HasMoved w x k l.shut now →
      Gives w x.number (local_answer x.round x.number e) now later → HasMoved w x (suc k) l.shut later
  pub all : (now : ℕ → List Answer) → HasMoved w x (length x.segment) l.shut now → Agree w x.number l.done now
  pub closing : (a : Answer) (now later done : ℕ → List Answer) → Agree w x.number l.done now →
      Gives w x.number a now later → Gives w x.number a l.done done → Agree w x.number done later

-- ---- the start
abbrev pub no_answers : ℕ → List Answer
no_answers client = []
