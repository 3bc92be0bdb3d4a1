-- What stays where lists meet, and what is then known.
use Rattle.std.specs.Prelude.{◌≡◌, ℕ, ◌<◌, List, map, Some, All, slice_get}
use Rattle.homeo_syntax.specs.Source as s
use Rattle.homeo_history.specs.Answers.{Answer}
use Rattle.homeo_history.specs.Legal.{IsClientAt}
use Rattle.homeo_site.specs.SiteState.{SiteState}
use Rattle.homeo_core.specs.Joined.{BookState}
use Rattle.homeo_assembly.specs.Facts.{Cell, BookLists, SiteFacts, BookFacts, AreMet, AreAsked}
use Rattle.homeo_cluster.specs.inner.Cells.{CellValue, BookValue, cell_of, book_lists}
use Rattle.homeo_cluster.specs.Passes.{PassValue}

-- ---- the holder alone has learnt something
pub record SameCell (w : s.Workload) (c c' : CellValue) : Type 0 where
  pub site : c'.site ≡ c.site
  pub cell : cell_of w c' ≡ cell_of w c

pub record SameBook (w : s.Workload) (b b' : BookValue) : Type 0 where
  pub closed : b'.closed ≡ b.closed
  pub base : b'.base ≡ b.base
  pub lists : book_lists w b'.held ≡ book_lists w b.held

pub record SamePass (p p' : PassValue) : Type 0 where
  pub client : p'.client ≡ p.client
  pub log : p'.log ≡ p.log
  pub left : p'.left ≡ p.left

-- ---- sites in order
abbrev pub AreNumbered : List CellValue → Type 0
AreNumbered cells = (i : ℕ) (c : CellValue) → slice_get cells i ≡ Some c → c.site.state.number ≡ i

abbrev pub CellsNumbered : List Cell → Type 0
CellsNumbered cells = (i : ℕ) (c : Cell) → slice_get cells i ≡ Some c → c.site.number ≡ i

abbrev pub site_states : List CellValue → List SiteState
site_states cells = map (λ (c : CellValue). c.site.state) cells

-- ---- met so far
-- a site has its facts, and has been in all rounds
pub record IsMet (w : s.Workload) (c : Cell) (l : BookLists) : Type 0 where
  pub facts : SiteFacts w c.site c.lists
  pub at : c.lists.at ≡ l.bases

-- the first n sites are met
abbrev pub MetAt : s.Workload → ℕ → List Cell → BookLists → Type 0
MetAt w n cells l = (i : ℕ) (c : Cell) → i < n → slice_get cells i ≡ Some c → IsMet w c l

-- of the first n clients site and book have the same
abbrev pub MetShut : s.Workload → ℕ → List Cell → BookLists → Type 0
MetShut w n cells l =
    (client i : ℕ) (c : Cell) → client < n → IsClientAt w i client → slice_get cells i ≡ Some c →
    c.lists.shut client ≡ l.kept client

-- of the first n clients site and pass have the same
abbrev pub MetDone : s.Workload → ℕ → List Cell → List (List Answer) → Type 0
MetDone w n cells logs =
    (client i : ℕ) (c : Cell) → client < n → IsClientAt w i client → slice_get cells i ≡ Some c →
    slice_get logs client ≡ Some (c.lists.done client)

-- ---- all met
-- sites, book and passes are met, each with its facts
pub record AreSettled (w : s.Workload) (b : BookState) (l : BookLists) (cells : List Cell) (logs : List (List Answer)) : Type 0 where
  pub book : BookFacts w b l
  pub sites : All (λ c. SiteFacts w c.site c.lists) cells
  pub met : AreMet w l cells
  pub asked : AreAsked w cells logs
