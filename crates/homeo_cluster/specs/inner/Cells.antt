-- What lies under the locks, and what the types there keep (this project's rule).
use Rattle.std.specs.Prelude.{◌≡◌, ℕ, ◌<◌, List, map, length, ℤ}
use Rattle.homeo_syntax.specs.Source as s
use Rattle.homeo_syntax.specs.SourceView.{plain_workload}
use Rattle.homeo_notes.specs.Lines.{Held, IsOwner, HasSeen, list_at}
use Rattle.homeo_plan.specs.Planned.{sites_of}
use Rattle.homeo_history.specs.Answers.{Answer}
use Rattle.homeo_history.specs.History.{Round}
use Rattle.homeo_history.specs.Legal.{IsClientAt}
use Rattle.homeo_site.specs.SiteView.{SiteValue}
use Rattle.homeo_core.specs.Joined.{BookState}
use Rattle.homeo_assembly.specs.Facts.{SiteLists, SiteFacts, BookLists, BookFacts, Cell}
use Rattle.homeo_assembly.specs.Written.{read}
use Rattle.homeo_cluster.specs.Places.{asked_line, kept_line, done_line, shut_line, at_line, bases_line}

-- the answers in the list of a line, which is one of this client
abbrev pub answers_at : Held → ℕ → ℕ → List Answer
answers_at h client line = map (read client) (list_at h line)

-- ---- a site
-- the site, and what its holder of lines has
pub record CellValue : Type 0 where
  pub site : SiteValue
  pub held : Held

abbrev pub site_lists : s.Workload → ℕ → Held → SiteLists
site_lists w site h = record {
  at = list_at h (at_line w site);
  done = λ client. answers_at h client (done_line w client);
  shut = λ client. answers_at h client (shut_line w client);
}

-- for a client of the site: the holder owns the lists of what the site has done for it and of what of this is shut, and has seen
-- at least the first of what the client was asked, and at least the second of what the book has kept
pub record HoldsFor (w : s.Workload) (h : Held) (client : ℕ) : Type 0 where
  pub owns_done : IsOwner h (done_line w client)
  pub owns_shut : IsOwner h (shut_line w client)
  pub seen_asked : HasSeen h (asked_line client) (list_at h (done_line w client))
  pub seen_kept : HasSeen h (kept_line w client) (list_at h (shut_line w client))

-- so for each client of the site; it owns the list of the bases that the site has been at, and has seen at least this of the
-- bases of all rounds
pub record HoldsAt (w : s.Workload) (site : ℕ) (h : Held) : Type 0 where
  pub owns : IsOwner h (at_line w site)
  pub seen : HasSeen h (bases_line w) (list_at h (at_line w site))
  pub each : (client : ℕ) → IsClientAt w site client → HoldsFor w h client

-- what lies under a site's lock: a site of the workload, of which the facts hold
pub record IsCell (w : s.Workload) (c : CellValue) : Type 0 where
  pub work : plain_workload c.site.work ≡ w
  pub number : c.site.state.number < sites_of w
  pub facts : SiteFacts w c.site.state (site_lists w c.site.state.number c.held)
  pub holds : HoldsAt w c.site.state.number c.held

-- ---- the book
-- the closed rounds, the base of the open one, and what the book's holder of lines has
pub record BookValue : Type 0 where
  pub closed : List Round
  pub base : List ℤ
  pub held : Held

abbrev pub book_state : BookValue → BookState
book_state b = record { closed = b.closed; base = b.base }

abbrev pub book_lists : s.Workload → Held → BookLists
book_lists w h = record { bases = list_at h (bases_line w); kept = λ client. answers_at h client (kept_line w client) }

-- the holder owns the list of what is kept of a client, and has seen at least this of what the client's site has shut
pub record KeepsFor (w : s.Workload) (h : Held) (client : ℕ) : Type 0 where
  pub owns : IsOwner h (kept_line w client)
  pub seen : HasSeen h (shut_line w client) (list_at h (kept_line w client))

-- so for each client; it owns the list of the bases of all rounds, and has seen at least this of the bases of each site
pub record HoldsBook (w : s.Workload) (h : Held) : Type 0 where
  pub owns : IsOwner h (bases_line w)
  pub seen : (site : ℕ) → site < sites_of w → HasSeen h (at_line w site) (list_at h (bases_line w))
  pub each : (client : ℕ) → client < length w.clients → KeepsFor w h client

-- what lies under the book's lock
pub record IsBook (w : s.Workload) (b : BookValue) : Type 0 where
  pub facts : BookFacts w (book_state b) (book_lists w b.held)
  pub holds : HoldsBook w b.held

-- ---- as the law of assembly takes them
abbrev pub cell_of : s.Workload → CellValue → Cell
cell_of w c = record { site = c.site.state; lists = site_lists w c.site.state.number c.held }

abbrev pub cells_of : s.Workload → List CellValue → List Cell
cells_of w cs = map (cell_of w) cs
