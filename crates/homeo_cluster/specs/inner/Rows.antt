-- Cells behind a row of locks that are held, and while they go on to the next round one after another.
use Rattle.std.specs.Prelude.{◌≡◌, ℕ, ◌+◌, ◌<◌, ◌≤◌, ◌^◌, true, false, List, [], ◌∷◌, ◌++◌, map, length, replicate, ℤ, Some, slice_get}
use Rattle.std.specs.Sync.Mutex.{mutex_guard_value}
use Rattle.std.specs.declared.sync.MutexGuard.{MutexGuard}
use Rattle.homeo_syntax.specs.Source as s
use Rattle.homeo_syntax.specs.SourceView.{plain_workload}
use Rattle.homeo_meaning.specs.declared.call.CallId.{CallId}
use Rattle.homeo_notes.specs.Lines.{Held, HasSeen, list_at}
use Rattle.homeo_plan.specs.declared.treaty.Broken.{Broken}
use Rattle.homeo_history.specs.Answers.{Answer}
use Rattle.homeo_history.specs.Legal.{IsClientAt}
use Rattle.homeo_site.specs.SiteState.{SiteState, renewed}
use Rattle.homeo_core.specs.PreparedView.{PreparedValue}
use Rattle.homeo_core.specs.Events.{closing_of, next_base}
use Rattle.homeo_core.specs.Joined.{BookState, segments_of}
use Rattle.homeo_core.specs.SiteLists.{first_from}
use Rattle.homeo_assembly.specs.Events.{Renews}
use Rattle.homeo_cluster.specs.inner.Cells.{CellValue, site_lists}
use Rattle.homeo_cluster.specs.Places.{kept_line, at_line, bases_line}
use Rattle.homeo_cluster.specs.inner.Moves.{KeepsEach, ArePairs, AreShort}
use Rattle.homeo_cluster.specs.inner.Renewed.{WasAsked}

-- what lies under locks that are held
abbrev pub held_cells : {X : Type 0} → List (MutexGuard X) → List X
held_cells {X} guards = map (λ (g : MutexGuard X). mutex_guard_value g) guards

-- ---- before
-- what each site needs to go on: the book has kept what it has shut, it has answered its clients no more often than they have calls,
-- the book is one base ahead of it, and there is room for a round more
pub record IsReady (w : s.Workload) (next : List ℤ) (b : Held) (site : ℕ) (c : CellValue) : Type 0 where
  pub pairs : ArePairs w site c.held b
  pub short : AreShort w site c.held
  pub ahead : list_at b (bases_line w) ≡ list_at c.held (at_line w site) ++ next ∷ []
  pub few : c.site.state.round + 1 < 2 ^ 63

abbrev pub CanRenew : s.Workload → List ℤ → Held → List CellValue → Type 0
CanRenew w next b cells = (i : ℕ) (c : CellValue) → slice_get cells i ≡ Some c → IsReady w next b i c

-- ---- one after another
-- a site that has gone on, where the book's holder is now b
pub record HasGoneOn (w : s.Workload) (next : List ℤ) (a : Answer) (site : ℕ) (c c' : CellValue) (b : Held) : Type 0 where
  pub state : c'.site.state ≡ renewed next c.site.state
  pub lists : Renews w next c.site.state a (site_lists w site c.held) (site_lists w site c'.held)
  pub pairs : ArePairs w site c'.held b
  pub told : HasSeen b (at_line w site) (list_at b (bases_line w))

-- of the cells before, the first n have gone on, and the others are as they were; b0, p0 are the holders of the book and of the
-- closing call's pass before, b, p those now
pub record HaveGoneOn (w : s.Workload) (next : List ℤ) (a : Answer) (n : ℕ) (before now : List CellValue) (b0 b p0 p : Held) : Type 0 where
  pub count : length now ≡ length before
  pub done : (i : ℕ) (c c' : CellValue) → i < n → slice_get before i ≡ Some c → slice_get now i ≡ Some c' → HasGoneOn w next a i c c' b
  pub same : (i : ℕ) (c : CellValue) → n ≤ i → slice_get before i ≡ Some c → slice_get now i ≡ Some c
  pub book : KeepsEach w b
  pub bases : list_at b (bases_line w) ≡ list_at b0 (bases_line w)
  pub kept : (site client : ℕ) → n ≤ site → IsClientAt w site client →
      list_at b (kept_line w client) ≡ list_at b0 (kept_line w client)
  pub asked : (site : ℕ) → IsClientAt w site a.client → site < n → WasAsked w a p0 p
  pub unasked : (site : ℕ) → IsClientAt w site a.client → n ≤ site → p ≡ p0

-- of so many sites, the first n have their starts
abbrev pub prepared_at : PreparedValue → List SiteState → ℕ → PreparedValue
prepared_at p sites n = record {
  work = p.work;
  round = p.round;
  base = p.base;
  closing = p.closing;
  next = p.next;
  segments = first_from p.segments (segments_of sites) n;
  waiting = first_from p.waiting (replicate (length sites) false) n;
}

-- ---- the end of a round
-- all that it takes is ready: for closed rounds, the sites of the open one, the site of the closing call, the call and what it breaks
pub record IsPrepared (w : s.Workload) (b : BookState) (sites : List SiteState) (home : ℕ) (call : CallId) (broken : Broken)
    (p : PreparedValue) : Type 0 where
  pub work : plain_workload p.work ≡ w
  pub round : p.round ≡ length b.closed
  pub base : p.base ≡ b.base
  pub closing : p.closing ≡ closing_of w b sites home call broken
  pub next : p.next ≡ next_base w b sites call
  pub segments : length p.segments ≡ length sites
  pub waiting : p.waiting ≡ replicate (length sites) true
  pub few : p.round + 1 < 2 ^ 63
