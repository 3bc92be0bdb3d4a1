-- A site, the book and the pass of the closing call while the site goes on to the next round.
use Rattle.std.specs.Prelude.{◌≡◌, ◌⊎◌, ℕ, suc, ◌≤◌, ◌^◌, List, length, ℤ}
use Rattle.homeo_syntax.specs.Source as s
use Rattle.homeo_notes.specs.Lines.{Held, IsOwner, HasSeen, list_at}
use Rattle.homeo_history.specs.Answers.{Answer}
use Rattle.homeo_history.specs.Legal.{IsClientAt}
use Rattle.homeo_site.specs.SiteState.{renewed}
use Rattle.homeo_assembly.specs.Events.{Gives, Renews}
use Rattle.homeo_assembly.specs.Written.{written}
use Rattle.homeo_cluster.specs.inner.Cells.{CellValue, HoldsAt, site_lists}
use Rattle.homeo_cluster.specs.Places.{asked_line, done_line, at_line, bases_line}
use Rattle.homeo_cluster.specs.inner.Grows.{Grew}
use Rattle.homeo_cluster.specs.inner.Moves.{KeepsOthers, ArePairs}

-- ---- the pass of the closing call
-- its holder owns the client's list, whose next answer this is, and has seen at least this of what the site has done
pub record CanAsk (w : s.Workload) (a : Answer) (p : Held) : Type 0 where
  pub owns : IsOwner p (asked_line a.client)
  pub seen : HasSeen p (done_line w a.client) (list_at p (asked_line a.client))
  pub next : a.seq ≡ suc (length (list_at p (asked_line a.client)))
  pub few : a.seq ≤ 2 ^ 63

-- it has got the answer
pub record WasAsked (w : s.Workload) (a : Answer) (p p' : Held) : Type 0 where
  pub grew : Grew p p' (asked_line a.client) (written a)
  pub seen : HasSeen p' (done_line w a.client) (list_at p' (asked_line a.client))

-- at its own site, and at no other
abbrev pub IsAsked : s.Workload → ℕ → Answer → Held → Held → Type 0
IsAsked w site a p p' = (IsClientAt w site a.client × WasAsked w a p p') ⊎ ((IsClientAt w site a.client → ⊥) × (p' ≡ p))

-- ---- the closing answer
-- at its own site it has come to what the site has done and shut and to what the book has kept
pub record IsGiven (w : s.Workload) (site : ℕ) (a : Answer) (h0 b0 h b : Held) : Type 0 where
  pub done : Gives w site a (site_lists w site h0).done (site_lists w site h).done
  pub shut : Gives w site a (site_lists w site h0).shut (site_lists w site h).shut
  pub at : list_at h (at_line w site) ≡ list_at h0 (at_line w site)
  pub holds : HoldsAt w site h
  pub pairs : ArePairs w site h b
  pub keeps : KeepsOthers w site b0 b

-- ---- the site in the next round
pub record IsRenewed (w : s.Workload) (next : List ℤ) (a : Answer) (c c' : CellValue) (b b' : Held) : Type 0 where
  pub state : c'.site.state ≡ renewed next c.site.state
  pub lists : Renews w next c.site.state a (site_lists w c.site.state.number c.held) (site_lists w c.site.state.number c'.held)
  pub pairs : ArePairs w c.site.state.number c'.held b'
  pub keeps : KeepsOthers w c.site.state.number b b'
  pub told : HasSeen b' (at_line w c.site.state.number) (list_at b' (bases_line w))
