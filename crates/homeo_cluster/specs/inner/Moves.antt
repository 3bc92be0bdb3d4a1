-- A site and the book while the answers to the site's entries go over into the book.
use Rattle.std.specs.Prelude.{◌≡◌, ℕ, ◌<◌, ◌≤◌, length}
use Rattle.homeo_syntax.specs.Source as s
use Rattle.homeo_notes.specs.Lines.{Held, IsOwner, HasSeen, list_at, seen_at}
use Rattle.homeo_history.specs.Legal.{IsClientAt, call_count}
use Rattle.homeo_site.specs.SiteState.{SiteState}
use Rattle.homeo_assembly.specs.Events.{HasMoved}
use Rattle.homeo_cluster.specs.inner.Cells.{HoldsAt, KeepsFor, site_lists, answers_at}
use Rattle.homeo_cluster.specs.Places.{kept_line, done_line, shut_line, at_line, bases_line}

-- what the book's holder has, but for what it has seen of the sites' bases
pub record KeepsEach (w : s.Workload) (b : Held) : Type 0 where
  pub owns : IsOwner b (bases_line w)
  pub each : (client : ℕ) → client < length w.clients → KeepsFor w b client

-- what the book's holder keeps while it deals with one site: its list of bases, the lists of other sites' clients, and what it
-- has seen
pub record KeepsOthers (w : s.Workload) (site : ℕ) (b0 b : Held) : Type 0 where
  pub book : KeepsEach w b
  pub bases : list_at b (bases_line w) ≡ list_at b0 (bases_line w)
  pub others : (client : ℕ) → (IsClientAt w site client → ⊥) → list_at b (kept_line w client) ≡ list_at b0 (kept_line w client)
  pub seen : (i : ℕ) → HasSeen b i (seen_at b0 i)

-- the book has kept of the site's clients what the site has shut
abbrev pub ArePairs : s.Workload → ℕ → Held → Held → Type 0
ArePairs w site h b =
    (client : ℕ) → IsClientAt w site client → answers_at h client (shut_line w client) ≡ answers_at b client (kept_line w client)

-- k entries have gone over so far; h0, b0 are the holders before, h, b those now
pub record IsMoving (w : s.Workload) (x : SiteState) (k : ℕ) (h0 b0 h b : Held) : Type 0 where
  pub moved : HasMoved w x k (site_lists w x.number h0).shut (site_lists w x.number h).shut
  pub at : list_at h (at_line w x.number) ≡ list_at h0 (at_line w x.number)
  pub done : (client : ℕ) → IsClientAt w x.number client → list_at h (done_line w client) ≡ list_at h0 (done_line w client)
  pub holds : HoldsAt w x.number h
  pub pairs : ArePairs w x.number h b
  pub keeps : KeepsOthers w x.number b0 b

-- the site has answered each client at most as often as the client has calls
abbrev pub AreShort : s.Workload → ℕ → Held → Type 0
AreShort w site h =
    (client : ℕ) → IsClientAt w site client → length (list_at h (done_line w client)) ≤ call_count w client
