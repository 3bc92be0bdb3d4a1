-- What an attempt of a call comes to, and the room that it takes.
use Rattle.std.specs.Prelude.{◌≡◌, ◌≤◌, ℕ, false, List, [], length, ℤ, Some}
use Rattle.homeo_syntax.specs.Source as s
use Rattle.homeo_syntax.specs.Listed.{Listed}
use Rattle.homeo_meaning.specs.declared.call.CallId.{CallId}
use Rattle.homeo_meaning.specs.Serial.{values_of}
use Rattle.homeo_outline.specs.Numbers.{has}
use Rattle.homeo_site.specs.Key.{definitions}
use Rattle.homeo_site.specs.SiteState.{SiteState, KeepsCall, step_prints, step_deltas, step_finding}
use Rattle.homeo_site.specs.declared.attempts.Change.{Change}
use Rattle.homeo_site.specs.declared.attempts.Outcome.{Outcome}
use Rattle.homeo_site.specs.declared.attempts.Outcome.TheVariants.{Keeps, Breaks}
use Rattle.homeo_site.specs.declared.attempts.Room.{Room}

-- the change is what the call's local step makes of the site, and keeps the site's treaty; objects that aren't among those written have
-- the deltas that they had
pub record IsChange (w : s.Workload) (x : SiteState) (id : CallId) (c : Change) : Type 0 where
  pub keeps : KeepsCall w x id
  pub call : c.call ≡ id
  pub deltas : c.deltas.items ≡ step_deltas w x id
  pub prints : c.prints.items ≡ step_prints w x id
  pub written : (n : ℕ) → has n c.written.items ≡ false → values_of c.deltas.items n ≡ values_of x.deltas n

-- it keeps with the change that the local step makes, or breaks with what fails first
abbrev pub IsOutcome : s.Workload → SiteState → CallId → Outcome → Type 0
unfolding definitions
IsOutcome w x call (Keeps c) = IsChange w x call c
IsOutcome w x call (Breaks b) = step_finding w x call ≡ Some b

-- ---- room
-- room for a call: what its local step leaves and prints on the site's state, and the objects that it wrote: all others have the deltas
-- that they had
pub record IsRoom (w : s.Workload) (x : SiteState) (id : CallId) (r : Room) : Type 0 where
  pub call : r.call ≡ id
  pub deltas : r.deltas.items ≡ step_deltas w x id
  pub prints : r.prints.items ≡ step_prints w x id
  pub written : (n : ℕ) → has n r.written.items ≡ false → values_of r.deltas.items n ≡ values_of x.deltas n

-- a list for a copy of a call's prints: it is empty, and has room for them
pub record IsEmptyCopy (w : s.Workload) (x : SiteState) (id : CallId) (copy : Listed ℤ) : Type 0 where
  pub empty : copy.items ≡ []
  pub spare : length (step_prints w x id) ≤ copy.spare

-- what a copy has after the attempt: the prints where the call keeps the treaty, and else nothing
abbrev pub copied_prints : Outcome → List ℤ
unfolding definitions
copied_prints (Keeps c) = c.prints.items
copied_prints (Breaks b) = []
