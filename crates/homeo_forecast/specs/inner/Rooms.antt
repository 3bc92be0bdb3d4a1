-- What is kept of a clause: its slack, the peaks of the sites, and what the slack leaves above them.
use Rattle.std.specs.Prelude.{◌≡◌, ◌≤ℤ◌, ◌<◌, ◌^◌, ℕ, List, length, slice_index_or, pos, ◌-ℤ◌, ◌<ℤ◌}
use Rattle.homeo_plan.specs.Template.{Clause}
use Rattle.homeo_plan.specs.Config.{total}
use Rattle.homeo_outline.specs.ObjectPlan.{template_in}
use Rattle.homeo_outline.specs.declared.plan.ObjectPlan.{ObjectPlan}
use Rattle.homeo_forecast.specs.Peaks.{peaks}
use Rattle.homeo_forecast.specs.Visits.{Visit}
use Rattle.homeo_forecast.specs.declared.rooms.Room.{Room}

-- after visits of k sites
pub record HasRoom (k : ℕ) (vs : List Visit) (c : Clause) (r : Room) : Type 0 where
  pub slack_is : r.slack ≡ c.slack
  pub peaks_are : r.peaks.items ≡ peaks k vs c
  pub room_is : r.room ≡ c.slack -ℤ total (peaks k vs c)
  -- the slack is a number of 128 bits
  pub small : c.slack <ℤ pos (2 ^ 127)

-- so for each of a list of clauses, at its place
pub record HaveRooms (k : ℕ) (vs : List Visit) (cs : List Clause) (rs : List Room) : Type 0 where
  pub count : length rs ≡ length cs
  pub each : (n : ℕ) (c : Clause) (r : Room) → n < length cs → HasRoom k vs (slice_index_or cs n c) (slice_index_or rs n r)

-- so for the clauses of a plan
abbrev pub AreRooms : ObjectPlan → List Visit → List Room → Type 0
AreRooms p vs rs = HaveRooms p.outline.value.sites vs (template_in p).clauses rs

-- the room knows this site, and neither the site's peak nor what is left is below 0
pub record IsOpen (site : ℕ) (r : Room) : Type 0 where
  pub there : site < length r.peaks.items
  pub low : pos 0 ≤ℤ slice_index_or r.peaks.items site (pos 0)
  pub room : pos 0 ≤ℤ r.room
