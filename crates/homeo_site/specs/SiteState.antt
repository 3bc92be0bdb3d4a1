-- A site in a round: what it keeps, and what its calls make of it (this project's rule).
use Rattle.std.specs.Prelude.{◌≡◌, ℕ, suc, ◌<◌, List, [], ◌∷◌, ◌++◌, length, replicate, ℤ, pos, All, Option}
use Rattle.homeo_syntax.specs.Source as s
use Rattle.homeo_meaning.specs.declared.call.CallId.{CallId}
use Rattle.homeo_meaning.specs.Bounds.{IsWithin}
use Rattle.homeo_meaning.specs.Schema.{schema_of}
use Rattle.homeo_meaning.specs.Serial.{values_of, database_like}
use Rattle.homeo_plan.specs.declared.treaty.Broken.{Broken}
use Rattle.homeo_plan.specs.Joined.{Deltas}
use Rattle.homeo_plan.specs.Local.{no_deltas}
use Rattle.homeo_plan.specs.Planned.{sites_of, template_at, policy}
use Rattle.homeo_plan.specs.Treaty.{finding}
use Rattle.homeo_history.specs.History.{Entry}
use Rattle.homeo_history.specs.Legal.{IsCallAt}
use Rattle.homeo_history.specs.Replayed.{prints_at, deltas_after, end_of, MeetsTreaty, KeepsAll}
use Rattle.homeo_site.specs.Key.{definitions}

-- the site's number, the round and the base that it begins with, the site's own delta of each object, and the entries of
-- its calls in this round
pub record SiteState : Type 0 where
  pub number : ℕ
  pub round : ℕ
  pub base : List ℤ
  pub deltas : List ℤ
  pub segment : List Entry

-- what a site keeps: its deltas meet its treaty; its segment has calls of its own clients, and replayed from deltas 0 each
-- entry keeps the treaty and has the prints of its local step, and the deltas at the end are the site's
pub record SiteHolds (w : s.Workload) (x : SiteState) : Type 0 where
  pub site : x.number < sites_of w
  pub within : IsWithin (schema_of w) x.base
  pub count : length x.deltas ≡ length x.base
  pub meets : MeetsTreaty w x.base x.number (values_of x.deltas)
  pub calls : All (λ e. IsCallAt w x.number e.call) x.segment
  pub keeps : KeepsAll w x.base x.number no_deltas x.segment
  pub replays : end_of w x.base x.segment no_deltas ≡ values_of x.deltas

-- ---- a local step
-- what a call's local step prints at the site
abbrev pub step_prints : s.Workload → SiteState → CallId → List ℤ
unfolding definitions
step_prints w x call = prints_at w x.base call (values_of x.deltas)

-- the deltas of the site after it, by the numbers of their objects
abbrev pub step_values : s.Workload → SiteState → CallId → Deltas
unfolding definitions
step_values w x call = deltas_after w x.base call (values_of x.deltas)

-- the same as a list, a delta for each object
abbrev pub step_deltas : s.Workload → SiteState → CallId → List ℤ
unfolding definitions
step_deltas w x call = database_like x.base (step_values w x call)

-- what fails first of the site's treaty there, if anything does
abbrev pub step_finding : s.Workload → SiteState → CallId → Option Broken
unfolding definitions
step_finding w x call = finding (template_at w x.base) (policy w x.base) x.number (step_values w x call)

-- the site's treaty holds there
abbrev pub KeepsCall : s.Workload → SiteState → CallId → Type 0
unfolding definitions
KeepsCall w x call = MeetsTreaty w x.base x.number (step_values w x call)

-- the call with what its local step prints
abbrev pub local_entry : s.Workload → SiteState → CallId → Entry
unfolding definitions
local_entry w x call = record { call = call; prints = step_prints w x call }

-- the site after the call's local step
abbrev pub after_local : s.Workload → SiteState → CallId → SiteState
unfolding definitions
after_local w x call = record {
  number = x.number;
  round = x.round;
  base = x.base;
  deltas = step_deltas w x call;
  segment = x.segment ++ local_entry w x call ∷ [];
}

-- ---- the start of a round
-- a site that has made no call in a round
abbrev pub begun : ℕ → ℕ → List ℤ → SiteState
unfolding definitions
begun number round base = record {
  number = number;
  round = round;
  base = base;
  deltas = replicate (length base) (pos 0);
  segment = [];
}

-- the site in the next round, on this base
abbrev pub renewed : List ℤ → SiteState → SiteState
unfolding definitions
renewed base x = begun x.number (suc x.round) base
