-- Rounds replayed (Roy et al., SIGMOD 2015): by its local steps each site keeps its treaty, until the closing call breaks the
-- treaty of its own site.
use Rattle.std.specs.Prelude.{◌≡◌, ℕ, List, [], ◌∷◌, map, ℤ, Option, Some, IfSome}
use Rattle.homeo_syntax.specs.Source as s
use Rattle.homeo_meaning.specs.declared.call.CallId.{CallId}
use Rattle.homeo_meaning.specs.Serial.{values_of, database_like}
use Rattle.homeo_plan.specs.declared.treaty.Broken.{Broken}
use Rattle.homeo_plan.specs.Joined.{Deltas, folded}
use Rattle.homeo_plan.specs.Local.{local_prints, local_deltas, no_deltas, replay}
use Rattle.homeo_plan.specs.Planned.{sites_of, planned_at, template_at, policy}
use Rattle.homeo_plan.specs.Treaty.{Treaty, finding}
use Rattle.homeo_history.specs.Key.{definitions}
use Rattle.homeo_history.specs.History.{Entry, Closing, Round}
use Rattle.homeo_history.specs.Merge.{segment_of}

-- what a call's local step prints, in a round that begins with this base
abbrev pub prints_at : s.Workload → List ℤ → CallId → Deltas → List ℤ
unfolding definitions
prints_at w base call x = local_prints (sites_of w) (values_of base) (planned_at w call) x

-- the deltas of its site after it
abbrev pub deltas_after : s.Workload → List ℤ → CallId → Deltas → Deltas
unfolding definitions
deltas_after w base call x = local_deltas (sites_of w) (values_of base) (planned_at w call) x

-- the deltas after the local steps of entries, one after another, from the deltas x
abbrev pub end_of : s.Workload → List ℤ → List Entry → Deltas → Deltas
unfolding definitions
end_of w base entries x = replay (sites_of w) (values_of base) (map (λ e. planned_at w e.call) entries) x

-- the site's treaty, by the policy, holds of its deltas
abbrev pub MeetsTreaty : s.Workload → List ℤ → ℕ → Deltas → Type 0
unfolding definitions
MeetsTreaty w base site x = Treaty (template_at w base) (policy w base) site x

-- from the deltas x the entry has the prints of its local step, and the deltas after it keep the site's treaty
pub record KeepsOne (w : s.Workload) (base : List ℤ) (site : ℕ) (x : Deltas) (e : Entry) : Type 0 where
  pub prints : e.prints ≡ prints_at w base e.call x
  pub keeps : MeetsTreaty w base site (deltas_after w base e.call x)

-- and so each entry of a segment, one after another
abbrev pub KeepsAll : s.Workload → List ℤ → ℕ → Deltas → List Entry → Type 0
unfolding definitions
KeepsAll w base site x [] = Unit {0}
KeepsAll w base site x (e ∷ es) = KeepsOne w base site x e × KeepsAll w base site (deltas_after w base e.call x) es

-- what fails first of the site's treaty there, if anything does
abbrev pub finding_at : s.Workload → List ℤ → ℕ → Deltas → Option Broken
unfolding definitions
finding_at w base site x = finding (template_at w base) (policy w base) site x

-- the deltas that the replay of a site's segment ends with
abbrev pub site_end : s.Workload → Round → ℕ → Deltas
unfolding definitions
site_end w r site = end_of w r.base (segment_of r.segments site) no_deltas

-- from these deltas the closing call breaks its site's treaty, with the finding that stands in it
abbrev pub Breaks : s.Workload → Round → Closing → Type 0
unfolding definitions
Breaks w r c =
    finding_at w r.base c.site (deltas_after w r.base c.entry.call (site_end w r c.site)) ≡ Some c.broken

-- each entry of a round keeps its site's treaty, and the closing call breaks it
pub record IsReplayed (w : s.Workload) (r : Round) : Type 0 where
  pub segments : (site : ℕ) → KeepsAll w r.base site no_deltas (segment_of r.segments site)
  pub closing : IfSome r.closing (Breaks w r)

-- the round's base with the deltas that the replays of all sites end with
abbrev pub fold_of : s.Workload → Round → List ℤ
unfolding definitions
fold_of w r = database_like r.base (folded (sites_of w) (values_of r.base) (site_end w r))
