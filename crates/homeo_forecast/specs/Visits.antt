-- Calls one after another, each replayed at its own site on a base that stays (Roy et al., SIGMOD 2015).
use Rattle.std.specs.Prelude.{ℕ, List, [], ◌∷◌, ℤ}
use Rattle.homeo_syntax.specs.Source as s
use Rattle.homeo_meaning.specs.declared.call.CallId.{CallId}
use Rattle.homeo_meaning.specs.Serial.{values_of}
use Rattle.homeo_plan.specs.Key.{definitions}
use Rattle.homeo_plan.specs.Joined.{Deltas, with_site}
use Rattle.homeo_plan.specs.Local.{local_deltas, no_deltas}
use Rattle.homeo_plan.specs.Planned.{sites_of, planned_at}

-- the site of a call, and its deltas after the call
pub record Visit : Type 0 where
  pub site : ℕ
  pub deltas : Deltas

-- the visit of a call, where the sites have these deltas
abbrev pub visit : s.Workload → List ℤ → (ℕ → Deltas) → CallId → Visit
unfolding definitions
visit w base d call =
    let g = planned_at w call in
    record { site = g.site; deltas = local_deltas (sites_of w) (values_of base) g (d g.site) }

-- the deltas of all sites after a visit, and after several
abbrev pub after : (ℕ → Deltas) → Visit → ℕ → Deltas
unfolding definitions
after d v = with_site d v.site v.deltas

abbrev pub after_all : (ℕ → Deltas) → List Visit → ℕ → Deltas
unfolding definitions
after_all d [] = d
after_all d (v ∷ vs) = after_all (after d v) vs

-- the visits of calls, one after another
abbrev pub visits_from : s.Workload → List ℤ → (ℕ → Deltas) → List CallId → List Visit
unfolding definitions
visits_from w base d [] = []
visits_from w base d (call ∷ calls) =
    visit w base d call ∷ visits_from w base (after d (visit w base d call)) calls

-- from a base without deltas
abbrev pub visits : s.Workload → List ℤ → List CallId → List Visit
unfolding definitions
visits w base calls = visits_from w base (λ i. no_deltas) calls

-- the visit of one call more, behind these calls
abbrev pub next_visit : s.Workload → List ℤ → List CallId → CallId → Visit
unfolding definitions
next_visit w base calls call = visit w base (after_all (λ i. no_deltas) (visits w base calls)) call
