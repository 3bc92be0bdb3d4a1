-- Soundness of a certificate (Roy et al., SIGMOD 2015): where all treaties hold, each site runs its calls alone as if it had
-- the deltas of all sites.
use Rattle.std.specs.Prelude.{◌≡◌, ℕ, ◌<◌, ℤ}
use Rattle.homeo_meaning.specs.LowMeaning.{Location, DeltaAt, exec, whole}
use Rattle.homeo_plan.specs.Each.{Each}
use Rattle.homeo_plan.specs.Split.{IsKept}
use Rattle.homeo_plan.specs.Joined.{Deltas, join, alone}
use Rattle.homeo_plan.specs.Treaty.{Treaty}
use Rattle.homeo_certificate.specs.Certificate.{Call, Certificate, template_of, base_of}
use Rattle.homeo_certificate.specs.Branches.{branches}

-- with the deltas of all k sites a call takes the branches that it takes where all deltas are 0, prints what it prints with
-- its own site's deltas alone, leaves the same deltas of its site, and changes no base and no other delta
pub record RunsAlone (k : ℕ) (b : ℕ → ℤ) (d : ℕ → Deltas) (g : Call) : Type 0 where
  pub branches : branches g.command (join k b d) ≡ branches g.command (whole b)
  pub prints : (exec g.command (join k b d)).prints ≡ (exec g.command (alone b g.site (d g.site))).prints
  pub own :
      (x : ℕ) →
      (exec g.command (join k b d)).state (DeltaAt x g.site) ≡ (exec g.command (alone b g.site (d g.site))).state (DeltaAt x g.site)
  pub kept : (p : Location) → IsKept g.site p → (exec g.command (join k b d)).state p ≡ join k b d p

-- so does each call of a certificate, whatever deltas keep the treaties of all sites
abbrev pub IsSound : Certificate → Type 0
IsSound c =
    (d : ℕ → Deltas) → ((i : ℕ) → i < c.sites → Treaty (template_of c) c.bounds i (d i)) →
    Each (RunsAlone c.sites (base_of c) d) c.calls
