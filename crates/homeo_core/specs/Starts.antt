-- The starts of sites in the round after one.
use Rattle.std.specs.Prelude.{◌≡◌, ℕ, suc, ℤ, Bool, true, false, List, Option, Some, None, slice_get}
use Rattle.homeo_syntax.specs.declared.workload.Workload.{Workload}
use Rattle.homeo_site.specs.SiteView.{StartValue}
use Rattle.homeo_core.specs.Key.{definitions}

-- the start of a site of this number, on this base
abbrev pub start_after : Workload → ℕ → List ℤ → ℕ → StartValue
unfolding definitions
start_after w round next number = record { work = w; number = number; round = suc round; base = next }

-- each start that is there is that of its site
abbrev pub AreStarts : Workload → ℕ → List ℤ → List (Option StartValue) → Type 0
unfolding definitions
AreStarts w round next starts = (i : ℕ) (s : StartValue) → slice_get starts i ≡ Some (Some s) → s ≡ start_after w round next i

-- the start is there
abbrev pub waits : Option StartValue → Bool
unfolding definitions
waits None = false
waits (Some s) = true
