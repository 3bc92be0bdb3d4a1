-- Objects that are frozen at some sites.
use Rattle.std.specs.Prelude.{ℕ, zero, suc, ◌==◌, Bool, true, false, not, if◌then◌else◌, List, [], ◌∷◌, ◌++◌, slice_index_or}
use Rattle.std.specs.List.{list_any}
use Rattle.homeo_plan.specs.declared.forms.Delta.{Delta}
use Rattle.homeo_build.specs.declared.frozen.Frozen.{Frozen}
use Rattle.homeo_build.specs.declared.frozen.Frozen.TheVariants.{Nowhere, Elsewhere, Everywhere}
use Rattle.homeo_build.specs.declared.frozen.FrozenObjects.{FrozenObjects}

-- whether it is frozen at site j
abbrev pub frozen_at : Frozen → ℕ → Bool
frozen_at Nowhere j = false
frozen_at (Elsewhere i) j = not (j == i)
frozen_at Everywhere j = true

-- how object x is frozen
abbrev pub object_frozen : FrozenObjects → ℕ → Frozen
object_frozen f x = slice_index_or f.objects.items x Nowhere

-- whether object x is frozen at site j
abbrev pub is_frozen_in : FrozenObjects → ℕ → ℕ → Bool
is_frozen_in f x j = frozen_at (object_frozen f x) j

-- object x is that of one of these deltas
abbrev pub names_object : ℕ → List Delta → Bool
names_object x ds = list_any (λ d. x == d.object) ds

-- the deltas of object x that are frozen at n sites from j on
abbrev pub frozen_sites : ℕ → ℕ → ℕ → Frozen → List Delta
frozen_sites j zero x f = []
frozen_sites j (suc n) x f =
    if frozen_at f j then record { object = x; site = j } ∷ frozen_sites (suc j) n x f else frozen_sites (suc j) n x f

-- the deltas of objects from x on that are frozen at k sites
abbrev pub frozen_from : ℕ → ℕ → List Frozen → List Delta
frozen_from k x [] = []
frozen_from k x (f ∷ fs) = frozen_sites 0 k x f ++ frozen_from k (suc x) fs
