-- The places of names, and how many objects there are.
use Rattle.std.proofs.Common.{◌≡◌, ℕ, suc, ◌+◌, ◌^◌, ◌<◌, ◌≤◌, ◌==◌, cond, Bool, true, false, List, [], ◌∷◌, map, length, arith}
use Rattle.std.proofs.lemmas.List.{length-map}
use Rattle.homeo_syntax.specs.declared.workload.RangeDecl.{RangeDecl}
use Rattle.homeo_meaning.specs.Key.{definitions}
use Rattle.homeo_meaning.specs.Schema.{Declared, Schema, declared_range}
use Rattle.homeo_meaning.specs.Context.{spot, spot_from}
use Rattle.homeo_meaning.proofs.SoundRelations.{count_grows}
use Rattle.homeo_desugar.specs.SchemaFits.{SchemaFits}

-- ---- a name's place is not past the declarations
spot_least : (k : ℕ) (ds : List Declared) (n : ℕ) → (spot_from k ds n).place ≤ k + length ds
unfolding definitions
spot_least k [] n = omega arith
spot_least k (d ∷ ds) n = by_name (d.name == n) (spot_least (suc k) ds n)
  where
    by_name : (b : Bool) → (spot_from (suc k) ds n).place ≤ suc k + length ds → (cond b (record { place = k; lo = d.lo; hi = d.hi }) (spot_from (suc k) ds n)).place ≤ k + suc (length ds)
    by_name true h = omega arith
    by_name false h = omega arith

place_within : (ds : List Declared) (n : ℕ) → (spot ds n).place ≤ length ds
unfolding definitions
place_within ds n = let h = spot_least 0 ds n in omega arith

pub field_within : (ds : List RangeDecl) (n place : ℕ) → place ≡ (spot (map declared_range ds) n).place → place ≤ length ds
field_within ds n place e =
    let h = place_within (map declared_range ds) n in
    let same : length (map declared_range ds) ≡ length ds = length-map ds declared_range in
    omega arith

pub place_fits : (x : Schema) (n place : ℕ) → SchemaFits x → place ≡ (spot x.objects n).place → place < 2 ^ 32
place_fits x n place few e =
    let h = place_within x.objects n in
    let least = count_grows (length x.objects) x.relations in
    omega arith
