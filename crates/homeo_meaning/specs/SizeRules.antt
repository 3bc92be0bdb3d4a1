-- The rules of how large calls are, how much they print, and how large their values may get.
use Rattle.std.specs.Prelude.{ℕ, Bool, true, false, ◌+◌, ◌*◌, ◌||◌, not, nat_lt, List}
use Rattle.std.specs.List.{flat_map, sum_by}
use Rattle.homeo_syntax.specs.Source as s
use Rattle.homeo_meaning.specs.Key.{definitions}
use Rattle.homeo_meaning.specs.Schema.{nat_of, schema_of}
use Rattle.homeo_meaning.specs.CallForm.{call_form}
use Rattle.homeo_meaning.specs.LowSizes.{Extent, call_extent, rows, prints_in}
use Rattle.homeo_meaning.specs.LowWeights.{first_weights, is_light}
use Rattle.homeo_meaning.specs.NameRules.{when, fault}
use Rattle.homeo_meaning.specs.TransactionRules.{each}
use Rattle.homeo_meaning.specs.GlobalNames.{SitedCall, sited_calls}
use Rattle.homeo_meaning.specs.NumberRules.{ground_calls}
use Rattle.homeo_meaning.specs.declared.call.Purpose.{Purpose}
use Rattle.homeo_meaning.specs.declared.call.Purpose.TheVariants.{Tables}
use Rattle.homeo_meaning.specs.declared.rules.Fault.{Fault}
use Rattle.homeo_meaning.specs.declared.rules.Phase.TheVariants.{Size, Weight, Rows}

-- the size and the depth of a call
abbrev pub extent_of : s.Workload → SitedCall → Extent
unfolding definitions
extent_of w c = call_extent (nat_of w.sites.value) (call_form w c)

-- ---- sizes
-- a ground call is too large or too deep, or with those so far too large
abbrev pub too_large : (SitedCall → Extent) → List SitedCall → SitedCall → List Fault
unfolding definitions
too_large extent before c =
    when (nat_lt 200000 (extent c).size || nat_lt 1000 (extent c).depth || nat_lt 2000000 (sum_by (λ d. (extent d).size) before + (extent c).size))
    (fault Size c.name)

abbrev pub size_faults : s.Workload → List Fault
unfolding definitions
size_faults w = each (too_large (extent_of w)) (ground_calls w)

-- ---- prints
-- the print commands of the calls so far, with this one, are too many
abbrev pub prints_too_much : (SitedCall → ℕ) → List SitedCall → SitedCall → List Fault
unfolding definitions
prints_too_much prints before c = when (nat_lt 1000000 (sum_by prints before + prints c)) (fault Size c.name)

abbrev pub print_faults : s.Workload → List Fault
unfolding definitions
print_faults w = each (prints_too_much (λ c. prints_in (call_form w c))) (sited_calls w)

-- ---- weights
abbrev pub heaviest : ℕ
heaviest = 1000000000000000000

-- an expression of a ground call weighs more than 10^18
abbrev pub heavy_call : s.Workload → SitedCall → List Fault
unfolding definitions
heavy_call w c = when (not (is_light heaviest (call_form w c) (first_weights (schema_of w)))) (fault Weight c.name)

abbrev pub weight_faults : s.Workload → List Fault
unfolding definitions
weight_faults w = flat_map (heavy_call w) (ground_calls w)

-- ---- rows
-- the rows of a ground call's symbolic table, times its size
abbrev pub table_size : s.Workload → SitedCall → ℕ
unfolding definitions
table_size w c = rows (call_form w c) * (extent_of w c).size

-- a ground call's table has too many rows, or the tables so far are too large together
abbrev pub too_many_rows : s.Workload → List SitedCall → SitedCall → List Fault
unfolding definitions
too_many_rows w before c =
    when (nat_lt 4096 (rows (call_form w c)) || nat_lt 8000000 (sum_by (table_size w) before + table_size w c)) (fault Rows c.name)

-- symbolic tables are made of the calls; for any other purpose a row of each is walked
abbrev pub makes_tables : Purpose → Bool
makes_tables Tables = true
makes_tables _ = false

abbrev pub row_faults : Purpose → s.Workload → List Fault
unfolding definitions
row_faults purpose w = when (makes_tables purpose) (each (too_many_rows w) (ground_calls w))
