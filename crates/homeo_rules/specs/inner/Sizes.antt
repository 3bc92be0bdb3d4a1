-- What calls are measured in, and what is told of them.
use Rattle.std.specs.Prelude.{◌≡◌, ◌⊎◌, ◌<◌, ℕ, ◌+◌, min, nat_lt, Bool, true, ◌||◌, List, [], ◌∷◌, Option, Some, None, IsSome, slice_get}
use Rattle.homeo_syntax.specs.Low.{Command}
use Rattle.homeo_syntax.specs.Source as s
use Rattle.homeo_syntax.specs.SourceView.{plain_workload}
use Rattle.homeo_meaning.specs.Schema.{nat_of, schema_of}
use Rattle.homeo_meaning.specs.Declarations.{declarations, place_of}
use Rattle.homeo_meaning.specs.GlobalNames as g
use Rattle.homeo_meaning.specs.GlobalNames.{scope_of}
use Rattle.homeo_meaning.specs.Ground.{Ground, ground_of_sited}
use Rattle.homeo_meaning.specs.CallForm.{call_form, ground_form}
use Rattle.homeo_meaning.specs.LowSizes.{call_extent}
use Rattle.homeo_meaning.specs.NumberRules.{ground_calls}
use Rattle.homeo_meaning.specs.SizeRules.{extent_of}
use Rattle.homeo_meaning.specs.declared.rules.Item.{Item}
use Rattle.homeo_meaning.specs.declared.rules.Item.TheVariants as I
use Rattle.homeo_desugar.specs.SchemaFits.{SchemaFits}
use Rattle.homeo_size.specs.Measured.{IsMeasure}
use Rattle.homeo_size.specs.declared.measures.Measure.{Measure}
use Rattle.homeo_rules.specs.inner.Order.{in_order}
use Rattle.homeo_rules.specs.inner.Scopes.{scope_in}
use Rattle.homeo_ground.specs.Sited.{sited}
use Rattle.homeo_rules.specs.declared.rules.sizes.MeasuredCall.{MeasuredCall}
use Rattle.homeo_rules.specs.declared.rules.bodies.MeasuredBody.{MeasuredBody}
use Rattle.homeo_rules.specs.declared.rules.bodies.Measuring.{Measuring}

abbrev pub workload_of : Measuring → s.Workload
workload_of m = plain_workload m.workload.now

-- the global names, the layout and the number of sites are the workload's, and its objects fit an L form
pub record IsSetUp (m : Measuring) : Type 0 where
  pub scope : scope_in m.scope ≡ scope_of (workload_of m)
  pub layout : m.layout.now ≡ schema_of (workload_of m)
  pub fits : SchemaFits (schema_of (workload_of m))
  pub sites : m.sites ≡ nat_of (workload_of m).sites.value
  pub order : m.in_order ≡ in_order 0 (ground_calls (workload_of m))

-- the number of a transaction, and 0 of anything else
abbrev pub transaction_place : Option Item → ℕ
transaction_place (Some (I.Transaction k)) = k
transaction_place _ = 0

-- the call names a transaction
pub record IsNamed (w : s.Workload) (c : g.SitedCall) : Type 0 where
  pub place : transaction_place ((scope_of w).item c.name.name) ≡ place_of (declarations w).transactions c.name.name
  pub there : IsSome (slice_get w.transactions (place_of (declarations w).transactions c.name.name))
  pub form : call_form w c ≡ ground_form w (ground_of_sited w c)

abbrev pub call_of : MeasuredCall → g.SitedCall
call_of m = sited m.call

abbrev pub ground_of_call : s.Workload → MeasuredCall → Ground
ground_of_call w m = ground_of_sited w (call_of m)

-- the size of a call
abbrev pub told_size : s.Workload → g.SitedCall → ℕ
told_size w c = (extent_of w c).size

-- an L form is measured, or larger than a call may be, where the calls stand in the order of the text
abbrev pub IsMeasuredAs : s.Workload → Command → Option MeasuredBody → Type 0
IsMeasuredAs w form (Some m) = IsMeasure (schema_of w) (nat_of w.sites.value) form m.measure
IsMeasuredAs w form None = (in_order 0 (ground_calls w) ≡ true) × (200000 < (call_extent (nat_of w.sites.value) form).size)

-- so is a call, or it is too large with those before it, whose sizes are so large together
abbrev pub IsToldAfter : s.Workload → ℕ → g.SitedCall → Option MeasuredBody → Type 0
IsToldAfter w before c (Some m) = IsMeasuredAs w (call_form w c) (Some m)
IsToldAfter w before c None = (2000000 < before + told_size w c) ⊎ IsMeasuredAs w (call_form w c) None

-- the same, where those before it are only told as large as calls may be together
abbrev pub IsTold : s.Workload → ℕ → g.SitedCall → Option MeasuredBody → Type 0
IsTold w total c o = (before : ℕ) → min 2000001 total ≡ min 2000001 before → IsToldAfter w before c o

-- each call is told after those before it, up to the first that has no measure
abbrev pub AreTold : s.Workload → ℕ → List MeasuredCall → Type 0
AreTold w before [] = Unit {0}
AreTold w before (m ∷ ms) = IsToldAfter w before (call_of m) m.body × (IsSome m.body → AreTold w (before + told_size w (call_of m)) ms)

-- where no measure is
abbrev pub known : Option MeasuredBody → Measure
known (Some m) = m.measure
known None = record { size = 8000001; depth = 8000001; weight = 1000000000000000001; rows = 8000001 }

-- each call has a measure
abbrev pub AreKnown : List MeasuredCall → Type 0
AreKnown [] = Unit {0}
AreKnown (m ∷ ms) = IsSome m.body × AreKnown ms

-- and it is that of its L form
abbrev pub AreMeasured : s.Workload → List MeasuredCall → Type 0
AreMeasured w [] = Unit {0}
AreMeasured w (m ∷ ms) = IsMeasure (schema_of w) (nat_of w.sites.value) (call_form w (call_of m)) (known m.body) × AreMeasured w ms

-- too large or too deep, or too large with those so far
abbrev pub is_too_large : Measure → ℕ → Bool
is_too_large m total = nat_lt 200000 m.size || nat_lt 1000 m.depth || nat_lt 2000000 total
