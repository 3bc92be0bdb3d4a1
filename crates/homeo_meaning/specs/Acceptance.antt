-- Which workloads are accepted.
use Rattle.std.specs.Prelude.{◌≡◌, ◌^◌, ℕ, ℤ, true, List, [], Option}
use Rattle.homeo_syntax.specs.Source as s
use Rattle.homeo_syntax.specs.WellFormed.{IsWellFormed}
use Rattle.homeo_meaning.specs.declared.call.Purpose.TheVariants.{Run}
use Rattle.homeo_meaning.specs.Key.{definitions}
use Rattle.homeo_meaning.specs.Schema.{schema_of}
use Rattle.homeo_meaning.specs.LowWeights.{first_weights, is_light}
use Rattle.homeo_meaning.specs.CallForm.{body_form}
use Rattle.homeo_meaning.specs.Faults.{faults}

-- the largest weight of an expression
abbrev pub weight_limit : ℕ
weight_limit = 10 ^ 18

-- no expression of the L form of a call with this body and these arguments weighs more than the weight_limit
abbrev pub IsLightBody : s.Workload → Option s.Transaction → List ℤ → Type 0
unfolding definitions
IsLightBody w t args = is_light weight_limit (body_form w t args) (first_weights (schema_of w)) ≡ true

-- well formed, and without a fault when it is read to be run
pub record IsAccepted (w : s.Workload) : Type 0 where
  pub well_formed : IsWellFormed w
  pub rules : faults Run w ≡ []
