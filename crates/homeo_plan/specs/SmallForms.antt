-- That the numbers of a row's forms are small.
use Rattle.std.specs.Prelude.{ℕ, ℤ}
use Rattle.homeo_meaning.specs.Small.{IsSmall}
use Rattle.homeo_plan.specs.Each.{Each}
use Rattle.homeo_plan.specs.Table.{Row}
use Rattle.homeo_plan.specs.Linear.{base_forms}
use Rattle.homeo_plan.specs.Atoms.{true_cond}
use Rattle.homeo_plan.specs.FormSizes.{Numbers, CanCond, CanFollow}

-- each constant and factor of a row at a base is at most n in size: of its tests, its atoms and its residual
pub record HasSmallForms (n : ℕ) (base : ℕ → ℤ) (row : Row) : Type 0 where
  pub formula : CanCond (IsSmall n) (base_forms base) row.formula
  pub atoms : Each (Numbers (IsSmall n)) (true_cond base row.formula)
  pub residual : CanFollow (IsSmall n) (base_forms base) row.residual
