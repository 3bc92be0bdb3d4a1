-- The state where expressions stand at places, and whether they can be evaluated.
use Rattle.std.specs.Prelude.{ℤ, Bool, true, Option, Some, None}
use Rattle.homeo_syntax.specs.Low.{Expr}
use Rattle.homeo_meaning.specs.LowMeaning.{Location, State, value}
use Rattle.homeo_split.specs.CanExec.{run_limit, expr_fits}

-- the value of an expression at s, or n where there is none
abbrev pub value_or : ℤ → Option Expr → State → ℤ
value_or n None s = n
value_or n (Some e) s = value e s

-- the state where these expressions stand, which speak of state s
abbrev pub after : (Location → Option Expr) → State → State
after b s l = value_or (s l) (b l) s

-- an expression, if there is one, can be evaluated at s
abbrev pub fits_if : Option Expr → State → Bool
fits_if None s = true
fits_if (Some e) s = expr_fits run_limit e s
