-- Phrases that are literals.
use Rattle.std.specs.Prelude.{ℤ, Option, Some, None}
use Rattle.homeo_syntax.specs.Low.{Expr, Literal}
use Rattle.homeo_effect.specs.Key.{definitions}

-- the number of a literal
abbrev pub literal_of : Expr → Option ℤ
unfolding definitions
literal_of (Literal n) = Some n
literal_of e = None
