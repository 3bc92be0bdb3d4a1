-- Numbers told up to a cap: sizes, depths and rows to one, weights to another.
use Rattle.std.specs.Prelude.{ℕ, min}

abbrev pub cap : ℕ → ℕ
cap n = min 8000001 n

abbrev pub weight_cap : ℕ → ℕ
weight_cap n = min 1000000000000000001 n
