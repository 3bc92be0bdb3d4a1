-- Tests of whether a value is within bounds.
use Rattle.std.specs.Prelude.{◌≡◌, ◌≤ℤ◌, ℤ}
use Rattle.homeo_syntax.specs.declared.phrase.Compare.TheVariants.{LessEqual}
use Rattle.homeo_syntax.specs.Low.{Expr, Literal, Test, Comparison}

-- both are numbers, and the first is at most the second
pub record AreInOrder (a b : Expr) : Type 0 where
  pub low : ℤ
  pub high : ℤ
  pub first : a ≡ Literal low
  pub second : b ≡ Literal high
  pub order : low ≤ℤ high

-- one test is that the value is at least a number, and the other that it is at most another, which isn't less
pub record AreBounds (above below : Test) : Type 0 where
  pub low : ℤ
  pub high : ℤ
  pub value : Expr
  pub first : above ≡ Comparison LessEqual (Literal low) value
  pub second : below ≡ Comparison LessEqual value (Literal high)
  pub order : low ≤ℤ high
