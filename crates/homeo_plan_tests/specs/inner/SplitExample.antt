-- Two small commands and a small split database, which tests take.
use Rattle.std.specs.Prelude.{◌≡◌, ℤ, pos, negsuc, List, [], ◌∷◌, map}
use Rattle.homeo_syntax.specs.declared.low.SplitName.TheVariants.{Whole, Base, Delta}
use Rattle.homeo_syntax.specs.Low.{Expr, Literal, Read, Command, Write, Print, Seq, NoCommand, MoreCommand}
use Rattle.homeo_split.specs.declared.split.Split.{Split}
use Rattle.homeo_plan_tests.specs.inner.Object.{pair_of, sum_of, object_sum}

abbrev pub next : Expr
next = pair_of (Read (Whole 0)) (Literal (pos 1))

-- `x := x + 1; print x`
abbrev pub raise : Command
raise = Seq (MoreCommand (Write (Whole 0) next) (MoreCommand (Print (Read (Whole 0))) NoCommand))

-- `x@0 := x@0 + 1 + base(x); print base(x) + x@0 + x@1`
abbrev pub raise_own : Command
raise_own = Seq (MoreCommand (Write (Delta 0 0) (sum_of (Read (Delta 0 0)) (Literal (pos 1)) (Read (Base 0)))) (MoreCommand (Print object_sum) NoCommand))

abbrev pub base : List ℤ
base = pos 5 ∷ pos 7 ∷ []

abbrev pub deltas : List (List ℤ)
deltas = (pos 2 ∷ negsuc 0 ∷ []) ∷ (pos 3 ∷ pos 4 ∷ []) ∷ []

-- two objects at two sites
pub record IsStart (s : Split) : Type 0 where
  pub base : s.base.items ≡ base
  pub deltas : map (λ d. d.items) s.deltas.items ≡ deltas
