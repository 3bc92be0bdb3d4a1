-- States that a site meets as it runs by itself: the base stays, and the deltas of other sites are 0.
use Rattle.std.specs.Prelude.{◌≡◌, ℕ, ◌==◌, true, false, ℤ, pos, neg_ℤ}
use Rattle.homeo_syntax.specs.Low.{Expr, Exprs, Command}
use Rattle.homeo_meaning.specs.LowMeaning.{BaseAt, DeltaAt, State, value}
use Rattle.homeo_meaning.specs.Small.{is_small}
use Rattle.homeo_split.specs.CanExec.{run_limit, expr_fits, sum_fits, product_fits, can_exec}

pub record IsAlone (b : ℕ → ℤ) (i : ℕ) (s : State) : Type 0 where
  pub bases : (x : ℕ) → s (BaseAt x) ≡ b x
  pub others : (x j : ℕ) → (j == i) ≡ false → s (DeltaAt x j) ≡ pos 0

-- in some state of the site the numbers of the phrase are small
abbrev pub Fits : (ℕ → ℤ) → ℕ → Expr → Type 0
Fits b i e = (s : State) × IsAlone b i s × (expr_fits run_limit e s ≡ true)

-- in some state n and the terms add up to small numbers
abbrev pub SumFits : ℤ → Exprs → Type 0
SumFits n es = (s : State) × (sum_fits run_limit n es s ≡ true)

-- in some state n and the factors multiply to small numbers
abbrev pub ProductFits : ℤ → Exprs → Type 0
ProductFits n es = (s : State) × (product_fits run_limit n es s ≡ true)

-- in some state the negation is a small number
abbrev pub NegationFits : Expr → Type 0
NegationFits e = (s : State) × (is_small run_limit (neg_ℤ (value e s)) ≡ true)

-- in some state of the site the numbers of the command are small
abbrev pub CommandFits : (ℕ → ℤ) → ℕ → Command → Type 0
CommandFits b i c = (s : State) × IsAlone b i s × (can_exec run_limit c s ≡ true)
