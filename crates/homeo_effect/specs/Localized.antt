-- What a residual does at its own site on a base that stays, as commands: what it reads of the base is a number, and what it
-- reads of other sites' deltas is 0. Inner phrases come first; a negation of a literal is a literal, and so is a sum or a
-- product of literals alone (this project's rule).
use Rattle.std.specs.Prelude.{ℕ, ◌==◌, cond, ℤ, pos, ◌+ℤ◌, ◌*ℤ◌, neg_ℤ, Option, Some, None}
use Rattle.homeo_syntax.specs.declared.low.SplitName.{SplitName}
use Rattle.homeo_syntax.specs.declared.low.SplitName.TheVariants.{Whole, Base, Delta}
use Rattle.homeo_syntax.specs.Low.{Expr, Exprs, Literal, OfTemp, Read, Sum, Product, Neg, NoExpr, MoreExpr, Command, Commands, Assign, Write, Print, NoCommand, MoreCommand}
use Rattle.homeo_effect.specs.Key.{definitions}

-- n and the terms added up, where each is a literal
abbrev pub literal_sum : ℤ → Exprs → Option ℤ
unfolding definitions
literal_sum n NoExpr = Some n
literal_sum n (MoreExpr (Literal m) es) = literal_sum (n +ℤ m) es
literal_sum n (MoreExpr e es) = None

-- n and the factors multiplied, where each is a literal
abbrev pub literal_product : ℤ → Exprs → Option ℤ
unfolding definitions
literal_product n NoExpr = Some n
literal_product n (MoreExpr (Literal m) es) = literal_product (n *ℤ m) es
literal_product n (MoreExpr e es) = None

-- the number as a literal, or the phrase where there is none
abbrev pub literal_or : Option ℤ → Expr → Expr
unfolding definitions
literal_or None e = e
literal_or (Some n) e = Literal n

-- the sum of terms
abbrev pub summed : Exprs → Expr
unfolding definitions
summed es = literal_or (literal_sum (pos 0) es) (Sum es)

-- the product of factors
abbrev pub multiplied : Exprs → Expr
unfolding definitions
multiplied es = literal_or (literal_product (pos 1) es) (Product es)

-- the negation of a phrase
abbrev pub negated : Expr → Expr
unfolding definitions
negated (Literal n) = Literal (neg_ℤ n)
negated e = Neg e

-- what a name stands for at site i on the base b: an own delta is read
abbrev pub local_read : (ℕ → ℤ) → ℕ → SplitName → Expr
unfolding definitions
local_read b i (Whole x) = Literal (b x)
local_read b i (Base x) = Literal (b x)
local_read b i (Delta x j) = cond (j == i) (Read (Delta x j)) (Literal (pos 0))

abbrev mutual
  unfolding definitions

  pub local_expr : (ℕ → ℤ) → ℕ → Expr → Expr
  local_expr b i (Literal n) = Literal n
  local_expr b i (OfTemp t) = OfTemp t
  local_expr b i (Read x) = local_read b i x
  local_expr b i (Sum es) = summed (local_exprs b i es)
  local_expr b i (Product es) = multiplied (local_exprs b i es)
  local_expr b i (Neg e) = negated (local_expr b i e)

  pub local_exprs : (ℕ → ℤ) → ℕ → Exprs → Exprs
  local_exprs b i NoExpr = NoExpr
  local_exprs b i (MoreExpr e es) = MoreExpr (local_expr b i e) (local_exprs b i es)

-- what is no assignment, write or print stays
abbrev pub local_command : (ℕ → ℤ) → ℕ → Command → Command
unfolding definitions
local_command b i (Assign t e) = Assign t (local_expr b i e)
local_command b i (Write x e) = Write x (local_expr b i e)
local_command b i (Print e) = Print (local_expr b i e)
local_command b i c = c

-- the commands of site i on the base b, in their order
abbrev pub localized : (ℕ → ℤ) → ℕ → Commands → Commands
unfolding definitions
localized b i NoCommand = NoCommand
localized b i (MoreCommand c cs) = MoreCommand (local_command b i c) (localized b i cs)
