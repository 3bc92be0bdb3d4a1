-- A transformed command nests at most two deeper.
use Rattle.std.proofs.Common.{ℕ, zero, suc, ◌+◌, ◌==◌, ◌≤◌, Bool, true, false, cond, arith}
use Rattle.homeo_syntax.specs.declared.low.SplitName.TheVariants as split
use Rattle.homeo_syntax.specs.Low.{Expr, Exprs, Literal, OfTemp, Read, Sum, Product, Neg, NoExpr, MoreExpr, Test, Cond, True, Not, Comparison, NoTest, MoreTest, Command, Commands, Skip, Assign, Write, Print, Seq, If, NoCommand, MoreCommand}
use Rattle.homeo_plan.specs.Key.{definitions as plan_definitions}
use Rattle.homeo_plan.specs.Split.{delta_reads, other_deltas, shift_expr, shift_exprs, shift_test, shift_cond, shift, shift_all}
use Rattle.homeo_certificate.specs.Key.{definitions}
use Rattle.homeo_certificate.specs.Nesting.{expr_nesting, exprs_nesting, test_nesting, cond_nesting, nesting, all_nesting}

module _ (k : ℕ) where
  reads_nest : (x j n : ℕ) → exprs_nesting (delta_reads x j n) ≤ 1
  unfolding definitions plan_definitions
  reads_nest x j zero = omega arith
  reads_nest x j (suc n) = let r = reads_nest x (suc j) n in omega (arith, r)

  others_nest : (i x j n : ℕ) → exprs_nesting (other_deltas i x j n) ≤ 2
  unfolding definitions plan_definitions
  others_nest i x j zero = omega arith
  others_nest i x j (suc n) = go (i == j) (others_nest i x (suc j) n)
    where
      go : (v : Bool) → exprs_nesting (other_deltas i x (suc j) n) ≤ 2 → exprs_nesting (cond v (other_deltas i x (suc j) n) (MoreExpr (Neg (Read (split.Delta x j))) (other_deltas i x (suc j) n))) ≤ 2
      go true r = r
      go false r = omega (arith, r)

  mutual
    unfolding definitions plan_definitions

    expr_shifted : (e : Expr) → expr_nesting (shift_expr k e) ≤ suc (expr_nesting e)
    expr_shifted (Literal n) = omega arith
    expr_shifted (OfTemp t) = omega arith
    expr_shifted (Read (split.Whole x)) = let r = reads_nest x 0 k in omega (arith, r)
    expr_shifted (Read (split.Base x)) = omega arith
    expr_shifted (Read (split.Delta x j)) = omega arith
    expr_shifted (Sum es) = let r = exprs_shifted es in omega (arith, r)
    expr_shifted (Product es) = let r = exprs_shifted es in omega (arith, r)
    expr_shifted (Neg e) = let r = expr_shifted e in omega (arith, r)

    exprs_shifted : (es : Exprs) → exprs_nesting (shift_exprs k es) ≤ suc (exprs_nesting es)
    exprs_shifted NoExpr = omega arith
    exprs_shifted (MoreExpr e es) = let r = expr_shifted e in let s = exprs_shifted es in omega (arith, r, s)

  mutual
    unfolding definitions plan_definitions

    test_shifted : (t : Test) → test_nesting (shift_test k t) ≤ suc (test_nesting t)
    test_shifted True = omega arith
    test_shifted (Not c) = let r = cond_shifted c in omega (arith, r)
    test_shifted (Comparison op a b) = let r = expr_shifted a in let s = expr_shifted b in omega (arith, r, s)

    cond_shifted : (c : Cond) → cond_nesting (shift_cond k c) ≤ suc (cond_nesting c)
    cond_shifted NoTest = omega arith
    cond_shifted (MoreTest t c) = let r = test_shifted t in let s = cond_shifted c in omega (arith, r, s)

  some : (e : Expr) → 1 ≤ expr_nesting e
  unfolding definitions
  some (Literal x) = omega arith
  some (OfTemp t) = omega arith
  some (Read x) = omega arith
  some (Sum es) = omega arith
  some (Product es) = omega arith
  some (Neg e) = omega arith

  mutual
    unfolding definitions plan_definitions

    pub shifted_nests : (i : ℕ) (c : Command) → nesting (shift k i c) ≤ nesting c + 2
    shifted_nests i Skip = omega arith
    shifted_nests i (Assign t e) = let r = expr_shifted e in omega (arith, r)
    shifted_nests i (Write (split.Whole x) e) = let r = expr_shifted e in let s = others_nest i x 0 k in let o = some e in omega (arith, r, s, o)
    shifted_nests i (Write (split.Base x) e) = let r = expr_shifted e in omega (arith, r)
    shifted_nests i (Write (split.Delta x j) e) = let r = expr_shifted e in omega (arith, r)
    shifted_nests i (Print e) = let r = expr_shifted e in omega (arith, r)
    shifted_nests i (Seq cs) = let r = all_shifted i cs in omega (arith, r)
    shifted_nests i (If b c d) = let r = cond_shifted b in let s = shifted_nests i c in let t = shifted_nests i d in omega (arith, r, s, t)

    all_shifted : (i : ℕ) (cs : Commands) → all_nesting (shift_all k i cs) ≤ all_nesting cs + 2
    all_shifted i NoCommand = omega arith
    all_shifted i (MoreCommand c cs) = let r = shifted_nests i c in let s = all_shifted i cs in omega (arith, r, s)
