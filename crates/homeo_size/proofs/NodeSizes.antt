-- An L form has no more nodes than its size tells.
use Rattle.std.proofs.Common.{ℕ, ◌≤◌, Bool, true, false, cond, arith}
use Rattle.std.proofs.Math.Nat.{add-le-add}
use Rattle.std.proofs.lemmas.Int.{clamps}
use Rattle.homeo_syntax.specs.Low.{Expr, Exprs, Literal, OfTemp, Read, Sum, Product, Neg, NoExpr, MoreExpr, Test, Cond, True, Not, Comparison, NoTest, MoreTest, Command, Commands, Skip, Assign, Write, Print, Seq, If, NoCommand, MoreCommand}
use Rattle.homeo_meaning.specs.Key.{definitions as meaning_definitions}
use Rattle.homeo_meaning.specs.LowMeaning.{Location, TempAt, BaseAt, DeltaAt, location_of, put, same_location}
use Rattle.homeo_meaning.specs.LowSizes.{Extent, extent, extent_all, test_extent, tests_extent, after, after_all, command_extent, commands_extent, first_extents, written}
use Rattle.homeo_size.proofs.NodeLaw.{of_expr, of_exprs, of_test, of_tests, of_command, of_commands}

-- no name is smaller than 1
abbrev Least : (Location → Extent) → Type 0
Least v = (p : Location) → 1 ≤ (v p).size

mutual
  unfolding meaning_definitions

  expr_size : (e : Expr) (v : Location → Extent) → Least v → of_expr e ≤ (extent e v).size
  expr_size (Literal n) v h = omega arith
  expr_size (OfTemp t) v h = h (TempAt t)
  expr_size (Read x) v h = h (location_of x)
  expr_size (Sum es) v h = let k = exprs_size es v h in omega (arith, k)
  expr_size (Product es) v h = let k = exprs_size es v h in omega (arith, k)
  expr_size (Neg e) v h = let k = expr_size e v h in omega (arith, k)

  exprs_size : (es : Exprs) (v : Location → Extent) → Least v → of_exprs es ≤ (extent_all es v).size
  exprs_size NoExpr v h = omega arith
  exprs_size (MoreExpr e es) v h = add-le-add (expr_size e v h) (exprs_size es v h)

some_expr : (e : Expr) → 1 ≤ of_expr e
some_expr (Literal n) = omega arith
some_expr (OfTemp t) = omega arith
some_expr (Read x) = omega arith
some_expr (Sum es) = omega arith
some_expr (Product es) = omega arith
some_expr (Neg e) = omega arith

mutual
  unfolding meaning_definitions

  test_size : (t : Test) (v : Location → Extent) → Least v → of_test t ≤ (test_extent t v).size
  test_size True v h = omega arith
  test_size (Not c) v h = let k = tests_size c v h in omega (arith, k)
  test_size (Comparison op a b) v h =
      let k = expr_size a v h in
      let l = expr_size b v h in
      omega (arith, k, l)

  tests_size : (c : Cond) (v : Location → Extent) → Least v → of_tests c ≤ (tests_extent c v).size
  tests_size NoTest v h = omega arith
  tests_size (MoreTest t c) v h = add-le-add (test_size t v h) (tests_size c v h)

put_least : (v : Location → Extent) (p : Location) (e : Extent) → Least v → 1 ≤ e.size → Least (put v p e)
unfolding meaning_definitions
put_least v p e h k q = go (same_location p q)
  where
    go : (b : Bool) → 1 ≤ (cond b e (v q)).size
    go true = k
    go false = h q

module _ (sites : ℕ) where
  mutual
    unfolding meaning_definitions

    after_least : (c : Command) (v : Location → Extent) → Least v → Least (after sites c v)
    after_least Skip v h = h
    after_least (Assign t e) v h =
        let k = expr_size e v h in
        let s = some_expr e in
        put_least v (TempAt t) (extent e v) h (omega (arith, k, s))
    after_least (Write x e) v h =
        let k = expr_size e v h in
        let s = some_expr e in
        put_least v (location_of x) (written sites (extent e v)) h (omega (arith, k, s))
    after_least (Print e) v h = h
    after_least (Seq cs) v h = all_least cs v h
    after_least (If b c d) v h = λ p. let k = after_least c v h p in omega (arith, clamps, k)

    all_least : (cs : Commands) (v : Location → Extent) → Least v → Least (after_all sites cs v)
    all_least NoCommand v h = h
    all_least (MoreCommand c cs) v h = all_least cs (after sites c v) (after_least c v h)

  mutual
    unfolding meaning_definitions

    pub command_size : (c : Command) (v : Location → Extent) → Least v → of_command c ≤ (command_extent sites c v).size
    command_size Skip v h = omega arith
    command_size (Assign t e) v h = let k = expr_size e v h in omega (arith, k)
    command_size (Write x e) v h = let k = expr_size e v h in omega (arith, k)
    command_size (Print e) v h = let k = expr_size e v h in omega (arith, k)
    command_size (Seq cs) v h = let k = commands_size cs v h in omega (arith, k)
    command_size (If b c d) v h =
        let j = tests_size b v h in
        let k = command_size c v h in
        let l = command_size d v h in
        omega (arith, j, k, l)

    commands_size : (cs : Commands) (v : Location → Extent) → Least v → of_commands cs ≤ (commands_extent sites cs v).size
    commands_size NoCommand v h = omega arith
    commands_size (MoreCommand c cs) v h =
        let k = command_size c v h in
        let l = commands_size cs (after sites c v) (after_least c v h) in
        omega (arith, k, l)

  pub first_least : Least (first_extents sites)
  unfolding meaning_definitions
  first_least (TempAt t) = omega arith
  first_least (BaseAt x) = omega arith
  first_least (DeltaAt x j) = omega arith
