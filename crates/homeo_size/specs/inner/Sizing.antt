-- The extents of phrases in one pass, where the names have these extents.
use Rattle.homeo_syntax.specs.Low.{Expr, Exprs, Literal, OfTemp, Read, Sum, Product, Neg, NoExpr, MoreExpr, Test, Cond, True, Not, Comparison, NoTest, MoreTest}
use Rattle.homeo_meaning.specs.LowMeaning.{Location, TempAt, location_of}
use Rattle.homeo_size.specs.inner.Key.{definitions}
use Rattle.homeo_size.specs.inner.Parts.{literal, nothing, no_factor, beside, plus, times, around, summed, compared, truth}
use Rattle.homeo_size.specs.declared.extent.Extent.{Extent}

-- the extents of all names
abbrev pub Sizes : Type 0
Sizes = Location → Extent

abbrev mutual
  unfolding definitions

  pub sized : Expr → Sizes → Extent
  sized (Literal n) v = literal n
  sized (OfTemp t) v = v (TempAt t)
  sized (Read x) v = v (location_of x)
  sized (Sum es) v = summed (sum_sized es v nothing)
  sized (Product es) v = around (product_sized es v no_factor)
  sized (Neg e) v = around (sized e v)

  -- after the terms before them
  pub sum_sized : Exprs → Sizes → Extent → Extent
  sum_sized NoExpr v a = a
  sum_sized (MoreExpr e es) v a = sum_sized es v (plus a (sized e v))

  pub product_sized : Exprs → Sizes → Extent → Extent
  product_sized NoExpr v a = a
  product_sized (MoreExpr e es) v a = product_sized es v (times a (sized e v))

abbrev mutual
  unfolding definitions

  pub test_sized : Test → Sizes → Extent
  test_sized True v = truth
  test_sized (Not c) v = around (around (tests_sized c v nothing))
  test_sized (Comparison op a b) v = compared (sized a v) (sized b v)

  -- after the tests before them
  pub tests_sized : Cond → Sizes → Extent → Extent
  tests_sized NoTest v a = a
  tests_sized (MoreTest t c) v a = tests_sized c v (beside a (test_sized t v))

abbrev pub cond_sized : Cond → Sizes → Extent
unfolding definitions
cond_sized c v = around (tests_sized c v nothing)
