-- A transformed command is in shape where its names are there, its expressions light, and it is not too large.
use Rattle.std.proofs.Common.{◌≡◌, ℕ, zero, suc, ◌<◌, ◌≤◌, ◌+◌, ◌*◌, ◌^◌, ◌==◌, Bool, true, false, cond, pos, refl, ap, arith}
use Rattle.std.proofs.lemmas.Nat.{mul-le}
use Rattle.std.proofs.lemmas.Bool.{and_parts}
use Rattle.std.proofs.lemmas.Bool.Decides.{nat_tests}
use Rattle.homeo_lemmas.proofs.Naturals.{factor_le}
use Rattle.homeo_syntax.specs.declared.low.Temp.{Temp}
use Rattle.homeo_syntax.specs.declared.low.Temp.TheVariants as temp
use Rattle.homeo_syntax.specs.declared.low.SplitName.TheVariants as split
use Rattle.homeo_syntax.specs.Low.{Expr, Exprs, Literal, OfTemp, Read, Sum, Product, Neg, NoExpr, MoreExpr, Test, Cond, True, Not, Comparison, NoTest, MoreTest, Command, Commands, Skip, Assign, Write, Print, Seq, If, NoCommand, MoreCommand}
use Rattle.homeo_meaning.specs.Key.{definitions as meaning_definitions}
use Rattle.homeo_meaning.specs.LowMeaning.{Location, TempAt, location_of, same_location, put}
use Rattle.homeo_meaning.specs.LowWeights.{weight, sum_weight, product_weight, is_light_expr, is_light_test, is_light_cond, is_light, are_light}
use Rattle.homeo_meaning.specs.LowWeights as weigh
use Rattle.homeo_meaning.specs.LowSizes.{Extent, extent, extent_all, test_extent, tests_extent, command_extent, commands_extent}
use Rattle.homeo_meaning.specs.LowSizes as sizes
use Rattle.homeo_meaning.specs.Everywhere.{EverywhereInExpr, EverywhereInExprs, EverywhereInTest, EverywhereInCond, Everywhere, EverywhereInAll}
use Rattle.homeo_meaning.specs.NamesWithin.{TempWithin, NamesWithin}
use Rattle.homeo_meaning.specs.Whole.{IsWholeName}
use Rattle.homeo_meaning.proofs.Parts.{ExprWithin, ExprsWithin, TestWithin, CondWithin, AllNamesWithin}
use Rattle.homeo_lform.proofs.Weights.{one_weight, one_product}
use Rattle.homeo_plan.specs.Key.{definitions as plan_definitions}
use Rattle.homeo_plan.specs.Split.{delta_reads, other_deltas, shift_expr, shift_exprs, shift_test, shift_cond, shift, shift_all}
use Rattle.homeo_plan.proofs.Followed.{put_ones}
use Rattle.homeo_certificate.specs.Key.{definitions}
use Rattle.homeo_certificate.specs.Nodes.{expr_count, test_count, command_count}
use Rattle.homeo_certificate.specs.Shape.{IsCount, ExprInShape, ExprsInShape, TestInShape, CondInShape, CommandInShape, CommandsInShape}
use Rattle.homeo_certified.proofs.CertificatesInShape.{word_if}

abbrev most : ℕ
most = 1000000000000000000

-- a temporary that a certificate has room for: any name, and a fresh one below 2^32
abbrev pub TempIn : Temp → Type 0
TempIn (temp.Named t) = Unit {0}
TempIn (temp.Fresh m) = m < 2 ^ 32

-- whole objects, and such temporaries alone
abbrev pub WholeIn : Command → Type 0
WholeIn = Everywhere IsWholeName TempIn

abbrev WholeInAll : Commands → Type 0
WholeInAll = EverywhereInAll IsWholeName TempIn

abbrev WholeExpr : Expr → Type 0
WholeExpr = EverywhereInExpr IsWholeName TempIn

abbrev WholeExprs : Exprs → Type 0
WholeExprs = EverywhereInExprs IsWholeName TempIn

abbrev WholeTest : Test → Type 0
WholeTest = EverywhereInTest IsWholeName TempIn

abbrev WholeCond : Cond → Type 0
WholeCond = EverywhereInCond IsWholeName TempIn

other_le : (a k : ℕ) → 1 ≤ k → a ≤ k * a
other_le a k p = omega (arith, mul-le 1 a k a p (omega arith))

-- ---- weights and sizes of what stands are at least 1
module _ (w : Location → ℕ) (ones : (p : Location) → 1 ≤ w p) where
  -- each of them is light
  abbrev EachLight : Exprs → Type 0
  unfolding definitions
  EachLight NoExpr = Unit {0}
  EachLight (MoreExpr e es) = (weight e w ≤ most) × EachLight es

  sum_each : (es : Exprs) → sum_weight es w ≤ most → EachLight es
  unfolding definitions meaning_definitions
  sum_each NoExpr h = tt
  sum_each (MoreExpr e es) h = (omega (arith, h), sum_each es (omega (arith, h)))

  product_each : (es : Exprs) → product_weight es w ≤ most → EachLight es
  unfolding definitions meaning_definitions
  product_each NoExpr h = tt
  product_each (MoreExpr e es) h =
      let first = factor_le (weight e w) (product_weight es w) (one_product w ones es) in
      let rest = other_le (product_weight es w) (weight e w) (one_weight w ones e) in
      (omega (arith, h, first), product_each es (omega (arith, h, rest)))

mutual
  unfolding meaning_definitions

  ones_after : (c : Command) (w : Location → ℕ) → ((p : Location) → 1 ≤ w p) → (p : Location) → 1 ≤ weigh.after c w p
  ones_after Skip w h = h
  ones_after (Assign t e) w h = put_ones w (TempAt t) (weight e w) h (one_weight w h e)
  ones_after (Write x e) w h = put_ones w (location_of x) (weight e w) h (one_weight w h e)
  ones_after (Print e) w h = h
  ones_after (Seq cs) w h = ones_after_all cs w h
  ones_after (If b c d) w h = λ p. let l = ones_after c w h p in omega (arith, l)

  ones_after_all : (cs : Commands) (w : Location → ℕ) → ((p : Location) → 1 ≤ w p) → (p : Location) → 1 ≤ weigh.after_all cs w p
  ones_after_all NoCommand w h = h
  ones_after_all (MoreCommand c cs) w h = ones_after_all cs (weigh.after c w) (ones_after c w h)

abbrev Sized : (Location → Extent) → Type 0
Sized u = (p : Location) → 1 ≤ (u p).size

module _ (u : Location → Extent) (some : Sized u) where
  one_size : (e : Expr) → 1 ≤ (extent e u).size
  unfolding meaning_definitions
  one_size (Literal n) = omega arith
  one_size (OfTemp t) = some (TempAt t)
  one_size (Read x) = some (location_of x)
  one_size (Sum es) = omega arith
  one_size (Product es) = omega arith
  one_size (Neg e) = omega arith

  exprs_few : (es : Exprs) → expr_count es ≤ (extent_all es u).size
  unfolding definitions meaning_definitions
  exprs_few NoExpr = omega arith
  exprs_few (MoreExpr e es) = let l = one_size e in let m = exprs_few es in omega (arith, l, m)

  one_test : (t : Test) → 1 ≤ (test_extent t u).size
  unfolding meaning_definitions
  one_test True = omega arith
  one_test (Not c) = omega arith
  one_test (Comparison op a b) = omega arith

  tests_few : (c : Cond) → test_count c ≤ (tests_extent c u).size
  unfolding definitions meaning_definitions
  tests_few NoTest = omega arith
  tests_few (MoreTest t c) = let l = one_test t in let m = tests_few c in omega (arith, l, m)

sized_put : (u : Location → Extent) (p : Location) (x : Extent) → Sized u → 1 ≤ x.size → Sized (put u p x)
unfolding meaning_definitions
sized_put u p x h k q = go (same_location p q)
  where
    go : (v : Bool) → 1 ≤ (cond v x (u q)).size
    go true = k
    go false = h q

module _ (k : ℕ) where
  mutual
    unfolding meaning_definitions

    sized_after : (c : Command) (u : Location → Extent) → Sized u → Sized (sizes.after k c u)
    sized_after Skip u h = h
    sized_after (Assign t e) u h = sized_put u (TempAt t) (extent e u) h (one_size u h e)
    sized_after (Write x e) u h = sized_put u (location_of x) (sizes.written k (extent e u)) h (omega arith)
    sized_after (Print e) u h = h
    sized_after (Seq cs) u h = sized_after_all cs u h
    sized_after (If b c d) u h = λ p. let l = sized_after c u h p in omega (arith, l)

    sized_after_all : (cs : Commands) (u : Location → Extent) → Sized u → Sized (sizes.after_all k cs u)
    sized_after_all NoCommand u h = h
    sized_after_all (MoreCommand c cs) u h = sized_after_all cs (sizes.after k c u) (sized_after c u h)

  one_command : (c : Command) (u : Location → Extent) → 1 ≤ (command_extent k c u).size
  unfolding meaning_definitions
  one_command Skip u = omega arith
  one_command (Assign t e) u = omega arith
  one_command (Write x e) u = omega arith
  one_command (Print e) u = omega arith
  one_command (Seq cs) u = omega arith
  one_command (If b c d) u = omega arith

  commands_few : (cs : Commands) (u : Location → Extent) → command_count cs ≤ (commands_extent k cs u).size
  unfolding definitions meaning_definitions
  commands_few NoCommand u = omega arith
  commands_few (MoreCommand c cs) u =
      let l = one_command c u in let m = commands_few cs (sizes.after k c u) in omega (arith, l, m)

-- ---- counts of what is transformed
module _ (k : ℕ) where
  exprs_same : (es : Exprs) → expr_count (shift_exprs k es) ≡ expr_count es
  unfolding definitions plan_definitions
  exprs_same NoExpr = refl
  exprs_same (MoreExpr e es) = ap suc (exprs_same es)

  tests_same : (c : Cond) → test_count (shift_cond k c) ≡ test_count c
  unfolding definitions plan_definitions
  tests_same NoTest = refl
  tests_same (MoreTest t c) = ap suc (tests_same c)

  commands_same : (i : ℕ) (cs : Commands) → command_count (shift_all k i cs) ≡ command_count cs
  unfolding definitions plan_definitions
  commands_same i NoCommand = refl
  commands_same i (MoreCommand c cs) = ap suc (commands_same i cs)

  reads_count : (x j n : ℕ) → expr_count (delta_reads x j n) ≡ n
  unfolding definitions plan_definitions
  reads_count x j zero = refl
  reads_count x j (suc n) = ap suc (reads_count x (suc j) n)

  others_count : (i x j n : ℕ) → expr_count (other_deltas i x j n) ≤ n
  unfolding definitions plan_definitions
  others_count i x j zero = omega arith
  others_count i x j (suc n) = go (i == j) (others_count i x (suc j) n)
    where
      go : (v : Bool) → expr_count (other_deltas i x (suc j) n) ≤ n → expr_count (cond v (other_deltas i x (suc j) n) (MoreExpr (Neg (Read (split.Delta x j))) (other_deltas i x (suc j) n))) ≤ suc n
      go true r = omega (arith, r)
      go false r = omega (arith, r)

-- ---- of n objects, k sites and this many names
module _ (n k names : ℕ) (few : k ≤ 16) (few_names : names ≤ 2 ^ 32) where
  Good : Expr → Type 0
  Good = ExprInShape n k

  reads_in : (x j m : ℕ) → x < n → j + m ≤ k → ExprsInShape n k (delta_reads x j m)
  unfolding definitions plan_definitions
  reads_in x j zero h l = tt
  reads_in x j (suc m) h l = ((h, omega (arith, l)), reads_in x (suc j) m h (omega (arith, l)))

  others_in : (i x j m : ℕ) → x < n → j + m ≤ k → ExprsInShape n k (other_deltas i x j m)
  unfolding definitions plan_definitions
  others_in i x j zero h l = tt
  others_in i x j (suc m) h l = go (i == j) (others_in i x (suc j) m h (omega (arith, l)))
    where
      go : (v : Bool) → ExprsInShape n k (other_deltas i x (suc j) m) → ExprsInShape n k (cond v (other_deltas i x (suc j) m) (MoreExpr (Neg (Read (split.Delta x j))) (other_deltas i x (suc j) m)))
      go true r = r
      go false r = ((h, omega (arith, l)), r)

  module _ (w : Location → ℕ) (ones : (p : Location) → 1 ≤ w p) (u : Location → Extent) (some : Sized u) where
    exprs_count : (es : Exprs) → (extent_all es u).size ≤ 200000 → IsCount (expr_count (shift_exprs k es))
    exprs_count es h = let l = exprs_few u some es in let m = exprs_same k es in omega (arith, l, m, h)

    mutual
      unfolding definitions meaning_definitions plan_definitions

      expr_in :
          (e : Expr) → WholeExpr e → ExprWithin n names e → weight e w ≤ most → (extent e u).size ≤ 200000 →
          ExprInShape n k (shift_expr k e)
      expr_in (Literal v) g f l s = word_if v (omega (arith, l))
      expr_in (OfTemp (temp.Named m)) g f l s = omega (arith, f, few_names)
      expr_in (OfTemp (temp.Fresh m)) g f l s = g
      expr_in (Read (split.Whole x)) g f l s =
          let c = reads_count k x 0 k in (omega (arith, c, few), (f, reads_in x 0 k f (omega arith)))
      expr_in (Read (split.Base x)) g f l s = absurd g
      expr_in (Read (split.Delta x j)) g f l s = absurd g
      expr_in (Sum es) g f l s =
          (exprs_count es (omega (arith, s)), exprs_in es g f (sum_each w ones es (omega (arith, l))) (omega (arith, s)))
      expr_in (Product es) g f l s =
          (exprs_count es (omega (arith, s)), exprs_in es g f (product_each w ones es l) (omega (arith, s)))
      expr_in (Neg e) g f l s = expr_in e g f l (omega (arith, s))

      exprs_in :
          (es : Exprs) → WholeExprs es → ExprsWithin n names es → EachLight w ones es → (extent_all es u).size ≤ 200000 →
          ExprsInShape n k (shift_exprs k es)
      exprs_in NoExpr g f l s = tt
      exprs_in (MoreExpr e es) g f l s =
          (expr_in e g.0 f.0 l.0 (omega (arith, s)), exprs_in es g.1 f.1 l.1 (omega (arith, s)))

    light_weight : (e : Expr) → is_light_expr most e w ≡ true → weight e w ≤ most
    unfolding meaning_definitions
    light_weight e h = grind (arith, nat_tests)

    mutual
      unfolding definitions meaning_definitions plan_definitions

      test_in :
          (t : Test) → WholeTest t → TestWithin n names t → is_light_test most t w ≡ true → (test_extent t u).size ≤ 200000 →
          TestInShape n k (shift_test k t)
      test_in True g f l s = tt
      test_in (Not c) g f l s =
          let a = tests_few u some c in let b = tests_same k c in
          (omega (arith, a, b, s), cond_in c g f l (omega (arith, s)))
      test_in (Comparison op a b) g f l s =
          let p = and_parts (is_light_expr most a w) _ l in
          (expr_in a g.0 f.0 (light_weight a p.0) (omega (arith, s)), expr_in b g.1 f.1 (light_weight b p.1) (omega (arith, s)))

      cond_in :
          (c : Cond) → WholeCond c → CondWithin n names c → is_light_cond most c w ≡ true → (tests_extent c u).size ≤ 200000 →
          CondInShape n k (shift_cond k c)
      cond_in NoTest g f l s = tt
      cond_in (MoreTest t c) g f l s =
          let p = and_parts (is_light_test most t w) _ l in
          (test_in t g.0 f.0 p.0 (omega (arith, s)), cond_in c g.1 f.1 p.1 (omega (arith, s)))

  module _ (i : ℕ) (inside : i < k) where
    temp_in : (t : _) (e : Expr) → TempIn t → TempWithin n names t → CommandInShape n k (Assign t (Literal (pos 0)))
    unfolding definitions meaning_definitions
    temp_in (temp.Named m) e g f = (omega (arith, f, few_names), word_if (pos 0) (omega arith))
    temp_in (temp.Fresh m) e g f = (g, word_if (pos 0) (omega arith))

    mutual
      unfolding definitions meaning_definitions plan_definitions

      pub command_in :
          (c : Command) (w : Location → ℕ) → ((p : Location) → 1 ≤ w p) → (u : Location → Extent) → Sized u → WholeIn c → NamesWithin n names c →
          is_light most c w ≡ true → (command_extent k c u).size ≤ 200000 → CommandInShape n k (shift k i c)
      command_in Skip w o u z g f l s = tt
      command_in (Assign t e) w o u z g f l s =
          ((temp_in t e g.0 f.0).0, expr_in w o u z e g.1 f.1 (light_weight w o u z e l) (omega (arith, s)))
      command_in (Write (split.Whole x) e) w o u z g f l s =
          let c = others_count k i x 0 k in (
            (f.0, inside),
            (
              omega (arith, c, few),
              (expr_in w o u z e g.1 f.1 (light_weight w o u z e l) (omega (arith, s)), (f.0, others_in i x 0 k f.0 (omega arith))),
            ),
          )
      command_in (Write (split.Base x) e) w o u z g f l s = absurd g.0
      command_in (Write (split.Delta x j) e) w o u z g f l s = absurd g.0
      command_in (Print e) w o u z g f l s = expr_in w o u z e g f (light_weight w o u z e l) (omega (arith, s))
      command_in (Seq cs) w o u z g f l s =
          let a = commands_few k cs u in let b = commands_same k i cs in
          (omega (arith, a, b, s), commands_in cs w o u z g f l (omega (arith, s)))
      command_in (If b c d) w o u z g f l s =
          let p = and_parts (is_light_cond most b w) _ l in
          let q = and_parts (is_light most c w) _ p.1 in
          let a = tests_few u z b in let e = tests_same k b in (
            omega (arith, a, e, s),
            cond_in w o u z b g.0 f.0 p.0 (omega (arith, s)),
            command_in c w o u z g.1 f.1 q.0 (omega (arith, s)),
            command_in d w o u z g.2 f.2 q.1 (omega (arith, s)),
          )

      commands_in :
          (cs : Commands) (w : Location → ℕ) → ((p : Location) → 1 ≤ w p) → (u : Location → Extent) → Sized u → WholeInAll cs → AllNamesWithin n names cs →
          are_light most cs w ≡ true → (commands_extent k cs u).size ≤ 200000 → CommandsInShape n k (shift_all k i cs)
      commands_in NoCommand w o u z g f l s = tt
      commands_in (MoreCommand c cs) w o u z g f l s =
          let p = and_parts (is_light most c w) _ l in (
            command_in c w o u z g.0 f.0 p.0 (omega (arith, s)),
            commands_in cs (weigh.after c w) (ones_after c w o) (sizes.after k c u) (sized_after k c u z) g.1 f.1 p.1 (omega (arith, s)),
          )
