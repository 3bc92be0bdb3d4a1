-- Which certificates are in shape: their parts are as many as they should be, and within their ranges.
use Rattle.std.specs.Prelude.{◌≡◌, ℕ, ◌<◌, ◌≤◌, ◌^◌, List, length, ℤ, pos, int_le, int_lt, neg_ℤ, true, false}
use Rattle.std.specs.Ordering.{int_eq}
use Rattle.homeo_syntax.specs.declared.low.Temp.{Temp}
use Rattle.homeo_syntax.specs.declared.low.Temp.TheVariants.{Named, Fresh}
use Rattle.homeo_syntax.specs.declared.low.SplitName.{SplitName}
use Rattle.homeo_syntax.specs.declared.low.SplitName.TheVariants as split
use Rattle.homeo_syntax.specs.Low.{Expr, Exprs, Literal, OfTemp, Read, Sum, Product, Neg, NoExpr, MoreExpr, Test, Cond, True, Not, Comparison, NoTest, MoreTest, Command, Commands, Skip, Assign, Write, Print, Seq, If, NoCommand, MoreCommand}
use Rattle.homeo_plan.specs.Each.{Each}
use Rattle.homeo_plan.specs.declared.forms.Delta.{Delta}
use Rattle.homeo_plan.specs.declared.forms.Term.{Term}
use Rattle.homeo_plan.specs.Linear.{AreInOrder, deltas_of}
use Rattle.homeo_plan.specs.Template.{Clause}
use Rattle.homeo_certificate.specs.Key.{definitions}
use Rattle.homeo_certificate.specs.Certificate.{Call, Certificate}
use Rattle.homeo_certificate.specs.Nesting.{nesting}
use Rattle.homeo_certificate.specs.Nodes.{expr_count, test_count, command_count}

-- a number of 64 bits
pub record IsWord (n : ℤ) : Type 0 where
  pub low : int_le (neg_ℤ (pos (2 ^ 63))) n ≡ true
  pub high : int_lt n (pos (2 ^ 63)) ≡ true

-- a count that is such a number
abbrev pub IsCount : ℕ → Type 0
IsCount n = n < 2 ^ 63

-- of n objects and k sites
module _ (n k : ℕ) where
  pub record DeltaInShape (d : Delta) : Type 0 where
    pub object : d.object < n
    pub site : d.site < k

  pub record TermInShape (t : Term) : Type 0 where
    pub delta : DeltaInShape t.delta
    pub factor : IsWord t.factor
    pub counts : int_eq t.factor (pos 0) ≡ false

  pub record ClauseInShape (c : Clause) : Type 0 where
    pub slack : IsWord c.slack
    pub terms : Each TermInShape c.terms
    pub order : AreInOrder (deltas_of c.terms)

  -- a base or a delta that there is
  abbrev pub NameInShape : SplitName → Type 0
  unfolding definitions
  NameInShape (split.Whole x) = ⊥
  NameInShape (split.Base x) = x < n
  NameInShape (split.Delta x j) = (x < n) × (j < k)

  -- a delta that there is
  abbrev pub TargetInShape : SplitName → Type 0
  unfolding definitions
  TargetInShape (split.Whole x) = ⊥
  TargetInShape (split.Base x) = ⊥
  TargetInShape (split.Delta x j) = (x < n) × (j < k)

  abbrev pub TempInShape : Temp → Type 0
  unfolding definitions
  TempInShape (Named m) = m < 2 ^ 32
  TempInShape (Fresh m) = m < 2 ^ 32

  abbrev mutual
    unfolding definitions

    pub ExprInShape : Expr → Type 0
    ExprInShape (Literal m) = IsWord m
    ExprInShape (OfTemp t) = TempInShape t
    ExprInShape (Read x) = NameInShape x
    ExprInShape (Sum es) = IsCount (expr_count es) × ExprsInShape es
    ExprInShape (Product es) = IsCount (expr_count es) × ExprsInShape es
    ExprInShape (Neg e) = ExprInShape e

    pub ExprsInShape : Exprs → Type 0
    ExprsInShape NoExpr = Unit {0}
    ExprsInShape (MoreExpr e es) = ExprInShape e × ExprsInShape es

  abbrev mutual
    unfolding definitions

    pub TestInShape : Test → Type 0
    TestInShape True = Unit {0}
    TestInShape (Not c) = IsCount (test_count c) × CondInShape c
    TestInShape (Comparison op a b) = ExprInShape a × ExprInShape b

    pub CondInShape : Cond → Type 0
    CondInShape NoTest = Unit {0}
    CondInShape (MoreTest t c) = TestInShape t × CondInShape c

  abbrev mutual
    unfolding definitions

    pub CommandInShape : Command → Type 0
    CommandInShape Skip = Unit {0}
    CommandInShape (Assign t e) = TempInShape t × ExprInShape e
    CommandInShape (Write x e) = TargetInShape x × ExprInShape e
    CommandInShape (Print e) = ExprInShape e
    CommandInShape (Seq cs) = IsCount (command_count cs) × CommandsInShape cs
    CommandInShape (If b c d) = IsCount (test_count b) × CondInShape b × CommandInShape c × CommandInShape d

    pub CommandsInShape : Commands → Type 0
    CommandsInShape NoCommand = Unit {0}
    CommandsInShape (MoreCommand c cs) = CommandInShape c × CommandsInShape cs

  pub record CallInShape (g : Call) : Type 0 where
    pub site : g.site < k
    pub command : CommandInShape g.command
    pub nesting : nesting g.command ≤ 1000

-- k bounds of 64 bits
pub record BoundsInShape (k : ℕ) (bounds : List ℤ) : Type 0 where
  pub count : length bounds ≡ k
  pub words : Each IsWord bounds

pub record InShape (c : Certificate) : Type 0 where
  pub one_site : 1 ≤ c.sites
  pub few_sites : c.sites ≤ 16
  pub few_objects : length c.base ≤ 1024
  pub base : Each IsWord c.base
  pub clauses : Each (ClauseInShape (length c.base) c.sites) c.clauses
  pub bounds_count : length c.bounds ≡ length c.clauses
  pub bounds : Each (BoundsInShape c.sites) c.bounds
  pub freezes : Each (DeltaInShape (length c.base) c.sites) c.freezes
  pub order : AreInOrder c.freezes
  pub few_calls : length c.calls ≤ 1024
  pub calls : Each (CallInShape (length c.base) c.sites) c.calls
