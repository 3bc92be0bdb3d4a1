-- The nodes of a command, in the order of its text, each before its parts.
use Rattle.std.specs.Prelude.{ℕ, suc, List, [], ◌∷◌, ◌++◌}
use Rattle.homeo_syntax.specs.declared.low.SplitName.{SplitName}
use Rattle.homeo_syntax.specs.declared.low.SplitName.TheVariants as split
use Rattle.homeo_syntax.specs.Low.{Expr, Exprs, Literal, OfTemp, Read, Sum, Product, Neg, NoExpr, MoreExpr, Test, Cond, True, Not, Comparison, NoTest, MoreTest, Command, Commands, Skip, Assign, Write, Print, Seq, If, NoCommand, MoreCommand}
use Rattle.homeo_certificate.specs.declared.nodes.Node.{Node}
use Rattle.homeo_certificate.specs.declared.nodes.Node.TheVariants as node
use Rattle.homeo_certificate.specs.Key.{definitions}

-- a certificate has no whole objects, and writes deltas alone
abbrev pub name_node : SplitName → Node
unfolding definitions
name_node (split.Whole x) = node.Base x
name_node (split.Base x) = node.Base x
name_node (split.Delta x j) = node.Delta x j

abbrev pub write_node : SplitName → Node
unfolding definitions
write_node (split.Whole x) = node.Write x 0
write_node (split.Base x) = node.Write x 0
write_node (split.Delta x j) = node.Write x j

-- how many
abbrev pub expr_count : Exprs → ℕ
unfolding definitions
expr_count NoExpr = 0
expr_count (MoreExpr e es) = suc (expr_count es)

abbrev pub test_count : Cond → ℕ
unfolding definitions
test_count NoTest = 0
test_count (MoreTest t c) = suc (test_count c)

abbrev pub command_count : Commands → ℕ
unfolding definitions
command_count NoCommand = 0
command_count (MoreCommand c cs) = suc (command_count cs)

abbrev mutual
  unfolding definitions

  pub expr_nodes : Expr → List Node
  expr_nodes (Literal n) = node.Literal n ∷ []
  expr_nodes (OfTemp t) = node.Temp t ∷ []
  expr_nodes (Read x) = name_node x ∷ []
  expr_nodes (Sum es) = node.Sum (expr_count es) ∷ exprs_nodes es
  expr_nodes (Product es) = node.Product (expr_count es) ∷ exprs_nodes es
  expr_nodes (Neg e) = node.Neg ∷ expr_nodes e

  pub exprs_nodes : Exprs → List Node
  exprs_nodes NoExpr = []
  exprs_nodes (MoreExpr e es) = expr_nodes e ++ exprs_nodes es

abbrev mutual
  unfolding definitions

  pub test_nodes : Test → List Node
  test_nodes True = node.True ∷ []
  test_nodes (Not c) = node.Not (test_count c) ∷ cond_nodes c
  test_nodes (Comparison op a b) = node.Comparison op ∷ (expr_nodes a ++ expr_nodes b)

  pub cond_nodes : Cond → List Node
  cond_nodes NoTest = []
  cond_nodes (MoreTest t c) = test_nodes t ++ cond_nodes c

abbrev mutual
  unfolding definitions

  pub command_nodes : Command → List Node
  command_nodes Skip = node.Skip ∷ []
  command_nodes (Assign t e) = node.Assign ∷ node.Temp t ∷ expr_nodes e
  command_nodes (Write x e) = write_node x ∷ expr_nodes e
  command_nodes (Print e) = node.Print ∷ expr_nodes e
  command_nodes (Seq cs) = node.Seq (command_count cs) ∷ commands_nodes cs
  command_nodes (If b c d) = node.If (test_count b) ∷ (cond_nodes b ++ (command_nodes c ++ command_nodes d))

  pub commands_nodes : Commands → List Node
  commands_nodes NoCommand = []
  commands_nodes (MoreCommand c cs) = command_nodes c ++ commands_nodes cs
