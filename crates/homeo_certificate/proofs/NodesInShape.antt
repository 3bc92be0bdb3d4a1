-- The nodes of a command in shape.
use Rattle.homeo_plan.specs.Key.{definitions as plan_definitions}
use Rattle.homeo_certificate.specs.Key.{definitions}
use Rattle.std.proofs.Common.{ℕ, ◌++◌}
use Rattle.homeo_syntax.specs.declared.low.SplitName.{SplitName}
use Rattle.homeo_syntax.specs.declared.low.SplitName.TheVariants as split
use Rattle.homeo_syntax.specs.Low.{Expr, Exprs, Literal, OfTemp, Read, Sum, Product, Neg, NoExpr, MoreExpr, Test, Cond, True, Not, Comparison, NoTest, MoreTest, Command, Commands, Skip, Assign, Write, Print, Seq, If, NoCommand, MoreCommand}
use Rattle.homeo_plan.specs.Each.{Each}
use Rattle.homeo_plan.proofs.Atoms.{append_each}
use Rattle.homeo_certificate.specs.Nodes.{name_node, write_node, expr_nodes, exprs_nodes, test_nodes, cond_nodes, command_nodes, commands_nodes}
use Rattle.homeo_certificate.specs.Shape.{NameInShape, TargetInShape, ExprInShape, ExprsInShape, TestInShape, CondInShape, CommandInShape, CommandsInShape}
use Rattle.homeo_certificate.specs.NodeShapes.{NodeInShape}

module _ (n k : ℕ) where
  name_in_shape : (x : SplitName) → NameInShape n k x → NodeInShape n k (name_node x)
  unfolding definitions
  name_in_shape (split.Whole x) h = absurd h
  name_in_shape (split.Base x) h = h
  name_in_shape (split.Delta x j) h = h

  write_in_shape : (x : SplitName) → TargetInShape n k x → NodeInShape n k (write_node x)
  unfolding definitions
  write_in_shape (split.Whole x) h = absurd h
  write_in_shape (split.Base x) h = absurd h
  write_in_shape (split.Delta x j) h = h

  mutual
    unfolding definitions plan_definitions

    expr_in_shape : (e : Expr) → ExprInShape n k e → Each (NodeInShape n k) (expr_nodes e)
    expr_in_shape (Literal m) h = (h, tt)
    expr_in_shape (OfTemp t) h = (h, tt)
    expr_in_shape (Read x) h = (name_in_shape x h, tt)
    expr_in_shape (Sum es) h = (h.0, exprs_in_shape es h.1)
    expr_in_shape (Product es) h = (h.0, exprs_in_shape es h.1)
    expr_in_shape (Neg e) h = (tt, expr_in_shape e h)

    exprs_in_shape : (es : Exprs) → ExprsInShape n k es → Each (NodeInShape n k) (exprs_nodes es)
    exprs_in_shape NoExpr h = tt
    exprs_in_shape (MoreExpr e es) h = append_each (NodeInShape n k) (expr_nodes e) (exprs_nodes es) (expr_in_shape e h.0) (exprs_in_shape es h.1)

  mutual
    unfolding definitions plan_definitions

    test_in_shape : (t : Test) → TestInShape n k t → Each (NodeInShape n k) (test_nodes t)
    test_in_shape True h = (tt, tt)
    test_in_shape (Not c) h = (h.0, cond_in_shape c h.1)
    test_in_shape (Comparison op a b) h = (tt, append_each (NodeInShape n k) (expr_nodes a) (expr_nodes b) (expr_in_shape a h.0) (expr_in_shape b h.1))

    cond_in_shape : (c : Cond) → CondInShape n k c → Each (NodeInShape n k) (cond_nodes c)
    cond_in_shape NoTest h = tt
    cond_in_shape (MoreTest t c) h = append_each (NodeInShape n k) (test_nodes t) (cond_nodes c) (test_in_shape t h.0) (cond_in_shape c h.1)

  mutual
    unfolding definitions plan_definitions

    pub nodes_in_shape : (c : Command) → CommandInShape n k c → Each (NodeInShape n k) (command_nodes c)
    nodes_in_shape Skip h = (tt, tt)
    nodes_in_shape (Assign t e) h = (tt, (h.0, expr_in_shape e h.1))
    nodes_in_shape (Write x e) h = (write_in_shape x h.0, expr_in_shape e h.1)
    nodes_in_shape (Print e) h = (tt, expr_in_shape e h)
    nodes_in_shape (Seq cs) h = (h.0, all_in_shape cs h.1)
    nodes_in_shape (If b c d) h = (
      h.0,
      append_each (NodeInShape n k) (cond_nodes b) (command_nodes c ++ command_nodes d) (cond_in_shape b h.1)
          (append_each (NodeInShape n k) (command_nodes c) (command_nodes d) (nodes_in_shape c h.2) (nodes_in_shape d h.3)),
    )

    all_in_shape : (cs : Commands) → CommandsInShape n k cs → Each (NodeInShape n k) (commands_nodes cs)
    all_in_shape NoCommand h = tt
    all_in_shape (MoreCommand c cs) h = append_each (NodeInShape n k) (command_nodes c) (commands_nodes cs) (nodes_in_shape c h.0) (all_in_shape cs h.1)
