-- The text of symbolic tables and of the joint table (this project's rule).
use Rattle.std.specs.Prelude.{ℕ, cond, nat_lt, List, [], ◌++◌, map, length, codes, decimal}
use Rattle.std.specs.Fmt.{signed_decimal}
use Rattle.std.specs.List.{flat_map, enumerate_from}
use Rattle.homeo_syntax.specs.Source as s
use Rattle.homeo_syntax.specs.declared.phrase.Compare.{Compare}
use Rattle.homeo_syntax.specs.declared.phrase.Compare.TheVariants.{Less, LessEqual, Equal}
use Rattle.homeo_syntax.specs.declared.low.Temp.{Temp}
use Rattle.homeo_syntax.specs.declared.low.Temp.TheVariants.{Named, Fresh}
use Rattle.homeo_syntax.specs.declared.low.SplitName.{SplitName}
use Rattle.homeo_syntax.specs.declared.low.SplitName.TheVariants.{Whole, Base, Delta}
use Rattle.homeo_syntax.specs.Low.{Expr, Exprs, Literal, OfTemp, Read, Sum, Product, Neg, NoExpr, MoreExpr, Test, Cond, True, Not, Comparison, NoTest, MoreTest, Command, Commands, Assign, Write, Print, NoCommand, MoreCommand}
use Rattle.homeo_meaning.specs.Ground.{Ground, grounds}
use Rattle.homeo_plan.specs.Joint.{joint_picks}
use Rattle.homeo_plan.specs.Planned.{sites_of, planned_call}
use Rattle.homeo_plan.specs.Table.{Row, table}
use Rattle.homeo_plan.specs.Template.{shifted}
use Rattle.homeo_print.specs.Key.{definitions}
use Rattle.homeo_print.specs.Names.{newline, heading, name_at, object_names}
use Rattle.homeo_print.specs.Calls.{ground_text}
use Rattle.homeo_print.specs.Parentheses.{Level, Alone, AsTerm, AsFactor, around_sum, around_product}

-- ---- single names
-- a temporary of the text by its name, one that the text doesn't have by its number
abbrev pub temp_text : s.Workload → Temp → List ℕ
unfolding definitions
temp_text w (Named n) = name_at w.names n
temp_text w (Fresh n) = codes "$" ++ decimal n

abbrev pub object_text : s.Workload → ℕ → List ℕ
unfolding definitions
object_text w x = name_at (object_names w) x

-- No table has a whole object: it is its name.
abbrev pub split_name_text : s.Workload → SplitName → List ℕ
unfolding definitions
split_name_text w (Whole x) = object_text w x
split_name_text w (Base x) = codes "base(" ++ object_text w x ++ codes ")"
split_name_text w (Delta x j) = object_text w x ++ codes "@" ++ decimal j

-- ---- expressions
abbrev pub in_parentheses : List ℕ → List ℕ
unfolding definitions
in_parentheses text = codes "(" ++ text ++ codes ")"

-- No table has a sum or a product without items: it has no text.
abbrev mutual
  unfolding definitions

  pub expr_at : s.Workload → Level → Expr → List ℕ
  expr_at w l (Literal n) = signed_decimal n
  expr_at w l (OfTemp t) = temp_text w t
  expr_at w l (Read x) = split_name_text w x
  expr_at w l (Sum es) = around_sum in_parentheses l (sum_text w es)
  expr_at w l (Product es) = around_product in_parentheses l (product_text w es)
  expr_at w l (Neg e) = codes "-" ++ expr_at w AsFactor e

  pub sum_text : s.Workload → Exprs → List ℕ
  sum_text w NoExpr = []
  sum_text w (MoreExpr e es) = expr_at w AsTerm e ++ later_terms w es

  -- a negation behind another term is a minus and what it negates
  pub later_terms : s.Workload → Exprs → List ℕ
  later_terms w NoExpr = []
  later_terms w (MoreExpr (Neg e) es) = codes " - " ++ expr_at w AsTerm e ++ later_terms w es
  later_terms w (MoreExpr e es) = codes " + " ++ expr_at w AsTerm e ++ later_terms w es

  pub product_text : s.Workload → Exprs → List ℕ
  product_text w NoExpr = []
  product_text w (MoreExpr e es) = expr_at w AsFactor e ++ later_factors w es

  pub later_factors : s.Workload → Exprs → List ℕ
  later_factors w NoExpr = []
  later_factors w (MoreExpr e es) = codes " * " ++ expr_at w AsFactor e ++ later_factors w es

-- an expression by itself
abbrev pub expr_text : s.Workload → Expr → List ℕ
unfolding definitions
expr_text w e = expr_at w Alone e

-- ---- conditions
abbrev pub comparison_text : Compare → List ℕ
unfolding definitions
comparison_text Less = codes " < "
comparison_text LessEqual = codes " <= "
comparison_text Equal = codes " = "

abbrev mutual
  unfolding definitions

  pub test_text : s.Workload → Test → List ℕ
  test_text w True = codes "true"
  test_text w (Not c) = codes "not (" ++ cond_text w c ++ codes ")"
  test_text w (Comparison op a b) = expr_text w a ++ comparison_text op ++ expr_text w b

  -- no test is the test that always passes
  pub cond_text : s.Workload → Cond → List ℕ
  cond_text w NoTest = codes "true"
  cond_text w (MoreTest t c) = test_text w t ++ later_tests w c

  pub later_tests : s.Workload → Cond → List ℕ
  later_tests w NoTest = []
  later_tests w (MoreTest t c) = codes " and " ++ test_text w t ++ later_tests w c

-- ---- rows
-- No residual has another command than these three: it has no text.
abbrev pub command_text : s.Workload → Command → List ℕ
unfolding definitions
command_text w (Assign t e) = temp_text w t ++ codes " := " ++ expr_text w e
command_text w (Write x e) = codes "write(" ++ split_name_text w x ++ codes " = " ++ expr_text w e ++ codes ")"
command_text w (Print e) = codes "print(" ++ expr_text w e ++ codes ")"
command_text w c = []

abbrev pub later_commands : s.Workload → Commands → List ℕ
unfolding definitions
later_commands w NoCommand = []
later_commands w (MoreCommand c cs) = codes "; " ++ command_text w c ++ later_commands w cs

abbrev pub commands_text : s.Workload → Commands → List ℕ
unfolding definitions
commands_text w NoCommand = []
commands_text w (MoreCommand c cs) = command_text w c ++ later_commands w cs

abbrev pub residual_text : s.Workload → Commands → List ℕ
unfolding definitions
residual_text w NoCommand = codes "{}"
residual_text w cs = codes "{ " ++ commands_text w cs ++ codes " }"

-- three lines: row J, when FORMULA, do RESIDUAL
abbrev pub row_text : s.Workload → ℕ → Row → List ℕ
unfolding definitions
row_text w number r =
    heading (codes "row ") number
    ++ codes "when " ++ cond_text w r.formula ++ newline
    ++ codes "do " ++ residual_text w r.residual ++ newline

-- the rows are numbered from 0
abbrev pub rows_text : s.Workload → List Row → List ℕ
unfolding definitions
rows_text w rows = flat_map (λ r. row_text w r.0 r.1) (enumerate_from 0 rows)

-- ---- tables
-- call G CALL at I rows N
abbrev pub table_heading : s.Workload → ℕ → Ground → ℕ → List ℕ
unfolding definitions
table_heading w number g rows =
    codes "call " ++ decimal number ++ codes " " ++ ground_text w g
    ++ codes " at " ++ decimal g.site ++ heading (codes " rows ") rows

-- this line, and the rows
abbrev pub table_text : s.Workload → ℕ → Ground → List Row → List ℕ
unfolding definitions
table_text w number g rows = table_heading w number g (length rows) ++ rows_text w rows

-- the symbolic table of a ground call: of the delta transform of its L form, for its site
abbrev pub call_table : s.Workload → Ground → List Row
unfolding definitions
call_table w g = table (shifted (sites_of w) (planned_call w g))

-- ---- the joint table
-- the most choices that are printed
abbrev pub most_choices : ℕ
most_choices = 1024

-- pick J J
abbrev pub pick_line : List ℕ → List ℕ
unfolding definitions
pick_line picks = codes "pick" ++ flat_map (λ n. codes " " ++ decimal n) picks ++ newline

-- how many choices there are, and of each the numbers of its rows
abbrev pub choices_text : List (List ℕ) → List ℕ
unfolding definitions
choices_text choices =
    cond (nat_lt most_choices (length choices))
    (codes "joint too many\n")
    (heading (codes "joint ") (length choices) ++ flat_map pick_line choices)

abbrev pub joint_text : List (List Row) → List ℕ
unfolding definitions
joint_text tables = choices_text (joint_picks tables)

-- the table of each distinct ground call, numbered from 0 in first-seen order, and their joint table
abbrev pub tables_text : s.Workload → List ℕ
unfolding definitions
tables_text w =
    flat_map (λ c. table_text w c.0 c.1 (call_table w c.1)) (enumerate_from 0 (grounds w))
    ++ joint_text (map (call_table w) (grounds w))
