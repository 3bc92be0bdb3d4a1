-- How many nodes an L form has at least, told without visiting a slot, each number up to a cap.
use Rattle.std.specs.Prelude.{ℕ, ◌+◌, ◌*◌, min, List, [], ◌∷◌, length, ℤ, Option, Some, None}
use Rattle.homeo_syntax.specs.Source.{Expr, Exprs, Literal, Name, Read, Sum, Product, Neg, Field, Row, Count, Total, NoExpr, MoreExpr, Test, Cond, True, Not, Comparison, NoTest, MoreTest, FieldValue, Command, Commands, Skip, Assign, Write, Print, If, Block, SetField, SetRow, Foreach, Insert, Delete, Update, Abort, NoCommand, MoreCommand}
use Rattle.homeo_meaning.specs.Context.{Slot, Context, slots, slot_at}
use Rattle.homeo_lform.specs.SourceWrites.{given}
use Rattle.homeo_size.specs.inner.Key.{definitions}

abbrev pub few : ℕ → ℕ
few n = min 200001 n

-- a field of a slot that an index of n nodes names
abbrev pub index_nodes : Option ℤ → List Slot → ℕ → ℕ
index_nodes (Some v) all n = 1
index_nodes None [] n = 1
index_nodes None (slot ∷ more) n = few (length (slot ∷ more) + n)

-- the visits of slots, each with one node more than n
abbrev pub visit_nodes : List Slot → ℕ → ℕ
visit_nodes all n = few (1 + length all * few (1 + n))

abbrev mutual
  unfolding definitions

  pub nodes : Context → Expr → ℕ
  nodes x (Literal n) = 1
  nodes x (Name t) = 1
  nodes x (Read o) = 1
  nodes x (Sum es) = few (1 + all_nodes x es 0)
  nodes x (Product es) = few (1 + all_nodes x es 0)
  nodes x (Neg e) = few (1 + nodes x e)
  nodes x (Field q e f) = index_nodes (given x e) (slots x q.name) (nodes x e)
  nodes x (Row r f) = 1
  nodes x (Count r q c) = visit_nodes (slots x q.name) (tests_nodes x c 0)
  nodes x (Total r f q c) = visit_nodes (slots x q.name) (tests_nodes x c 0)

  -- with those before them
  pub all_nodes : Context → Exprs → ℕ → ℕ
  all_nodes x NoExpr n = n
  all_nodes x (MoreExpr e es) n = all_nodes x es (few (n + nodes x e))

  pub test_nodes : Context → Test → ℕ
  test_nodes x True = 1
  test_nodes x (Not c) = few (1 + tests_nodes x c 0)
  test_nodes x (Comparison op a b) = few (nodes x a + nodes x b)

  pub tests_nodes : Context → Cond → ℕ → ℕ
  tests_nodes x NoTest n = n
  tests_nodes x (MoreTest t c) n = tests_nodes x c (few (n + test_nodes x t))

-- a write of a value of n nodes
abbrev pub slot_nodes : Option Slot → ℕ → ℕ
slot_nodes None n = 1
slot_nodes (Some slot) n = few (1 + n)

-- a write to a field of the slot that an index of m nodes names
abbrev pub write_nodes : Option ℤ → List Slot → ℕ → ℕ → ℕ
unfolding definitions
write_nodes (Some v) all m n = slot_nodes (slot_at v all) n
write_nodes None [] m n = few (1 + n)
write_nodes None (slot ∷ more) m n = few (length (slot ∷ more) + few (m + n))

-- the values of an insert, with what comes before them
abbrev pub values_nodes : Context → List FieldValue → ℕ → ℕ
unfolding definitions
values_nodes x [] n = n
values_nodes x (f ∷ fs) n = values_nodes x fs (few (n + nodes x f.value))

abbrev mutual
  unfolding definitions

  pub command_nodes : Context → Command → ℕ
  command_nodes x Skip = 1
  command_nodes x (Assign t e) = few (1 + nodes x e)
  command_nodes x (Write o e) = few (1 + nodes x e)
  command_nodes x (Print e) = few (1 + nodes x e)
  command_nodes x (If b c d) = few (tests_nodes x b 0 + few (command_nodes x c + command_nodes x d))
  command_nodes x (Block cs) = commands_nodes x cs 1
  command_nodes x (SetField q i f e) = write_nodes (given x i) (slots x q.name) (nodes x i) (nodes x e)
  command_nodes x (SetRow r f e) = few (1 + nodes x e)
  command_nodes x (Foreach r q c cs) = visit_nodes (slots x q.name) (few (tests_nodes x c 0 + commands_nodes x cs 0))
  command_nodes x (Insert q fs t) = values_nodes x fs (few (1 + length (slots x q.name) * few (1 + length fs)))
  command_nodes x (Delete r q c) = visit_nodes (slots x q.name) (tests_nodes x c 0)
  command_nodes x (Update r q c f e) = visit_nodes (slots x q.name) (few (tests_nodes x c 0 + nodes x e))
  command_nodes x Abort = 2

  pub commands_nodes : Context → Commands → ℕ → ℕ
  commands_nodes x NoCommand n = n
  commands_nodes x (MoreCommand c cs) n = commands_nodes x cs (few (n + command_nodes x c))
