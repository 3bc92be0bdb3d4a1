-- A transaction's text as the list of the occurrences of names in it, in the order of the text.
use Rattle.std.specs.Prelude.{List, [], ◌∷◌, ◌++◌, map}
use Rattle.homeo_syntax.specs.declared.phrase.Ident.{Ident}
use Rattle.homeo_syntax.specs.Source.{FieldValue, Expr, Exprs, Literal, Name, Read, Sum, Product, Neg, Field, Row, Count, Total, NoExpr, MoreExpr, Test, Cond, True, Not, Comparison, NoTest, MoreTest, Command, Commands, Skip, Assign, Write, Print, If, Block, SetField, SetRow, Foreach, Insert, Delete, Update, Abort, NoCommand, MoreCommand}
use Rattle.homeo_meaning.specs.Key.{definitions}
use Rattle.homeo_meaning.specs.Bindings as b

-- what a name is there for
pub data Mark : Type 0 where
  DeclaresRow : (x : Ident) → Mark
  TakesObject : (x : Ident) → Mark
  TakesRelation : (x : Ident) → Mark
  -- a parameter or a temporary
  TakesValue : (x : Ident) → Mark
  -- a field of a row variable
  TakesField : (row field : Ident) → Mark
  -- a field of a relation
  NamesField : (relation field : Ident) → Mark
  -- the fields that an insert names
  FillsFields : (relation : Ident) (fields : List Ident) → Mark
  -- the end of a command that assigns
  Assigns : (t : Ident) → Mark

-- with the row variables that hold it, the innermost first
pub record Occurrence : Type 0 where
  pub rows : List b.Row
  pub mark : Mark

abbrev pub at : List b.Row → Mark → Occurrence
at rows m = record { rows = rows; mark = m }

-- the row variables in a phrase that one holds
abbrev pub within : Ident → Ident → List b.Row → List b.Row
within r q rows = record { row = r.name; relation = q.name } ∷ rows

-- `count` and `sum` hold their relation too
abbrev mutual
  unfolding definitions

  pub in_expr : List b.Row → Expr → List Occurrence
  in_expr rows (Literal n) = []
  in_expr rows (Name x) = at rows (TakesValue x) ∷ []
  in_expr rows (Read x) = at rows (TakesObject x) ∷ []
  in_expr rows (Sum es) = in_exprs rows es
  in_expr rows (Product es) = in_exprs rows es
  in_expr rows (Neg e) = in_expr rows e
  in_expr rows (Field q e f) = at rows (TakesRelation q) ∷ at rows (NamesField q f) ∷ in_expr rows e
  in_expr rows (Row r f) = at rows (TakesField r f) ∷ []
  in_expr rows (Count r q c) = at rows (DeclaresRow r) ∷ at (within r q rows) (TakesRelation q) ∷ in_cond (within r q rows) c
  in_expr rows (Total r f q c) = at rows (DeclaresRow r) ∷ at (within r q rows) (TakesRelation q) ∷ at (within r q rows) (NamesField q f) ∷ in_cond (within r q rows) c

  pub in_exprs : List b.Row → Exprs → List Occurrence
  in_exprs rows NoExpr = []
  in_exprs rows (MoreExpr e es) = in_expr rows e ++ in_exprs rows es

  pub in_test : List b.Row → Test → List Occurrence
  in_test rows True = []
  in_test rows (Not c) = in_cond rows c
  in_test rows (Comparison op d e) = in_expr rows d ++ in_expr rows e

  pub in_cond : List b.Row → Cond → List Occurrence
  in_cond rows NoTest = []
  in_cond rows (MoreTest t c) = in_test rows t ++ in_cond rows c

abbrev pub in_fields : List b.Row → List FieldValue → List Occurrence
unfolding definitions
in_fields rows [] = []
in_fields rows (f ∷ fs) = in_expr rows f.value ++ in_fields rows fs

-- the relation of `foreach`, `delete` and `update` stands outside of the row variable
abbrev mutual
  unfolding definitions

  pub in_command : List b.Row → Command → List Occurrence
  in_command rows Skip = []
  in_command rows (Assign t e) = in_expr rows e ++ at rows (Assigns t) ∷ []
  in_command rows (Write x e) = at rows (TakesObject x) ∷ in_expr rows e
  in_command rows (Print e) = in_expr rows e
  in_command rows (If t c d) = in_cond rows t ++ in_command rows c ++ in_command rows d
  in_command rows (Block cs) = in_commands rows cs
  in_command rows (SetField q i f e) = at rows (TakesRelation q) ∷ at rows (NamesField q f) ∷ in_expr rows i ++ in_expr rows e
  in_command rows (SetRow r f e) = at rows (TakesField r f) ∷ in_expr rows e
  in_command rows (Foreach r q t cs) = at rows (DeclaresRow r) ∷ at rows (TakesRelation q) ∷ in_cond (within r q rows) t ++ in_commands (within r q rows) cs
  in_command rows (Insert q fs t) = at rows (TakesRelation q) ∷ at rows (FillsFields q (map (λ f. f.field) fs)) ∷ in_fields rows fs ++ at rows (Assigns t) ∷ []
  in_command rows (Delete r q t) = at rows (DeclaresRow r) ∷ at rows (TakesRelation q) ∷ in_cond (within r q rows) t
  in_command rows (Update r q t f e) = at rows (DeclaresRow r) ∷ at rows (TakesRelation q) ∷ at rows (NamesField q f) ∷ in_cond (within r q rows) t ++ in_expr (within r q rows) e
  in_command rows Abort = []

  pub in_commands : List b.Row → Commands → List Occurrence
  in_commands rows NoCommand = []
  in_commands rows (MoreCommand c cs) = in_command rows c ++ in_commands rows cs
