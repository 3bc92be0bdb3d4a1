-- The tokens that a workload is printed as.
use Rattle.std.specs.Prelude.{ℕ, ℤ, pos, negsuc, suc, List, [], ◌∷◌, ◌++◌, map, Option, Some, None}
use Rattle.std.specs.List.{flat_map}
use Rattle.homeo_syntax.specs.declared.token.Mark.{Mark}
use Rattle.homeo_syntax.specs.declared.token.Mark.TheVariants as mark
use Rattle.homeo_syntax.specs.declared.token.Kind.{Kind}
use Rattle.homeo_syntax.specs.declared.token.Kind.TheVariants as kind
use Rattle.homeo_syntax.specs.declared.phrase.Ident.{Ident}
use Rattle.homeo_syntax.specs.declared.phrase.Number.{Number}
use Rattle.homeo_syntax.specs.declared.phrase.Compare.{Compare}
use Rattle.homeo_syntax.specs.declared.phrase.Compare.TheVariants as compare
use Rattle.homeo_syntax.specs.declared.workload.ObjectDecl.{ObjectDecl}
use Rattle.homeo_syntax.specs.declared.workload.RangeDecl.{RangeDecl}
use Rattle.homeo_syntax.specs.Source as s
use Rattle.homeo_print.specs.Parentheses.{Level, Alone, AsTerm, AsFactor, around_sum, around_product}
use Rattle.homeo_print_workload.specs.Key.{definitions}

abbrev pub Kinds : Type 0
Kinds = List Kind

-- ---- single tokens
abbrev pub mark_of : Mark → Kinds
mark_of m = kind.Fixed m ∷ []

abbrev pub name_of : Ident → Kinds
name_of x = kind.Name x.name ∷ []

-- a number, behind its sign where it is negative
abbrev pub value_of : ℤ → Kinds
value_of (pos n) = kind.Number (pos n) ∷ []
value_of (negsuc n) = kind.Fixed mark.Minus ∷ kind.Number (pos (suc n)) ∷ []

abbrev pub number_of : Number → Kinds
unfolding definitions
number_of n = value_of n.value

abbrev pub parenthesised : Kinds → Kinds
parenthesised ks = kind.Fixed mark.Open ∷ (ks ++ kind.Fixed mark.Close ∷ [])

abbrev pub braced : Kinds → Kinds
braced ks = kind.Fixed mark.OpenBrace ∷ (ks ++ kind.Fixed mark.CloseBrace ∷ [])

-- phrases with a mark between each two
abbrev pub led : Mark → List Kinds → Kinds
led m [] = []
led m (ks ∷ more) = kind.Fixed m ∷ (ks ++ led m more)

abbrev pub separated : Mark → List Kinds → Kinds
unfolding definitions
separated m [] = []
separated m (ks ∷ more) = ks ++ led m more

-- ---- expressions
abbrev pub comparison_mark : Compare → Mark
comparison_mark compare.Less = mark.Less
comparison_mark compare.LessEqual = mark.LessEqual
comparison_mark compare.Equal = mark.Equal

abbrev mutual
  unfolding definitions

  pub expr_at : Level → s.Expr → Kinds
  expr_at l (s.Literal n) = value_of n
  expr_at l (s.Name x) = name_of x
  expr_at l (s.Read x) = kind.Fixed mark.Read ∷ parenthesised (name_of x)
  expr_at l (s.Sum es) = around_sum parenthesised l (sum_kinds es)
  expr_at l (s.Product es) = around_product parenthesised l (product_kinds es)
  expr_at l (s.Neg e) = kind.Fixed mark.Minus ∷ expr_at AsFactor e
  expr_at l (s.Field relation index field) =
      name_of relation ++ kind.Fixed mark.OpenBracket ∷ (expr_at Alone index ++ kind.Fixed mark.CloseBracket ∷ kind.Fixed mark.Dot ∷ name_of field)
  expr_at l (s.Row row field) = name_of row ++ kind.Fixed mark.Dot ∷ name_of field
  expr_at l (s.Count row relation test) =
      kind.Fixed mark.Count ∷ parenthesised (name_of row ++ kind.Fixed mark.Of ∷ (name_of relation ++ kind.Fixed mark.When ∷ cond_kinds test))
  expr_at l (s.Total row field relation test) =
      kind.Fixed mark.Sum ∷ parenthesised (name_of row ++ kind.Fixed mark.Dot ∷ (name_of field ++ kind.Fixed mark.Of ∷ (name_of relation ++ kind.Fixed mark.When ∷ cond_kinds test)))

  pub sum_kinds : s.Exprs → Kinds
  sum_kinds s.NoExpr = []
  sum_kinds (s.MoreExpr e es) = expr_at AsTerm e ++ later_terms es

  -- a negation behind another term is a minus and what it negates
  pub later_terms : s.Exprs → Kinds
  later_terms s.NoExpr = []
  later_terms (s.MoreExpr (s.Neg e) es) = kind.Fixed mark.Minus ∷ (expr_at AsTerm e ++ later_terms es)
  later_terms (s.MoreExpr e es) = kind.Fixed mark.Plus ∷ (expr_at AsTerm e ++ later_terms es)

  pub product_kinds : s.Exprs → Kinds
  product_kinds s.NoExpr = []
  product_kinds (s.MoreExpr e es) = expr_at AsFactor e ++ later_factors es

  pub later_factors : s.Exprs → Kinds
  later_factors s.NoExpr = []
  later_factors (s.MoreExpr e es) = kind.Fixed mark.Star ∷ (expr_at AsFactor e ++ later_factors es)

  pub test_kinds : s.Test → Kinds
  test_kinds s.True = mark_of mark.True
  test_kinds (s.Not c) = kind.Fixed mark.Not ∷ parenthesised (cond_kinds c)
  test_kinds (s.Comparison op a b) = expr_at Alone a ++ kind.Fixed (comparison_mark op) ∷ expr_at Alone b

  pub cond_kinds : s.Cond → Kinds
  cond_kinds s.NoTest = []
  cond_kinds (s.MoreTest t c) = test_kinds t ++ later_tests c

  pub later_tests : s.Cond → Kinds
  later_tests s.NoTest = []
  later_tests (s.MoreTest t c) = kind.Fixed mark.And ∷ (test_kinds t ++ later_tests c)

-- an expression by itself
abbrev pub expr_kinds : s.Expr → Kinds
unfolding definitions
expr_kinds e = expr_at Alone e

-- ---- commands
-- name = expression
abbrev pub setting_kinds : s.FieldValue → Kinds
unfolding definitions
setting_kinds f = name_of f.field ++ kind.Fixed mark.Equal ∷ expr_kinds f.value

-- row of relation when condition
abbrev pub rows_kinds : Ident → Ident → s.Cond → Kinds
unfolding definitions
rows_kinds row relation test = name_of row ++ kind.Fixed mark.Of ∷ (name_of relation ++ kind.Fixed mark.When ∷ cond_kinds test)

abbrev mutual
  unfolding definitions

  pub command_kinds : s.Command → Kinds
  command_kinds s.Skip = mark_of mark.Skip
  command_kinds (s.Assign target e) = name_of target ++ kind.Fixed mark.Assign ∷ expr_kinds e
  command_kinds (s.Write object e) = kind.Fixed mark.Write ∷ parenthesised (name_of object ++ kind.Fixed mark.Equal ∷ expr_kinds e)
  command_kinds (s.Print e) = kind.Fixed mark.Print ∷ parenthesised (expr_kinds e)
  command_kinds (s.If test c d) =
      kind.Fixed mark.If ∷ (cond_kinds test ++ kind.Fixed mark.Then ∷ (command_kinds c ++ kind.Fixed mark.Else ∷ command_kinds d))
  command_kinds (s.Block cs) = braced (commands_kinds cs)
  command_kinds (s.SetField relation index field e) =
      name_of relation ++ kind.Fixed mark.OpenBracket ∷ (expr_kinds index ++ kind.Fixed mark.CloseBracket ∷ kind.Fixed mark.Dot ∷ (name_of field ++ kind.Fixed mark.Assign ∷ expr_kinds e))
  command_kinds (s.SetRow row field e) = name_of row ++ kind.Fixed mark.Dot ∷ (name_of field ++ kind.Fixed mark.Assign ∷ expr_kinds e)
  command_kinds (s.Foreach row relation test body) = kind.Fixed mark.Foreach ∷ (rows_kinds row relation test ++ braced (commands_kinds body))
  command_kinds (s.Insert relation fields into) =
      kind.Fixed mark.Insert ∷ (name_of relation ++ (parenthesised (separated mark.Comma (map setting_kinds fields)) ++ kind.Fixed mark.Into ∷ name_of into))
  command_kinds (s.Delete row relation test) = kind.Fixed mark.Delete ∷ rows_kinds row relation test
  command_kinds (s.Update row relation test field e) =
      kind.Fixed mark.Update ∷ (rows_kinds row relation test ++ kind.Fixed mark.Set ∷ (name_of field ++ kind.Fixed mark.Equal ∷ expr_kinds e))
  command_kinds s.Abort = mark_of mark.Abort

  pub commands_kinds : s.Commands → Kinds
  commands_kinds s.NoCommand = []
  commands_kinds (s.MoreCommand c cs) = command_kinds c ++ later_commands cs

  pub later_commands : s.Commands → Kinds
  later_commands s.NoCommand = []
  later_commands (s.MoreCommand c cs) = kind.Fixed mark.Semicolon ∷ (command_kinds c ++ later_commands cs)

-- ---- declarations
abbrev pub range_kinds : Number → Number → Kinds
unfolding definitions
range_kinds lo hi = number_of lo ++ kind.Fixed mark.Dots ∷ number_of hi

abbrev pub object_kinds : ObjectDecl → Kinds
unfolding definitions
object_kinds d =
    kind.Fixed mark.Object ∷ (name_of d.name ++ kind.Fixed mark.In ∷ (range_kinds d.lo d.hi ++ kind.Fixed mark.Equal ∷ number_of d.start))

abbrev pub decl_kinds : RangeDecl → Kinds
unfolding definitions
decl_kinds d = name_of d.name ++ kind.Fixed mark.In ∷ range_kinds d.lo d.hi

abbrev pub relation_kinds : s.RelationDecl → Kinds
unfolding definitions
relation_kinds r =
    kind.Fixed mark.Relation ∷ (name_of r.name ++ kind.Fixed mark.OpenBracket ∷ (number_of r.slots ++ kind.Fixed mark.CloseBracket ∷ parenthesised (separated mark.Comma (map decl_kinds r.fields))))

abbrev pub transaction_kinds : s.Transaction → Kinds
unfolding definitions
transaction_kinds t =
    kind.Fixed mark.Transaction ∷ (name_of t.name ++ (parenthesised (separated mark.Comma (map decl_kinds t.params)) ++ braced (commands_kinds t.body)))

abbrev pub call_kinds : s.Call → Kinds
unfolding definitions
call_kinds c = name_of c.name ++ parenthesised (separated mark.Comma (map number_of c.args))

abbrev pub client_kinds : s.Client → Kinds
unfolding definitions
client_kinds c =
    kind.Fixed mark.Client ∷ (name_of c.name ++ kind.Fixed mark.At ∷ (number_of c.site ++ braced (separated mark.Semicolon (map call_kinds c.calls))))

abbrev pub schedule_kinds : Option (List Ident) → Kinds
unfolding definitions
schedule_kinds None = []
schedule_kinds (Some xs) = kind.Fixed mark.Schedule ∷ flat_map name_of xs

-- the weights, where there are some
abbrev pub weights_kinds : List Number → Kinds
unfolding definitions
weights_kinds [] = []
weights_kinds (n ∷ ns) = kind.Fixed mark.Weights ∷ separated mark.Comma (map number_of (n ∷ ns))

abbrev pub head_kinds : ℕ → Number → List Number → Kinds
unfolding definitions
head_kinds version sites weights =
    kind.Fixed mark.Workload ∷ kind.Number (pos version) ∷ kind.Fixed mark.Sites ∷ (number_of sites ++ weights_kinds weights)

-- the tokens of a workload, in order
abbrev pub workload_kinds : s.Workload → Kinds
unfolding definitions
workload_kinds w =
    head_kinds w.version w.sites w.weights
    ++ (flat_map object_kinds w.objects
    ++ (flat_map relation_kinds w.relations
    ++ (flat_map transaction_kinds w.transactions
    ++ (flat_map client_kinds w.clients
    ++ (schedule_kinds w.schedule
    ++ mark_of mark.End)))))
