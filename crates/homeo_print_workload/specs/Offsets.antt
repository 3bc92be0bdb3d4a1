-- Workloads that are the same but for the places at which their parts stood in a text.
use Rattle.std.specs.Prelude.{◌≡◌, List, map, Option, Some, None}
use Rattle.homeo_syntax.specs.declared.phrase.Ident.{Ident}
use Rattle.homeo_syntax.specs.declared.phrase.Number.{Number}
use Rattle.homeo_syntax.specs.declared.workload.ObjectDecl.{ObjectDecl}
use Rattle.homeo_syntax.specs.declared.workload.RangeDecl.{RangeDecl}
use Rattle.homeo_syntax.specs.Source as s
use Rattle.homeo_print_workload.specs.Key.{definitions}

abbrev pub ident_without : Ident → Ident
unfolding definitions
ident_without x = record { name = x.name; offset = 0 }

abbrev pub number_without : Number → Number
unfolding definitions
number_without n = record { value = n.value; offset = 0 }

abbrev mutual
  unfolding definitions

  pub expr_without : s.Expr → s.Expr
  expr_without (s.Literal n) = s.Literal n
  expr_without (s.Name x) = s.Name (ident_without x)
  expr_without (s.Read x) = s.Read (ident_without x)
  expr_without (s.Sum es) = s.Sum (exprs_without es)
  expr_without (s.Product es) = s.Product (exprs_without es)
  expr_without (s.Neg e) = s.Neg (expr_without e)
  expr_without (s.Field relation index field) = s.Field (ident_without relation) (expr_without index) (ident_without field)
  expr_without (s.Row row field) = s.Row (ident_without row) (ident_without field)
  expr_without (s.Count row relation test) = s.Count (ident_without row) (ident_without relation) (cond_without test)
  expr_without (s.Total row field relation test) = s.Total (ident_without row) (ident_without field) (ident_without relation) (cond_without test)

  pub exprs_without : s.Exprs → s.Exprs
  exprs_without s.NoExpr = s.NoExpr
  exprs_without (s.MoreExpr e es) = s.MoreExpr (expr_without e) (exprs_without es)

  pub test_without : s.Test → s.Test
  test_without s.True = s.True
  test_without (s.Not c) = s.Not (cond_without c)
  test_without (s.Comparison op a b) = s.Comparison op (expr_without a) (expr_without b)

  pub cond_without : s.Cond → s.Cond
  cond_without s.NoTest = s.NoTest
  cond_without (s.MoreTest t c) = s.MoreTest (test_without t) (cond_without c)

abbrev pub field_without : s.FieldValue → s.FieldValue
unfolding definitions
field_without f = record { field = ident_without f.field; value = expr_without f.value }

abbrev mutual
  unfolding definitions

  pub command_without : s.Command → s.Command
  command_without s.Skip = s.Skip
  command_without (s.Assign target e) = s.Assign (ident_without target) (expr_without e)
  command_without (s.Write object e) = s.Write (ident_without object) (expr_without e)
  command_without (s.Print e) = s.Print (expr_without e)
  command_without (s.If test c d) = s.If (cond_without test) (command_without c) (command_without d)
  command_without (s.Block cs) = s.Block (commands_without cs)
  command_without (s.SetField relation index field e) = s.SetField (ident_without relation) (expr_without index) (ident_without field) (expr_without e)
  command_without (s.SetRow row field e) = s.SetRow (ident_without row) (ident_without field) (expr_without e)
  command_without (s.Foreach row relation test body) = s.Foreach (ident_without row) (ident_without relation) (cond_without test) (commands_without body)
  command_without (s.Insert relation fields into) = s.Insert (ident_without relation) (map field_without fields) (ident_without into)
  command_without (s.Delete row relation test) = s.Delete (ident_without row) (ident_without relation) (cond_without test)
  command_without (s.Update row relation test field e) = s.Update (ident_without row) (ident_without relation) (cond_without test) (ident_without field) (expr_without e)
  command_without s.Abort = s.Abort

  pub commands_without : s.Commands → s.Commands
  commands_without s.NoCommand = s.NoCommand
  commands_without (s.MoreCommand c cs) = s.MoreCommand (command_without c) (commands_without cs)

abbrev pub object_without : ObjectDecl → ObjectDecl
unfolding definitions
object_without d = record { name = ident_without d.name; lo = number_without d.lo; hi = number_without d.hi; start = number_without d.start }

abbrev pub decl_without : RangeDecl → RangeDecl
unfolding definitions
decl_without d = record { name = ident_without d.name; lo = number_without d.lo; hi = number_without d.hi }

abbrev pub relation_without : s.RelationDecl → s.RelationDecl
unfolding definitions
relation_without r = record { name = ident_without r.name; slots = number_without r.slots; fields = map decl_without r.fields }

abbrev pub transaction_without : s.Transaction → s.Transaction
unfolding definitions
transaction_without t = record { name = ident_without t.name; params = map decl_without t.params; body = commands_without t.body }

abbrev pub call_without : s.Call → s.Call
unfolding definitions
call_without c = record { name = ident_without c.name; args = map number_without c.args }

abbrev pub client_without : s.Client → s.Client
unfolding definitions
client_without c = record { name = ident_without c.name; site = number_without c.site; calls = map call_without c.calls }

abbrev pub schedule_without : Option (List Ident) → Option (List Ident)
unfolding definitions
schedule_without None = None
schedule_without (Some xs) = Some (map ident_without xs)

-- the workload with each offset 0
abbrev pub without_offsets : s.Workload → s.Workload
unfolding definitions
without_offsets w = record {
  version = w.version;
  names = w.names;
  sites = number_without w.sites;
  objects = map object_without w.objects;
  relations = map relation_without w.relations;
  transactions = map transaction_without w.transactions;
  clients = map client_without w.clients;
  schedule = schedule_without w.schedule;
  end = 0;
  weights = map number_without w.weights;
}

-- The workloads differ in offsets at most.
abbrev pub SameButOffsets : s.Workload → s.Workload → Type 0
unfolding definitions
SameButOffsets v w = without_offsets v ≡ without_offsets w
