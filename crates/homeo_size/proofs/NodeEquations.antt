-- The counts of nodes form by form and along lists, as equations, which code rewrites by.
use Rattle.std.proofs.Common.{◌≡◌, ℕ, ℤ, ◌+◌, ◌*◌, ◌≤◌, List, [], ◌∷◌, length, Some, None, refl, arith}
use Rattle.homeo_syntax.specs.Key.{definitions as syntax_definitions}
use Rattle.homeo_syntax.specs.Source as s
use Rattle.homeo_syntax.specs.SourceView.{exprs, tests, commands}
use Rattle.homeo_syntax.specs.declared.phrase.Ident.{Ident}
use Rattle.homeo_syntax.specs.declared.phrase.Compare.{Compare}
use Rattle.homeo_meaning.specs.Context.{Slot, Context, slots, slot_at}
use Rattle.homeo_lform.specs.SourceWrites.{absent_zero, given_field, given}
use Rattle.homeo_size.specs.inner.Key.{definitions}
use Rattle.homeo_size.specs.inner.Nodes.{few, index_nodes, visit_nodes, nodes, all_nodes, test_nodes, tests_nodes, write_nodes, values_nodes, command_nodes, commands_nodes}

-- where there is a slot
pub some_indexed : (all : List Slot) (n : ℕ) → 1 ≤ length all → index_nodes None all n ≡ few (length all + n)
some_indexed [] n h = absurd (omega arith)
some_indexed (slot ∷ more) n h = refl

pub some_written : (all : List Slot) (m n : ℕ) → 1 ≤ length all → write_nodes None all m n ≡ few (length all + few (m + n))
unfolding definitions
some_written [] m n h = absurd (omega arith)
some_written (slot ∷ more) m n h = refl

pub ruleset somewhere = (some_indexed, some_written)

pub nodes_Literal : (x : Context) (n : ℤ) → nodes x (s.Literal n) ≡ 1
unfolding definitions
nodes_Literal x n = refl

pub nodes_Name : (x : Context) (t : Ident) → nodes x (s.Name t) ≡ 1
unfolding definitions
nodes_Name x t = refl

pub nodes_Read : (x : Context) (o : Ident) → nodes x (s.Read o) ≡ 1
unfolding definitions
nodes_Read x o = refl

pub nodes_Sum : (x : Context) (es : s.Exprs) → nodes x (s.Sum es) ≡ few (1 + all_nodes x es 0)
unfolding definitions
nodes_Sum x es = refl

pub nodes_Product : (x : Context) (es : s.Exprs) → nodes x (s.Product es) ≡ few (1 + all_nodes x es 0)
unfolding definitions
nodes_Product x es = refl

pub nodes_Neg : (x : Context) (e : s.Expr) → nodes x (s.Neg e) ≡ few (1 + nodes x e)
unfolding definitions
nodes_Neg x e = refl

pub nodes_Field : (x : Context) (q : Ident) (e : s.Expr) (f : Ident) → nodes x (s.Field q e f) ≡ index_nodes (given x e) (slots x q.name) (nodes x e)
unfolding definitions
nodes_Field x q e f = refl

pub nodes_Row : (x : Context) (r f : Ident) → nodes x (s.Row r f) ≡ 1
unfolding definitions
nodes_Row x r f = refl

pub nodes_Count : (x : Context) (r q : Ident) (c : s.Cond) → nodes x (s.Count r q c) ≡ visit_nodes (slots x q.name) (tests_nodes x c 0)
unfolding definitions
nodes_Count x r q c = refl

pub nodes_Total : (x : Context) (r f q : Ident) (c : s.Cond) → nodes x (s.Total r f q c) ≡ visit_nodes (slots x q.name) (tests_nodes x c 0)
unfolding definitions
nodes_Total x r f q c = refl

pub test_True : (x : Context) → test_nodes x s.True ≡ 1
unfolding definitions
test_True x = refl

pub test_Not : (x : Context) (c : s.Cond) → test_nodes x (s.Not c) ≡ few (1 + tests_nodes x c 0)
unfolding definitions
test_Not x c = refl

pub test_Comparison : (x : Context) (op : Compare) (a b : s.Expr) → test_nodes x (s.Comparison op a b) ≡ few (nodes x a + nodes x b)
unfolding definitions
test_Comparison x op a b = refl

pub all_end : (x : Context) (n : ℕ) → all_nodes x (exprs []) n ≡ n
unfolding definitions syntax_definitions
all_end x n = refl

pub all_more : (x : Context) (n : ℕ) (e : s.Expr) (es : List s.Expr) → all_nodes x (exprs (e ∷ es)) n ≡ all_nodes x (exprs es) (few (n + nodes x e))
unfolding definitions syntax_definitions
all_more x n e es = refl

pub tests_end : (x : Context) (n : ℕ) → tests_nodes x (tests []) n ≡ n
unfolding definitions syntax_definitions
tests_end x n = refl

pub tests_more : (x : Context) (n : ℕ) (t : s.Test) (ts : List s.Test) → tests_nodes x (tests (t ∷ ts)) n ≡ tests_nodes x (tests ts) (few (n + test_nodes x t))
unfolding definitions syntax_definitions
tests_more x n t ts = refl

pub values_end : (x : Context) (n : ℕ) → values_nodes x [] n ≡ n
unfolding definitions
values_end x n = refl

pub values_more : (x : Context) (n : ℕ) (f : s.FieldValue) (fs : List s.FieldValue) → values_nodes x (f ∷ fs) n ≡ values_nodes x fs (few (n + nodes x f.value))
unfolding definitions
values_more x n f fs = refl

pub commands_end : (x : Context) (n : ℕ) → commands_nodes x (commands []) n ≡ n
unfolding definitions syntax_definitions
commands_end x n = refl

pub commands_more : (x : Context) (n : ℕ) (c : s.Command) (cs : List s.Command) → commands_nodes x (commands (c ∷ cs)) n ≡ commands_nodes x (commands cs) (few (n + command_nodes x c))
unfolding definitions syntax_definitions
commands_more x n c cs = refl

pub command_Skip : (x : Context) → command_nodes x s.Skip ≡ 1
unfolding definitions
command_Skip x = refl

pub command_Assign : (x : Context) (t : Ident) (e : s.Expr) → command_nodes x (s.Assign t e) ≡ few (1 + nodes x e)
unfolding definitions
command_Assign x t e = refl

pub command_Write : (x : Context) (o : Ident) (e : s.Expr) → command_nodes x (s.Write o e) ≡ few (1 + nodes x e)
unfolding definitions
command_Write x o e = refl

pub command_Print : (x : Context) (e : s.Expr) → command_nodes x (s.Print e) ≡ few (1 + nodes x e)
unfolding definitions
command_Print x e = refl

pub command_If : (x : Context) (q : s.Cond) (c d : s.Command) → command_nodes x (s.If q c d) ≡ few (tests_nodes x q 0 + few (command_nodes x c + command_nodes x d))
unfolding definitions
command_If x q c d = refl

pub command_Block : (x : Context) (cs : s.Commands) → command_nodes x (s.Block cs) ≡ commands_nodes x cs 1
unfolding definitions
command_Block x cs = refl

pub command_SetField : (x : Context) (q : Ident) (i : s.Expr) (f : Ident) (e : s.Expr) → command_nodes x (s.SetField q i f e) ≡ write_nodes (given x i) (slots x q.name) (nodes x i) (nodes x e)
unfolding definitions
command_SetField x q i f e = refl

pub command_SetRow : (x : Context) (r f : Ident) (e : s.Expr) → command_nodes x (s.SetRow r f e) ≡ few (1 + nodes x e)
unfolding definitions
command_SetRow x r f e = refl

pub command_Foreach : (x : Context) (r q : Ident) (c : s.Cond) (cs : s.Commands) → command_nodes x (s.Foreach r q c cs) ≡ visit_nodes (slots x q.name) (few (tests_nodes x c 0 + commands_nodes x cs 0))
unfolding definitions
command_Foreach x r q c cs = refl

pub command_Insert : (x : Context) (q : Ident) (fs : List s.FieldValue) (t : Ident) → command_nodes x (s.Insert q fs t) ≡ values_nodes x fs (few (1 + length (slots x q.name) * few (1 + length fs)))
unfolding definitions
command_Insert x q fs t = refl

pub command_Delete : (x : Context) (r q : Ident) (c : s.Cond) → command_nodes x (s.Delete r q c) ≡ visit_nodes (slots x q.name) (tests_nodes x c 0)
unfolding definitions
command_Delete x r q c = refl

pub command_Update : (x : Context) (r q : Ident) (c : s.Cond) (f : Ident) (e : s.Expr) → command_nodes x (s.Update r q c f e) ≡ visit_nodes (slots x q.name) (few (tests_nodes x c 0 + nodes x e))
unfolding definitions
command_Update x r q c f e = refl

pub command_Abort : (x : Context) → command_nodes x s.Abort ≡ 2
unfolding definitions
command_Abort x = refl

pub ruleset phrases = (nodes_Literal, nodes_Name, nodes_Read, nodes_Sum, nodes_Product, nodes_Neg, nodes_Field, nodes_Row, nodes_Count, nodes_Total, test_True, test_Not, test_Comparison)

pub ruleset lists = (all_end, all_more, tests_end, tests_more, values_end, values_more, commands_end, commands_more)

pub ruleset steps = (command_Skip, command_Assign, command_Write, command_Print, command_If, command_Block, command_SetField, command_SetRow, command_Foreach, command_Insert, command_Delete, command_Update, command_Abort)

-- ---- literals
pub literal_Literal : (x : Context) (n : ℤ) → given x (s.Literal n) ≡ Some n
unfolding definitions
literal_Literal x n = refl

pub literal_Name : (x : Context) (t : Ident) → given x (s.Name t) ≡ x.arguments t.name
unfolding definitions
literal_Name x t = refl

pub literal_Read : (x : Context) (o : Ident) → given x (s.Read o) ≡ None
unfolding definitions
literal_Read x o = refl

pub literal_Sum : (x : Context) (es : s.Exprs) → given x (s.Sum es) ≡ None
unfolding definitions
literal_Sum x es = refl

pub literal_Product : (x : Context) (es : s.Exprs) → given x (s.Product es) ≡ None
unfolding definitions
literal_Product x es = refl

pub literal_Neg : (x : Context) (e : s.Expr) → given x (s.Neg e) ≡ None
unfolding definitions
literal_Neg x e = refl

pub literal_Field : (x : Context) (q : Ident) (e : s.Expr) (f : Ident) → given x (s.Field q e f) ≡ given_field (given x e) (slots x q.name)
unfolding definitions
literal_Field x q e f = refl

pub literal_Row : (x : Context) (r f : Ident) → given x (s.Row r f) ≡ None
unfolding definitions
literal_Row x r f = refl

pub literal_Count : (x : Context) (r q : Ident) (c : s.Cond) → given x (s.Count r q c) ≡ None
unfolding definitions
literal_Count x r q c = refl

pub literal_Total : (x : Context) (r f q : Ident) (c : s.Cond) → given x (s.Total r f q c) ≡ None
unfolding definitions
literal_Total x r f q c = refl

pub missing_found : (v : ℤ) (all : List Slot) → given_field (Some v) all ≡ absent_zero (slot_at v all)
unfolding definitions
missing_found v all = refl

pub missing_none : (all : List Slot) → given_field None all ≡ None
unfolding definitions
missing_none all = refl

pub ruleset literals = (literal_Literal, literal_Name, literal_Read, literal_Sum, literal_Product, literal_Neg, literal_Field, literal_Row, literal_Count, literal_Total, missing_found, missing_none)
