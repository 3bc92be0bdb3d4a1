-- The nodes of each kind of phrase and command, as they are listed.
use Rattle.std.proofs.Common.{◌≡◌, ℕ, suc, ◌+◌, ◌<◌, ◌≤◌, ℤ, Box, Global, List, [], ◌∷◌, ◌++◌, map, drop, get_or, length, refl, sym, ap, ◌∙◌, append_assoc}
use Rattle.std.proofs.lemmas.List.{length-map, append-nil}
use Rattle.homeo_lemmas.proofs.Lists.{map_drop_past}
use Rattle.homeo_syntax.specs.Key.{definitions as syntax_definitions}
use Rattle.homeo_syntax.specs.Listed.{Listed}
use Rattle.homeo_syntax.specs.Low as l
use Rattle.homeo_syntax.specs.declared.phrase.Compare.{Compare as Comparison}
use Rattle.homeo_syntax.specs.declared.low.Temp as t
use Rattle.homeo_syntax.specs.declared.low.SplitName.{SplitName}
use Rattle.homeo_syntax.specs.declared.low.LExpr.{LExpr, Literal, Temp, Read, Sum, Product, Neg}
use Rattle.homeo_syntax.specs.declared.low.LTest.{LTest, True, Not, Compare}
use Rattle.homeo_syntax.specs.declared.low.LCond.{LCond, out-LCond}
use Rattle.homeo_syntax.specs.declared.low.LCommand.{LCommand, Skip, Assign, Write, Print, Seq, If}
use Rattle.homeo_syntax.specs.LowView.{low_exprs, low_tests, low_commands, plain_lexpr, plain_ltest, plain_lcond, plain_lcommand}
use Rattle.homeo_syntax.proofs.LowViews.{low_Literal, low_Temp, low_Read, low_Sum, low_Product, low_Neg, low_True, low_Not, low_Compare, low_conjunction, low_Skip, low_Assign, low_Write, low_Print, low_Seq, low_If}
use Rattle.homeo_meaning.proofs.Steps.{drop_next}
use Rattle.homeo_certificate.specs.Key.{definitions}
use Rattle.homeo_certificate.specs.declared.nodes.Node.TheVariants as node
use Rattle.homeo_certificate.specs.Nodes.{name_node, write_node, expr_count, test_count, command_count, expr_nodes, exprs_nodes, test_nodes, cond_nodes, command_nodes, commands_nodes}

-- ---- how many
pub exprs_counted : (es : List l.Expr) → expr_count (low_exprs es) ≡ length es
unfolding definitions syntax_definitions
exprs_counted [] = refl
exprs_counted (e ∷ es) = ap suc (exprs_counted es)

pub tests_counted : (ts : List l.Test) → test_count (low_tests ts) ≡ length ts
unfolding definitions syntax_definitions
tests_counted [] = refl
tests_counted (e ∷ es) = ap suc (tests_counted es)

pub commands_counted : (cs : List l.Command) → command_count (low_commands cs) ≡ length cs
unfolding definitions syntax_definitions
commands_counted [] = refl
commands_counted (e ∷ es) = ap suc (commands_counted es)

expr_items : (es : List LExpr) → expr_count (low_exprs (map plain_lexpr es)) ≡ length es
expr_items es = exprs_counted (map plain_lexpr es) ∙ length-map es plain_lexpr

command_items : (cs : List LCommand) → command_count (low_commands (map plain_lcommand cs)) ≡ length cs
command_items cs = commands_counted (map plain_lcommand cs) ∙ length-map cs plain_lcommand

test_items : (ts : List LTest) → test_count (low_tests (map plain_ltest ts)) ≡ length ts
test_items ts = tests_counted (map plain_ltest ts) ∙ length-map ts plain_ltest

-- ---- each kind
pub list_Literal : (n : ℤ) → expr_nodes (plain_lexpr (Literal n)) ≡ node.Literal n ∷ []
unfolding definitions
list_Literal n = ap expr_nodes (low_Literal n)

pub list_Temp : (u : t.Temp) → expr_nodes (plain_lexpr (Temp u)) ≡ node.Temp u ∷ []
unfolding definitions
list_Temp u = ap expr_nodes (low_Temp u)

pub list_Read : (x : SplitName) → expr_nodes (plain_lexpr (Read x)) ≡ name_node x ∷ []
unfolding definitions
list_Read x = ap expr_nodes (low_Read x)

pub list_Sum : (es : Listed LExpr) → expr_nodes (plain_lexpr (Sum es)) ≡ node.Sum (length es.items) ∷ exprs_nodes (low_exprs (map plain_lexpr es.items))
unfolding definitions
list_Sum es = ap expr_nodes (low_Sum es) ∙ ap (λ n. node.Sum n ∷ exprs_nodes (low_exprs (map plain_lexpr es.items))) (expr_items es.items)

pub list_Product : (es : Listed LExpr) → expr_nodes (plain_lexpr (Product es)) ≡ node.Product (length es.items) ∷ exprs_nodes (low_exprs (map plain_lexpr es.items))
unfolding definitions
list_Product es = ap expr_nodes (low_Product es) ∙ ap (λ n. node.Product n ∷ exprs_nodes (low_exprs (map plain_lexpr es.items))) (expr_items es.items)

pub list_Neg : (e : Box LExpr Global) → expr_nodes (plain_lexpr (Neg e)) ≡ node.Neg ∷ expr_nodes (plain_lexpr e.value)
unfolding definitions
list_Neg e = ap expr_nodes (low_Neg e)

pub ruleset expr_listings = (list_Literal, list_Temp, list_Read, list_Sum, list_Product, list_Neg, append_assoc)

pub list_True : test_nodes (plain_ltest True) ≡ node.True ∷ []
unfolding definitions
list_True = ap test_nodes low_True

pub list_Not : (c : LCond) → test_nodes (plain_ltest (Not c)) ≡ node.Not (test_count (plain_lcond c)) ∷ cond_nodes (plain_lcond c)
unfolding definitions
list_Not c = ap test_nodes (low_Not c)

pub list_Compare : (op : Comparison) (a : LExpr) (b : LExpr) → test_nodes (plain_ltest (Compare op a b)) ≡ node.Comparison op ∷ (expr_nodes (plain_lexpr a) ++ expr_nodes (plain_lexpr b))
unfolding definitions
list_Compare op a b = ap test_nodes (low_Compare op a b)

pub tests_in : (c : LCond) → test_count (plain_lcond c) ≡ length (out-LCond c).tests.items
tests_in c = ap test_count (low_conjunction c) ∙ test_items (out-LCond c).tests.items

pub list_tests : (c : LCond) → cond_nodes (plain_lcond c) ≡ cond_nodes (low_tests (map plain_ltest (out-LCond c).tests.items))
list_tests c = ap cond_nodes (low_conjunction c)

pub ruleset test_listings = (list_True, list_Not, list_Compare, tests_in, list_tests, append_assoc)

pub list_Skip : command_nodes (plain_lcommand Skip) ≡ node.Skip ∷ []
unfolding definitions
list_Skip = ap command_nodes low_Skip

pub list_Assign : (u : t.Temp) (e : LExpr) → command_nodes (plain_lcommand (Assign u e)) ≡ node.Assign ∷ node.Temp u ∷ expr_nodes (plain_lexpr e)
unfolding definitions
list_Assign u e = ap command_nodes (low_Assign u e)

pub list_Write : (x : SplitName) (e : LExpr) → command_nodes (plain_lcommand (Write x e)) ≡ write_node x ∷ expr_nodes (plain_lexpr e)
unfolding definitions
list_Write x e = ap command_nodes (low_Write x e)

pub list_Print : (e : LExpr) → command_nodes (plain_lcommand (Print e)) ≡ node.Print ∷ expr_nodes (plain_lexpr e)
unfolding definitions
list_Print e = ap command_nodes (low_Print e)

pub list_Seq : (cs : Listed LCommand) → command_nodes (plain_lcommand (Seq cs)) ≡ node.Seq (length cs.items) ∷ commands_nodes (low_commands (map plain_lcommand cs.items))
unfolding definitions
list_Seq cs = ap command_nodes (low_Seq cs) ∙ ap (λ n. node.Seq n ∷ commands_nodes (low_commands (map plain_lcommand cs.items))) (command_items cs.items)

pub list_If : (test : LCond) (c d : Box LCommand Global) →
    command_nodes (plain_lcommand (If test c d)) ≡ node.If (test_count (plain_lcond test)) ∷ (cond_nodes (plain_lcond test) ++ (command_nodes (plain_lcommand c.value) ++ command_nodes (plain_lcommand d.value)))
unfolding definitions
list_If test c d = ap command_nodes (low_If test c d)

pub ruleset command_listings = (list_Skip, list_Assign, list_Write, list_Print, list_Seq, list_If, append_assoc)

-- ---- one after another
-- the nodes of a list are those of each item, one after another
pub record Lists {X P N : Type 0} (plain : X → P) (all : List P → List N) (each : P → List N) : Type 0 where
  pub more : (p : P) (ps : List P) → all (p ∷ ps) ≡ each p ++ all ps
  pub none : all [] ≡ []

pub exprs_listed : Lists plain_lexpr (λ es. exprs_nodes (low_exprs es)) expr_nodes
unfolding definitions syntax_definitions
exprs_listed = record { more = λ e es. refl; none = refl }

pub tests_listed : Lists plain_ltest (λ ts. cond_nodes (low_tests ts)) test_nodes
unfolding definitions syntax_definitions
tests_listed = record { more = λ t ts. refl; none = refl }

pub commands_listed : Lists plain_lcommand (λ cs. commands_nodes (low_commands cs)) command_nodes
unfolding definitions syntax_definitions
commands_listed = record { more = λ c cs. refl; none = refl }

module _ {X P N : Type 0} {plain : X → P} {all : List P → List N} {each : P → List N} (lists : Lists plain all each) (xs : List X) (i : ℕ) where
  -- what was listed after some nodes, with the first of what is left put behind it
  pub one_more : (x : X) (before now new : List N) → i < length xs → x ≡ get_or xs i x → new ≡ now ++ each (plain x) →
      now ++ all (map plain (drop i xs)) ≡ before ++ all (map plain xs) → new ++ all (map plain (drop (i + 1) xs)) ≡ before ++ all (map plain xs)
  one_more x before now new within is put so =
      let rest = all (map plain (drop (i + 1) xs)) in
      ap (λ l. l ++ rest) put ∙ append_assoc now (each (plain x)) rest
      ∙ ap (λ l. now ++ l) (sym (ap all (drop_next plain xs i x within is) ∙ lists.more (plain x) (map plain (drop (i + 1) xs)))) ∙ so

  pub none_left : (before now : List N) → length xs ≤ i → now ++ all (map plain (drop i xs)) ≡ before ++ all (map plain xs) → now ≡ before ++ all (map plain xs)
  none_left before now past so = sym (append-nil now) ∙ ap (λ l. now ++ l) (sym (ap all (map_drop_past plain xs i past) ∙ lists.none)) ∙ so
