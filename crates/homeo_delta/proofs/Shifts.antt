-- The delta transform of each kind of phrase and command as an equation, which code rewrites by.
use Rattle.std.proofs.Common.{◌≡◌, ℕ, ℤ, List, [], ◌∷◌, map, refl, ap}
use Rattle.homeo_syntax.specs.Key.{definitions as syntax_definitions}
use Rattle.homeo_syntax.specs.LowView.{low_exprs, low_tests, low_commands}
use Rattle.homeo_syntax.specs.Low as l
use Rattle.homeo_syntax.specs.declared.phrase.Compare.{Compare}
use Rattle.homeo_syntax.specs.declared.low.Temp.{Temp}
use Rattle.homeo_syntax.specs.declared.low.SplitName.{SplitName}
use Rattle.homeo_plan.specs.Key.{definitions}
use Rattle.homeo_plan.specs.Split.{shift_expr, shift_exprs, shift_read, shift_test, shift_cond, shift_write, shift, shift_all}

shift_low_exprs : (k : ℕ) (es : List l.Expr) → shift_exprs k (low_exprs es) ≡ low_exprs (map (shift_expr k) es)
unfolding definitions syntax_definitions
shift_low_exprs k [] = refl
shift_low_exprs k (e ∷ es) = ap (l.MoreExpr (shift_expr k e)) (shift_low_exprs k es)

shift_low_commands : (k i : ℕ) (cs : List l.Command) → shift_all k i (low_commands cs) ≡ low_commands (map (shift k i) cs)
unfolding definitions syntax_definitions
shift_low_commands k i [] = refl
shift_low_commands k i (c ∷ cs) = ap (l.MoreCommand (shift k i c)) (shift_low_commands k i cs)

-- ---- phrases
pub shift_Literal : (k : ℕ) (n : ℤ) → shift_expr k (l.Literal n) ≡ l.Literal n
unfolding definitions
shift_Literal k n = refl

pub shift_OfTemp : (k : ℕ) (t : Temp) → shift_expr k (l.OfTemp t) ≡ l.OfTemp t
unfolding definitions
shift_OfTemp k t = refl

pub shift_Read : (k : ℕ) (x : SplitName) → shift_expr k (l.Read x) ≡ shift_read k x
unfolding definitions
shift_Read k x = refl

pub shift_Sum : (k : ℕ) (es : List l.Expr) → shift_expr k (l.Sum (low_exprs es)) ≡ l.Sum (low_exprs (map (shift_expr k) es))
unfolding definitions
shift_Sum k es = ap l.Sum (shift_low_exprs k es)

pub shift_Product : (k : ℕ) (es : List l.Expr) → shift_expr k (l.Product (low_exprs es)) ≡ l.Product (low_exprs (map (shift_expr k) es))
unfolding definitions
shift_Product k es = ap l.Product (shift_low_exprs k es)

pub shift_Neg : (k : ℕ) (e : l.Expr) → shift_expr k (l.Neg e) ≡ l.Neg (shift_expr k e)
unfolding definitions
shift_Neg k e = refl

pub shift_True : (k : ℕ) → shift_test k l.True ≡ l.True
unfolding definitions
shift_True k = refl

pub shift_Not : (k : ℕ) (c : l.Cond) → shift_test k (l.Not c) ≡ l.Not (shift_cond k c)
unfolding definitions
shift_Not k c = refl

pub shift_Comparison : (k : ℕ) (op : Compare) (a b : l.Expr) → shift_test k (l.Comparison op a b) ≡ l.Comparison op (shift_expr k a) (shift_expr k b)
unfolding definitions
shift_Comparison k op a b = refl

pub shift_tests : (k : ℕ) (ts : List l.Test) → shift_cond k (low_tests ts) ≡ low_tests (map (shift_test k) ts)
unfolding definitions syntax_definitions
shift_tests k [] = refl
shift_tests k (t ∷ ts) = ap (l.MoreTest (shift_test k t)) (shift_tests k ts)

pub ruleset phrases = (shift_Literal, shift_OfTemp, shift_Read, shift_Sum, shift_Product, shift_Neg, shift_True, shift_Not, shift_Comparison, shift_tests)

-- ---- commands
pub shift_Skip : (k i : ℕ) → shift k i l.Skip ≡ l.Skip
unfolding definitions
shift_Skip k i = refl

pub shift_Assign : (k i : ℕ) (t : Temp) (e : l.Expr) → shift k i (l.Assign t e) ≡ l.Assign t (shift_expr k e)
unfolding definitions
shift_Assign k i t e = refl

pub shift_Write : (k i : ℕ) (x : SplitName) (e : l.Expr) → shift k i (l.Write x e) ≡ shift_write k i x (shift_expr k e)
unfolding definitions
shift_Write k i x e = refl

pub shift_Print : (k i : ℕ) (e : l.Expr) → shift k i (l.Print e) ≡ l.Print (shift_expr k e)
unfolding definitions
shift_Print k i e = refl

pub shift_Seq : (k i : ℕ) (cs : List l.Command) → shift k i (l.Seq (low_commands cs)) ≡ l.Seq (low_commands (map (shift k i) cs))
unfolding definitions
shift_Seq k i cs = ap l.Seq (shift_low_commands k i cs)

pub shift_If : (k i : ℕ) (test : l.Cond) (c d : l.Command) → shift k i (l.If test c d) ≡ l.If (shift_cond k test) (shift k i c) (shift k i d)
unfolding definitions
shift_If k i test c d = refl

pub ruleset commands = (shift_Skip, shift_Assign, shift_Write, shift_Print, shift_Seq, shift_If)
