-- What stands for each kind of phrase and command at its site, as equations, which code rewrites by.
use Rattle.std.proofs.Common.{◌≡◌, ℕ, ℤ, pos, Some, None, List, [], ◌∷◌, map, refl, ap}
use Rattle.homeo_syntax.specs.Key.{definitions as syntax_definitions}
use Rattle.homeo_syntax.specs.LowView.{low_exprs, low_commands}
use Rattle.homeo_syntax.specs.Low as l
use Rattle.homeo_syntax.specs.declared.low.Temp.{Temp}
use Rattle.homeo_syntax.specs.declared.low.SplitName.{SplitName}
use Rattle.homeo_effect.specs.Key.{definitions}
use Rattle.homeo_effect.specs.Touched.{with_delta, written}
use Rattle.homeo_effect.specs.Localized.{literal_or, literal_sum, literal_product, summed, multiplied, negated, local_read, local_expr, local_exprs, local_command, localized}

-- ---- phrases
pub local_low_exprs : (b : ℕ → ℤ) (i : ℕ) (es : List l.Expr) → local_exprs b i (low_exprs es) ≡ low_exprs (map (local_expr b i) es)
unfolding definitions syntax_definitions
local_low_exprs b i [] = refl
local_low_exprs b i (e ∷ es) = ap (l.MoreExpr (local_expr b i e)) (local_low_exprs b i es)

pub local_Literal : (b : ℕ → ℤ) (i : ℕ) (n : ℤ) → local_expr b i (l.Literal n) ≡ l.Literal n
unfolding definitions
local_Literal b i n = refl

pub local_OfTemp : (b : ℕ → ℤ) (i : ℕ) (t : Temp) → local_expr b i (l.OfTemp t) ≡ l.OfTemp t
unfolding definitions
local_OfTemp b i t = refl

pub local_Read : (b : ℕ → ℤ) (i : ℕ) (x : SplitName) → local_expr b i (l.Read x) ≡ local_read b i x
unfolding definitions
local_Read b i x = refl

pub local_Sum : (b : ℕ → ℤ) (i : ℕ) (es : List l.Expr) → local_expr b i (l.Sum (low_exprs es)) ≡ summed (low_exprs (map (local_expr b i) es))
unfolding definitions
local_Sum b i es = ap summed (local_low_exprs b i es)

pub local_Product : (b : ℕ → ℤ) (i : ℕ) (es : List l.Expr) → local_expr b i (l.Product (low_exprs es)) ≡ multiplied (low_exprs (map (local_expr b i) es))
unfolding definitions
local_Product b i es = ap multiplied (local_low_exprs b i es)

pub local_Neg : (b : ℕ → ℤ) (i : ℕ) (e : l.Expr) → local_expr b i (l.Neg e) ≡ negated (local_expr b i e)
unfolding definitions
local_Neg b i e = refl

pub ruleset phrases = (local_Literal, local_OfTemp, local_Read, local_Sum, local_Product, local_Neg)

-- ---- literals
pub summed_Some : (es : l.Exprs) (n : ℤ) → Some n ≡ literal_sum (pos 0) es → l.Literal n ≡ summed es
unfolding definitions
summed_Some es n h = ap (λ o. literal_or o (l.Sum es)) h

pub summed_None : (es : l.Exprs) → None ≡ literal_sum (pos 0) es → l.Sum es ≡ summed es
unfolding definitions
summed_None es h = ap (λ o. literal_or o (l.Sum es)) h

pub multiplied_Some : (es : l.Exprs) (n : ℤ) → Some n ≡ literal_product (pos 1) es → l.Literal n ≡ multiplied es
unfolding definitions
multiplied_Some es n h = ap (λ o. literal_or o (l.Product es)) h

pub multiplied_None : (es : l.Exprs) → None ≡ literal_product (pos 1) es → l.Product es ≡ multiplied es
unfolding definitions
multiplied_None es h = ap (λ o. literal_or o (l.Product es)) h

pub ruleset literals = (summed_Some, summed_None, multiplied_Some, multiplied_None)

-- ---- commands
pub local_Skip : (b : ℕ → ℤ) (i : ℕ) → local_command b i l.Skip ≡ l.Skip
unfolding definitions
local_Skip b i = refl

pub local_Assign : (b : ℕ → ℤ) (i : ℕ) (t : Temp) (e : l.Expr) → local_command b i (l.Assign t e) ≡ l.Assign t (local_expr b i e)
unfolding definitions
local_Assign b i t e = refl

pub local_Write : (b : ℕ → ℤ) (i : ℕ) (x : SplitName) (e : l.Expr) → local_command b i (l.Write x e) ≡ l.Write x (local_expr b i e)
unfolding definitions
local_Write b i x e = refl

pub local_Print : (b : ℕ → ℤ) (i : ℕ) (e : l.Expr) → local_command b i (l.Print e) ≡ l.Print (local_expr b i e)
unfolding definitions
local_Print b i e = refl

pub local_Seq : (b : ℕ → ℤ) (i : ℕ) (cs : l.Commands) → local_command b i (l.Seq cs) ≡ l.Seq cs
unfolding definitions
local_Seq b i cs = refl

pub local_If : (b : ℕ → ℤ) (i : ℕ) (test : l.Cond) (c d : l.Command) → local_command b i (l.If test c d) ≡ l.If test c d
unfolding definitions
local_If b i test c d = refl

pub ruleset commands = (local_Skip, local_Assign, local_Write, local_Print, local_Seq, local_If)

pub localized_commands : (b : ℕ → ℤ) (i : ℕ) (cs : List l.Command) → localized b i (low_commands cs) ≡ low_commands (map (local_command b i) cs)
unfolding definitions syntax_definitions
localized_commands b i [] = refl
localized_commands b i (c ∷ cs) = ap (l.MoreCommand (local_command b i c)) (localized_commands b i cs)

-- ---- the deltas that a command writes
pub writes_Skip : written (low_commands (l.Skip ∷ [])) ≡ []
unfolding definitions syntax_definitions
writes_Skip = refl

pub writes_Assign : (t : Temp) (e : l.Expr) → written (low_commands (l.Assign t e ∷ [])) ≡ []
unfolding definitions syntax_definitions
writes_Assign t e = refl

pub writes_Write : (x : SplitName) (e : l.Expr) → written (low_commands (l.Write x e ∷ [])) ≡ with_delta x []
unfolding definitions syntax_definitions
writes_Write x e = refl

pub writes_Print : (e : l.Expr) → written (low_commands (l.Print e ∷ [])) ≡ []
unfolding definitions syntax_definitions
writes_Print e = refl

pub writes_Seq : (cs : l.Commands) → written (low_commands (l.Seq cs ∷ [])) ≡ []
unfolding definitions syntax_definitions
writes_Seq cs = refl

pub writes_If : (test : l.Cond) (c d : l.Command) → written (low_commands (l.If test c d ∷ [])) ≡ []
unfolding definitions syntax_definitions
writes_If test c d = refl

pub ruleset writes = (writes_Skip, writes_Assign, writes_Write, writes_Print, writes_Seq, writes_If)
