-- The texts of each kind of expression and test over split names as they are made.
use Rattle.std.proofs.Common.{◌≡◌, ℕ, ℤ, ◌+◌, ◌<◌, List, [], ◌∷◌, ◌++◌, length, map, take, get_or, append_assoc, refl, ap, ◌∙◌, arith}
use Rattle.std.specs.Prelude.{codes, decimal}
use Rattle.std.specs.Fmt.{signed_decimal}
use Rattle.std.specs.List.{flat_map}
use Rattle.homeo_syntax.specs.Key.{definitions as syntax_definitions}
use Rattle.homeo_syntax.specs.Source as s
use Rattle.homeo_syntax.specs.Low as l
use Rattle.homeo_syntax.specs.LowView.{low_exprs, low_tests, plain_lexpr, plain_ltest}
use Rattle.homeo_syntax.specs.declared.phrase.Compare.{Compare}
use Rattle.homeo_syntax.specs.declared.phrase.Compare.TheVariants as compare
use Rattle.homeo_syntax.specs.declared.low.Temp.{Temp}
use Rattle.homeo_syntax.specs.declared.low.Temp.TheVariants.{Fresh}
use Rattle.homeo_syntax.specs.declared.low.SplitName.{SplitName}
use Rattle.homeo_syntax.specs.declared.low.SplitName.TheVariants.{Whole, Base, Delta}
use Rattle.homeo_syntax.specs.declared.low.LExpr.{LExpr}
use Rattle.homeo_syntax.specs.declared.low.LTest.{LTest}
use Rattle.homeo_print.specs.declared.position.Position.{Position}
use Rattle.homeo_print.specs.declared.position.Position.TheVariants as position
use Rattle.homeo_print.specs.Key.{definitions}
use Rattle.homeo_print.specs.Names.{name_at, object_names}
use Rattle.homeo_print.specs.Parentheses.{AsTerm, AsFactor}
use Rattle.homeo_print.specs.Tables.{temp_text, split_name_text, expr_at, sum_text, later_terms, product_text, later_factors, comparison_text, test_text, cond_text, later_tests}
use Rattle.homeo_print.specs.inner.Walk.{expr_text_in, sign_text}
use Rattle.homeo_print.proofs.Listed.{flat_more}

-- ---- single names
pub temp_Fresh : (w : s.Workload) (n : ℕ) → temp_text w (Fresh n) ≡ codes "$" ++ decimal n
unfolding definitions
temp_Fresh w n = refl

pub name_Whole : (w : s.Workload) (x : ℕ) → split_name_text w (Whole x) ≡ name_at (object_names w) x
unfolding definitions
name_Whole w x = refl

pub name_Base : (w : s.Workload) (x : ℕ) → split_name_text w (Base x) ≡ codes "base(" ++ name_at (object_names w) x ++ codes ")"
unfolding definitions
name_Base w x = refl

pub name_Delta : (w : s.Workload) (x j : ℕ) → split_name_text w (Delta x j) ≡ name_at (object_names w) x ++ codes "@" ++ decimal j
unfolding definitions
name_Delta w x j = refl

pub ruleset name_steps = (append_assoc, temp_Fresh, name_Whole, name_Base, name_Delta)

-- ---- signs
pub sign_Literal : (n : ℤ) → sign_text (l.Literal n) ≡ codes " + "
unfolding definitions
sign_Literal n = refl

pub sign_Temp : (t : Temp) → sign_text (l.OfTemp t) ≡ codes " + "
unfolding definitions
sign_Temp t = refl

pub sign_Read : (x : SplitName) → sign_text (l.Read x) ≡ codes " + "
unfolding definitions
sign_Read x = refl

pub sign_Sum : (es : l.Exprs) → sign_text (l.Sum es) ≡ codes " + "
unfolding definitions
sign_Sum es = refl

pub sign_Product : (es : l.Exprs) → sign_text (l.Product es) ≡ codes " + "
unfolding definitions
sign_Product es = refl

pub sign_Neg : (e : l.Expr) → sign_text (l.Neg e) ≡ codes " - "
unfolding definitions
sign_Neg e = refl

pub ruleset signs = (sign_Literal, sign_Temp, sign_Read, sign_Sum, sign_Product, sign_Neg)

-- ---- expressions at a position
pub in_Literal : (w : s.Workload) (p : Position) (n : ℤ) → expr_text_in w p (l.Literal n) ≡ signed_decimal n
unfolding definitions
in_Literal w position.Alone n = refl
in_Literal w position.AsTerm n = refl
in_Literal w position.AsFactor n = refl
in_Literal w position.Signed n = refl

pub in_Temp : (w : s.Workload) (p : Position) (t : Temp) → expr_text_in w p (l.OfTemp t) ≡ temp_text w t
unfolding definitions
in_Temp w position.Alone t = refl
in_Temp w position.AsTerm t = refl
in_Temp w position.AsFactor t = refl
in_Temp w position.Signed t = refl

pub in_Read : (w : s.Workload) (p : Position) (x : SplitName) → expr_text_in w p (l.Read x) ≡ split_name_text w x
unfolding definitions
in_Read w position.Alone x = refl
in_Read w position.AsTerm x = refl
in_Read w position.AsFactor x = refl
in_Read w position.Signed x = refl

pub in_Sum_Alone : (w : s.Workload) (es : l.Exprs) → expr_text_in w position.Alone (l.Sum es) ≡ sum_text w es
unfolding definitions
in_Sum_Alone w es = refl

pub in_Sum_AsTerm : (w : s.Workload) (es : l.Exprs) → expr_text_in w position.AsTerm (l.Sum es) ≡ codes "(" ++ sum_text w es ++ codes ")"
unfolding definitions
in_Sum_AsTerm w es = refl

pub in_Sum_AsFactor : (w : s.Workload) (es : l.Exprs) → expr_text_in w position.AsFactor (l.Sum es) ≡ codes "(" ++ sum_text w es ++ codes ")"
unfolding definitions
in_Sum_AsFactor w es = refl

pub in_Sum_Signed : (w : s.Workload) (es : l.Exprs) → expr_text_in w position.Signed (l.Sum es) ≡ codes "(" ++ sum_text w es ++ codes ")"
unfolding definitions
in_Sum_Signed w es = refl

pub in_Product_Alone : (w : s.Workload) (es : l.Exprs) → expr_text_in w position.Alone (l.Product es) ≡ product_text w es
unfolding definitions
in_Product_Alone w es = refl

pub in_Product_AsTerm : (w : s.Workload) (es : l.Exprs) → expr_text_in w position.AsTerm (l.Product es) ≡ product_text w es
unfolding definitions
in_Product_AsTerm w es = refl

pub in_Product_AsFactor : (w : s.Workload) (es : l.Exprs) → expr_text_in w position.AsFactor (l.Product es) ≡ codes "(" ++ product_text w es ++ codes ")"
unfolding definitions
in_Product_AsFactor w es = refl

pub in_Product_Signed : (w : s.Workload) (es : l.Exprs) → expr_text_in w position.Signed (l.Product es) ≡ product_text w es
unfolding definitions
in_Product_Signed w es = refl

pub in_Neg_Alone : (w : s.Workload) (e : l.Expr) → expr_text_in w position.Alone (l.Neg e) ≡ codes "-" ++ expr_text_in w position.AsFactor e
unfolding definitions
in_Neg_Alone w e = refl

pub in_Neg_AsTerm : (w : s.Workload) (e : l.Expr) → expr_text_in w position.AsTerm (l.Neg e) ≡ codes "-" ++ expr_text_in w position.AsFactor e
unfolding definitions
in_Neg_AsTerm w e = refl

pub in_Neg_AsFactor : (w : s.Workload) (e : l.Expr) → expr_text_in w position.AsFactor (l.Neg e) ≡ codes "-" ++ expr_text_in w position.AsFactor e
unfolding definitions
in_Neg_AsFactor w e = refl

pub in_Neg_Signed : (w : s.Workload) (e : l.Expr) → expr_text_in w position.Signed (l.Neg e) ≡ expr_text_in w position.AsTerm e
unfolding definitions
in_Neg_Signed w e = refl

-- ---- sums and products
abbrev pub term_behind : s.Workload → LExpr → List ℕ
unfolding definitions
term_behind w e = sign_text (plain_lexpr e) ++ expr_text_in w position.Signed (plain_lexpr e)

abbrev pub terms_behind : s.Workload → List LExpr → List ℕ
unfolding definitions
terms_behind w es = flat_map (term_behind w) es

abbrev pub factors_behind : s.Workload → List LExpr → List ℕ
unfolding definitions
factors_behind w es = flat_map (λ e. codes " * " ++ expr_text_in w position.AsFactor (plain_lexpr e)) es

abbrev pub tests_behind : s.Workload → List LTest → List ℕ
unfolding definitions
tests_behind w ts = flat_map (λ t. codes " and " ++ test_text w (plain_ltest t)) ts

pub no_terms : (w : s.Workload) → terms_behind w [] ≡ []
unfolding definitions
no_terms w = refl

pub no_factors : (w : s.Workload) → factors_behind w [] ≡ []
unfolding definitions
no_factors w = refl

pub no_sum : (w : s.Workload) → sum_text w (low_exprs (map plain_lexpr [])) ≡ []
unfolding definitions syntax_definitions
no_sum w = refl

pub no_product : (w : s.Workload) → product_text w (low_exprs (map plain_lexpr [])) ≡ []
unfolding definitions syntax_definitions
no_product w = refl

later_first : (w : s.Workload) (e : l.Expr) (es : l.Exprs) → later_terms w (l.MoreExpr e es) ≡ (sign_text e ++ expr_text_in w position.Signed e) ++ later_terms w es
unfolding definitions
later_first w (l.Literal n) es = refl
later_first w (l.OfTemp t) es = refl
later_first w (l.Read x) es = refl
later_first w (l.Sum ts) es = refl
later_first w (l.Product ts) es = refl
later_first w (l.Neg e) es = refl

later_all : (w : s.Workload) (es : List LExpr) → later_terms w (low_exprs (map plain_lexpr es)) ≡ terms_behind w es
unfolding definitions syntax_definitions
later_all w [] = refl
later_all w (e ∷ es) = later_first w (plain_lexpr e) (low_exprs (map plain_lexpr es)) ∙ ap (λ l. term_behind w e ++ l) (later_all w es)

pub sum_is : (w : s.Workload) (e : LExpr) (es : List LExpr) → sum_text w (low_exprs (map plain_lexpr (e ∷ es))) ≡ expr_text_in w position.AsTerm (plain_lexpr e) ++ terms_behind w es
unfolding definitions syntax_definitions
sum_is w e es = ap (λ l. expr_at w AsTerm (plain_lexpr e) ++ l) (later_all w es)

factors_all : (w : s.Workload) (es : List LExpr) → later_factors w (low_exprs (map plain_lexpr es)) ≡ factors_behind w es
unfolding definitions syntax_definitions
factors_all w [] = refl
factors_all w (e ∷ es) = ap (λ l. (codes " * " ++ expr_at w AsFactor (plain_lexpr e)) ++ l) (factors_all w es)

pub product_is : (w : s.Workload) (e : LExpr) (es : List LExpr) → product_text w (low_exprs (map plain_lexpr (e ∷ es))) ≡ expr_text_in w position.AsFactor (plain_lexpr e) ++ factors_behind w es
unfolding definitions syntax_definitions
product_is w e es = ap (λ l. expr_at w AsFactor (plain_lexpr e) ++ l) (factors_all w es)

pub terms_more : (w : s.Workload) (es : List LExpr) (i : ℕ) (e : LExpr) → i < length es → e ≡ get_or es i e → terms_behind w (take (i + 1) es) ≡ terms_behind w (take i es) ++ (sign_text (plain_lexpr e) ++ expr_text_in w position.Signed (plain_lexpr e))
unfolding definitions
terms_more w es i e within is = flat_more (term_behind w) es i e within is

pub factors_more : (w : s.Workload) (es : List LExpr) (i : ℕ) (e : LExpr) → i < length es → e ≡ get_or es i e → factors_behind w (take (i + 1) es) ≡ factors_behind w (take i es) ++ (codes " * " ++ expr_text_in w position.AsFactor (plain_lexpr e))
unfolding definitions
factors_more w es i e within is = flat_more (λ (e : LExpr). codes " * " ++ expr_text_in w position.AsFactor (plain_lexpr e)) es i e within is

pub ruleset expression_steps =
    (append_assoc, in_Literal, in_Temp, in_Read, in_Sum_Alone, in_Sum_AsTerm, in_Sum_AsFactor, in_Sum_Signed, in_Product_Alone, in_Product_AsTerm, in_Product_AsFactor, in_Product_Signed, in_Neg_Alone, in_Neg_AsTerm, in_Neg_AsFactor, in_Neg_Signed, terms_more, factors_more)

-- ---- conditions
pub of_Less : comparison_text compare.Less ≡ codes " < "
unfolding definitions
of_Less = refl

pub of_LessEqual : comparison_text compare.LessEqual ≡ codes " <= "
unfolding definitions
of_LessEqual = refl

pub of_Equal : comparison_text compare.Equal ≡ codes " = "
unfolding definitions
of_Equal = refl

pub ruleset comparisons = (of_Less, of_LessEqual, of_Equal)

pub of_True : (w : s.Workload) → test_text w l.True ≡ codes "true"
unfolding definitions
of_True w = refl

pub of_Not : (w : s.Workload) (c : l.Cond) → test_text w (l.Not c) ≡ codes "not (" ++ cond_text w c ++ codes ")"
unfolding definitions
of_Not w c = refl

pub of_Comparison : (w : s.Workload) (op : Compare) (a b : l.Expr) → test_text w (l.Comparison op a b) ≡ expr_text_in w position.Alone a ++ comparison_text op ++ expr_text_in w position.Alone b
unfolding definitions
of_Comparison w op a b = refl

pub no_tests : (w : s.Workload) → tests_behind w [] ≡ []
unfolding definitions
no_tests w = refl

tests_all : (w : s.Workload) (ts : List LTest) → later_tests w (low_tests (map plain_ltest ts)) ≡ tests_behind w ts
unfolding definitions syntax_definitions
tests_all w [] = refl
tests_all w (t ∷ ts) = ap (λ l. (codes " and " ++ test_text w (plain_ltest t)) ++ l) (tests_all w ts)

pub no_test : (w : s.Workload) (ts : List LTest) → length ts < 1 → cond_text w (low_tests (map plain_ltest ts)) ≡ codes "true"
unfolding definitions syntax_definitions
no_test w [] empty = refl
no_test w (t ∷ ts) empty = absurd (omega arith)

pub cond_is : (w : s.Workload) (t : LTest) (ts : List LTest) → cond_text w (low_tests (map plain_ltest (t ∷ ts))) ≡ test_text w (plain_ltest t) ++ tests_behind w ts
unfolding definitions syntax_definitions
cond_is w t ts = ap (λ l. test_text w (plain_ltest t) ++ l) (tests_all w ts)

pub tests_more : (w : s.Workload) (ts : List LTest) (i : ℕ) (t : LTest) → i < length ts → t ≡ get_or ts i t → tests_behind w (take (i + 1) ts) ≡ tests_behind w (take i ts) ++ (codes " and " ++ test_text w (plain_ltest t))
unfolding definitions
tests_more w ts i t within is = flat_more (λ (t : LTest). codes " and " ++ test_text w (plain_ltest t)) ts i t within is

pub ruleset condition_steps = (append_assoc, of_True, of_Not, of_Comparison, tests_more)
