-- The tokens of each kind of phrase as it is made.
use Rattle.std.proofs.Common.{◌≡◌, ℕ, ℤ, ◌+◌, ◌<◌, List, [], ◌∷◌, ◌++◌, length, map, take, get_or, append_assoc, Box, Global, refl, ap, ◌∙◌}
use Rattle.homeo_syntax.specs.Key.{definitions as syntax_definitions}
use Rattle.homeo_syntax.specs.Listed.{Listed}
use Rattle.homeo_syntax.specs.Source as s
use Rattle.homeo_syntax.specs.SourceView.{exprs, tests, plain_expr, plain_test, plain_cond}
use Rattle.homeo_syntax.specs.declared.token.Mark.TheVariants as mark
use Rattle.homeo_syntax.specs.declared.token.Kind.TheVariants as kind
use Rattle.homeo_syntax.specs.declared.phrase.Ident.{Ident}
use Rattle.homeo_syntax.specs.declared.phrase.Compare.{Compare as Comparison}
use Rattle.homeo_syntax.specs.declared.phrase.Expr.{Expr, Literal, Name, Read, Sum, Product, Neg, Field, Row, Count, Total}
use Rattle.homeo_syntax.specs.declared.phrase.Test.{Test, True, Not, Compare}
use Rattle.homeo_syntax.specs.declared.phrase.Cond.{Cond, out-Cond}
use Rattle.homeo_syntax.proofs.SourceViews as v
use Rattle.homeo_print.specs.declared.position.Position.{Position}
use Rattle.homeo_print.specs.declared.position.Position.TheVariants as position
use Rattle.homeo_print_workload.specs.Key.{definitions}
use Rattle.homeo_print.specs.Parentheses.{Alone, AsTerm, AsFactor}
use Rattle.homeo_print_workload.specs.TokensOf.{name_of, mark_of, value_of, comparison_mark, expr_at, sum_kinds, later_terms, product_kinds, later_factors, test_kinds, cond_kinds, later_tests}
use Rattle.homeo_print.proofs.Listed.{flat_more}
use Rattle.homeo_print_workload.specs.inner.Walk.{expr_in, sign_of, row_field, chosen_of}
use Rattle.homeo_print_workload.proofs.Behind.{later_term, terms_behind, factors_behind, tests_behind}

-- ---- signs
pub sign_Literal : (n : ℤ) → sign_of (plain_expr (Literal n)) ≡ mark.Plus
unfolding definitions
sign_Literal n = ap sign_of (v.plain_Literal n)

pub sign_Name : (x : Ident) → sign_of (plain_expr (Name x)) ≡ mark.Plus
unfolding definitions
sign_Name x = ap sign_of (v.plain_Name x)

pub sign_Read : (x : Ident) → sign_of (plain_expr (Read x)) ≡ mark.Plus
unfolding definitions
sign_Read x = ap sign_of (v.plain_Read x)

pub sign_Sum : (es : Listed Expr) → sign_of (plain_expr (Sum es)) ≡ mark.Plus
unfolding definitions
sign_Sum es = ap sign_of (v.plain_Sum es)

pub sign_Product : (es : Listed Expr) → sign_of (plain_expr (Product es)) ≡ mark.Plus
unfolding definitions
sign_Product es = ap sign_of (v.plain_Product es)

pub sign_Neg : (e : Box Expr Global) → sign_of (plain_expr (Neg e)) ≡ mark.Minus
unfolding definitions
sign_Neg e = ap sign_of (v.plain_Neg e)

pub sign_Field : (relation : Ident) (index : Box Expr Global) (field : Ident) → sign_of (plain_expr (Field relation index field)) ≡ mark.Plus
unfolding definitions
sign_Field relation index field = ap sign_of (v.plain_Field relation index field)

pub sign_Row : (row field : Ident) → sign_of (plain_expr (Row row field)) ≡ mark.Plus
unfolding definitions
sign_Row row field = ap sign_of (v.plain_Row row field)

pub sign_Count : (row relation : Ident) (test : Box Cond Global) → sign_of (plain_expr (Count row relation test)) ≡ mark.Plus
unfolding definitions
sign_Count row relation test = ap sign_of (v.plain_Count row relation test)

pub sign_Total : (row field relation : Ident) (test : Box Cond Global) → sign_of (plain_expr (Total row field relation test)) ≡ mark.Plus
unfolding definitions
sign_Total row field relation test = ap sign_of (v.plain_Total row field relation test)

-- ---- expressions at a position
-- a position with a level of its own is that level
pub alone : (e : s.Expr) → expr_at Alone e ≡ expr_in position.Alone e
unfolding definitions
alone e = refl

pub as_term : (e : s.Expr) → expr_at AsTerm e ≡ expr_in position.AsTerm e
unfolding definitions
as_term e = refl

pub as_factor : (e : s.Expr) → expr_at AsFactor e ≡ expr_in position.AsFactor e
unfolding definitions
as_factor e = refl

pub in_Literal : (p : Position) (n : ℤ) → expr_in p (plain_expr (Literal n)) ≡ value_of n
unfolding definitions
in_Literal position.Alone n = ap (expr_in position.Alone) (v.plain_Literal n)
in_Literal position.AsTerm n = ap (expr_in position.AsTerm) (v.plain_Literal n)
in_Literal position.AsFactor n = ap (expr_in position.AsFactor) (v.plain_Literal n)
in_Literal position.Signed n = ap (expr_in position.Signed) (v.plain_Literal n)

pub in_Name : (p : Position) (x : Ident) → expr_in p (plain_expr (Name x)) ≡ name_of x
unfolding definitions
in_Name position.Alone x = ap (expr_in position.Alone) (v.plain_Name x)
in_Name position.AsTerm x = ap (expr_in position.AsTerm) (v.plain_Name x)
in_Name position.AsFactor x = ap (expr_in position.AsFactor) (v.plain_Name x)
in_Name position.Signed x = ap (expr_in position.Signed) (v.plain_Name x)

pub in_Read : (p : Position) (x : Ident) → expr_in p (plain_expr (Read x)) ≡ kind.Fixed mark.Read ∷ kind.Fixed mark.Open ∷ kind.Name x.name ∷ kind.Fixed mark.Close ∷ []
unfolding definitions
in_Read position.Alone x = ap (expr_in position.Alone) (v.plain_Read x)
in_Read position.AsTerm x = ap (expr_in position.AsTerm) (v.plain_Read x)
in_Read position.AsFactor x = ap (expr_in position.AsFactor) (v.plain_Read x)
in_Read position.Signed x = ap (expr_in position.Signed) (v.plain_Read x)

pub in_Sum_Alone : (es : Listed Expr) → expr_in position.Alone (plain_expr (Sum es)) ≡ sum_kinds (exprs (map plain_expr es.items))
unfolding definitions
in_Sum_Alone es = ap (expr_in position.Alone) (v.plain_Sum es)

pub in_Sum_AsTerm : (es : Listed Expr) → expr_in position.AsTerm (plain_expr (Sum es)) ≡ kind.Fixed mark.Open ∷ (sum_kinds (exprs (map plain_expr es.items)) ++ kind.Fixed mark.Close ∷ [])
unfolding definitions
in_Sum_AsTerm es = ap (expr_in position.AsTerm) (v.plain_Sum es)

pub in_Sum_AsFactor : (es : Listed Expr) → expr_in position.AsFactor (plain_expr (Sum es)) ≡ kind.Fixed mark.Open ∷ (sum_kinds (exprs (map plain_expr es.items)) ++ kind.Fixed mark.Close ∷ [])
unfolding definitions
in_Sum_AsFactor es = ap (expr_in position.AsFactor) (v.plain_Sum es)

pub in_Sum_Signed : (es : Listed Expr) → expr_in position.Signed (plain_expr (Sum es)) ≡ kind.Fixed mark.Open ∷ (sum_kinds (exprs (map plain_expr es.items)) ++ kind.Fixed mark.Close ∷ [])
unfolding definitions
in_Sum_Signed es = ap (expr_in position.Signed) (v.plain_Sum es)

pub in_Product_Alone : (es : Listed Expr) → expr_in position.Alone (plain_expr (Product es)) ≡ product_kinds (exprs (map plain_expr es.items))
unfolding definitions
in_Product_Alone es = ap (expr_in position.Alone) (v.plain_Product es)

pub in_Product_AsTerm : (es : Listed Expr) → expr_in position.AsTerm (plain_expr (Product es)) ≡ product_kinds (exprs (map plain_expr es.items))
unfolding definitions
in_Product_AsTerm es = ap (expr_in position.AsTerm) (v.plain_Product es)

pub in_Product_AsFactor : (es : Listed Expr) → expr_in position.AsFactor (plain_expr (Product es)) ≡ kind.Fixed mark.Open ∷ (product_kinds (exprs (map plain_expr es.items)) ++ kind.Fixed mark.Close ∷ [])
unfolding definitions
in_Product_AsFactor es = ap (expr_in position.AsFactor) (v.plain_Product es)

pub in_Product_Signed : (es : Listed Expr) → expr_in position.Signed (plain_expr (Product es)) ≡ product_kinds (exprs (map plain_expr es.items))
unfolding definitions
in_Product_Signed es = ap (expr_in position.Signed) (v.plain_Product es)

pub in_Neg_Alone : (e : Box Expr Global) → expr_in position.Alone (plain_expr (Neg e)) ≡ kind.Fixed mark.Minus ∷ expr_in position.AsFactor (plain_expr e.value)
unfolding definitions
in_Neg_Alone e = ap (expr_in position.Alone) (v.plain_Neg e) ∙ ap (λ ks. kind.Fixed mark.Minus ∷ ks) (as_factor (plain_expr e.value))

pub in_Neg_AsTerm : (e : Box Expr Global) → expr_in position.AsTerm (plain_expr (Neg e)) ≡ kind.Fixed mark.Minus ∷ expr_in position.AsFactor (plain_expr e.value)
unfolding definitions
in_Neg_AsTerm e = ap (expr_in position.AsTerm) (v.plain_Neg e) ∙ ap (λ ks. kind.Fixed mark.Minus ∷ ks) (as_factor (plain_expr e.value))

pub in_Neg_AsFactor : (e : Box Expr Global) → expr_in position.AsFactor (plain_expr (Neg e)) ≡ kind.Fixed mark.Minus ∷ expr_in position.AsFactor (plain_expr e.value)
unfolding definitions
in_Neg_AsFactor e = ap (expr_in position.AsFactor) (v.plain_Neg e) ∙ ap (λ ks. kind.Fixed mark.Minus ∷ ks) (as_factor (plain_expr e.value))

pub in_Neg_Signed : (e : Box Expr Global) → expr_in position.Signed (plain_expr (Neg e)) ≡ expr_in position.AsTerm (plain_expr e.value)
unfolding definitions
in_Neg_Signed e = ap (expr_in position.Signed) (v.plain_Neg e) ∙ as_term (plain_expr e.value)

pub in_Field : (p : Position) (relation : Ident) (index : Box Expr Global) (field : Ident) → expr_in p (plain_expr (Field relation index field)) ≡ kind.Name relation.name ∷ kind.Fixed mark.OpenBracket ∷ (expr_in position.Alone (plain_expr index.value) ++ kind.Fixed mark.CloseBracket ∷ kind.Fixed mark.Dot ∷ kind.Name field.name ∷ [])
unfolding definitions
in_Field position.Alone relation index field = ap (expr_in position.Alone) (v.plain_Field relation index field) ∙ ap (λ ks. kind.Name relation.name ∷ kind.Fixed mark.OpenBracket ∷ (ks ++ kind.Fixed mark.CloseBracket ∷ kind.Fixed mark.Dot ∷ kind.Name field.name ∷ [])) (alone (plain_expr index.value))
in_Field position.AsTerm relation index field = ap (expr_in position.AsTerm) (v.plain_Field relation index field) ∙ ap (λ ks. kind.Name relation.name ∷ kind.Fixed mark.OpenBracket ∷ (ks ++ kind.Fixed mark.CloseBracket ∷ kind.Fixed mark.Dot ∷ kind.Name field.name ∷ [])) (alone (plain_expr index.value))
in_Field position.AsFactor relation index field = ap (expr_in position.AsFactor) (v.plain_Field relation index field) ∙ ap (λ ks. kind.Name relation.name ∷ kind.Fixed mark.OpenBracket ∷ (ks ++ kind.Fixed mark.CloseBracket ∷ kind.Fixed mark.Dot ∷ kind.Name field.name ∷ [])) (alone (plain_expr index.value))
in_Field position.Signed relation index field = ap (expr_in position.Signed) (v.plain_Field relation index field) ∙ ap (λ ks. kind.Name relation.name ∷ kind.Fixed mark.OpenBracket ∷ (ks ++ kind.Fixed mark.CloseBracket ∷ kind.Fixed mark.Dot ∷ kind.Name field.name ∷ [])) (alone (plain_expr index.value))

pub in_Row : (p : Position) (row field : Ident) → expr_in p (plain_expr (Row row field)) ≡ row_field row field
unfolding definitions
in_Row position.Alone row field = ap (expr_in position.Alone) (v.plain_Row row field)
in_Row position.AsTerm row field = ap (expr_in position.AsTerm) (v.plain_Row row field)
in_Row position.AsFactor row field = ap (expr_in position.AsFactor) (v.plain_Row row field)
in_Row position.Signed row field = ap (expr_in position.Signed) (v.plain_Row row field)

pub in_Count : (p : Position) (row relation : Ident) (test : Box Cond Global) → expr_in p (plain_expr (Count row relation test)) ≡ kind.Fixed mark.Count ∷ kind.Fixed mark.Open ∷ kind.Name row.name ∷ (chosen_of relation ++ (cond_kinds (plain_cond test.value) ++ kind.Fixed mark.Close ∷ []))
unfolding definitions
in_Count position.Alone row relation test = ap (expr_in position.Alone) (v.plain_Count row relation test)
in_Count position.AsTerm row relation test = ap (expr_in position.AsTerm) (v.plain_Count row relation test)
in_Count position.AsFactor row relation test = ap (expr_in position.AsFactor) (v.plain_Count row relation test)
in_Count position.Signed row relation test = ap (expr_in position.Signed) (v.plain_Count row relation test)

pub in_Total : (p : Position) (row field relation : Ident) (test : Box Cond Global) → expr_in p (plain_expr (Total row field relation test)) ≡ kind.Fixed mark.Sum ∷ kind.Fixed mark.Open ∷ (row_field row field ++ (chosen_of relation ++ (cond_kinds (plain_cond test.value) ++ kind.Fixed mark.Close ∷ [])))
unfolding definitions
in_Total position.Alone row field relation test = ap (expr_in position.Alone) (v.plain_Total row field relation test)
in_Total position.AsTerm row field relation test = ap (expr_in position.AsTerm) (v.plain_Total row field relation test)
in_Total position.AsFactor row field relation test = ap (expr_in position.AsFactor) (v.plain_Total row field relation test)
in_Total position.Signed row field relation test = ap (expr_in position.Signed) (v.plain_Total row field relation test)

-- ---- sums and products
pub no_terms : terms_behind [] ≡ []
unfolding definitions
no_terms = refl

pub no_factors : factors_behind [] ≡ []
unfolding definitions
no_factors = refl

pub no_tests : tests_behind [] ≡ []
unfolding definitions
no_tests = refl

pub no_sum : sum_kinds (exprs (map plain_expr [])) ≡ []
unfolding definitions syntax_definitions
no_sum = refl

pub no_product : product_kinds (exprs (map plain_expr [])) ≡ []
unfolding definitions syntax_definitions
no_product = refl

later_first : (e : s.Expr) (es : s.Exprs) → later_terms (s.MoreExpr e es) ≡ later_term e ++ later_terms es
unfolding definitions
later_first (s.Literal n) es = refl
later_first (s.Name x) es = refl
later_first (s.Read x) es = refl
later_first (s.Sum ts) es = refl
later_first (s.Product ts) es = refl
later_first (s.Neg e) es = refl
later_first (s.Field r i f) es = refl
later_first (s.Row r f) es = refl
later_first (s.Count r q c) es = refl
later_first (s.Total r f q c) es = refl

later_all : (es : List Expr) → later_terms (exprs (map plain_expr es)) ≡ terms_behind es
unfolding definitions syntax_definitions
later_all [] = refl
later_all (e ∷ es) = later_first (plain_expr e) (exprs (map plain_expr es)) ∙ ap (λ l. later_term (plain_expr e) ++ l) (later_all es)

pub sum_is : (e : Expr) (es : List Expr) → sum_kinds (exprs (map plain_expr (e ∷ es))) ≡ expr_in position.AsTerm (plain_expr e) ++ terms_behind es
unfolding definitions syntax_definitions
sum_is e es = ap (λ l. expr_at AsTerm (plain_expr e) ++ l) (later_all es)

factors_all : (es : List Expr) → later_factors (exprs (map plain_expr es)) ≡ factors_behind es
unfolding definitions syntax_definitions
factors_all [] = refl
factors_all (e ∷ es) = ap (λ l. kind.Fixed mark.Star ∷ (expr_at AsFactor (plain_expr e) ++ l)) (factors_all es)

pub product_is : (e : Expr) (es : List Expr) → product_kinds (exprs (map plain_expr (e ∷ es))) ≡ expr_in position.AsFactor (plain_expr e) ++ factors_behind es
unfolding definitions syntax_definitions
product_is e es = ap (λ l. expr_at AsFactor (plain_expr e) ++ l) (factors_all es)

pub terms_more : (es : List Expr) (i : ℕ) (e : Expr) → i < length es → e ≡ get_or es i e → terms_behind (take (i + 1) es) ≡ terms_behind (take i es) ++ kind.Fixed (sign_of (plain_expr e)) ∷ expr_in position.Signed (plain_expr e)
unfolding definitions
terms_more es i e within is = flat_more (λ (e : Expr). later_term (plain_expr e)) es i e within is

pub factors_more : (es : List Expr) (i : ℕ) (e : Expr) → i < length es → e ≡ get_or es i e → factors_behind (take (i + 1) es) ≡ factors_behind (take i es) ++ kind.Fixed mark.Star ∷ expr_in position.AsFactor (plain_expr e)
unfolding definitions
factors_more es i e within is = flat_more (λ (e : Expr). kind.Fixed mark.Star ∷ expr_at AsFactor (plain_expr e)) es i e within is

-- ---- conditions
pub of_True : test_kinds (plain_test True) ≡ mark_of mark.True
unfolding definitions
of_True = ap test_kinds v.plain_True

pub of_Not : (c : Cond) → test_kinds (plain_test (Not c)) ≡ kind.Fixed mark.Not ∷ kind.Fixed mark.Open ∷ (cond_kinds (plain_cond c) ++ kind.Fixed mark.Close ∷ [])
unfolding definitions
of_Not c = ap test_kinds (v.plain_Not c)

pub of_Compare : (op : Comparison) (a b : Expr) → test_kinds (plain_test (Compare op a b)) ≡ expr_in position.Alone (plain_expr a) ++ kind.Fixed (comparison_mark op) ∷ expr_in position.Alone (plain_expr b)
unfolding definitions
of_Compare op a b = ap test_kinds (v.plain_Compare op a b)

tests_all : (ts : List Test) → later_tests (tests (map plain_test ts)) ≡ tests_behind ts
unfolding definitions syntax_definitions
tests_all [] = refl
tests_all (t ∷ ts) = ap (λ l. kind.Fixed mark.And ∷ (test_kinds (plain_test t) ++ l)) (tests_all ts)

pub tests_are : (c : Cond) → cond_kinds (plain_cond c) ≡ cond_kinds (tests (map plain_test (out-Cond c).tests.items))
tests_are c = ap cond_kinds (v.plain_conjunction c)

pub no_test : cond_kinds (tests (map plain_test [])) ≡ []
unfolding definitions syntax_definitions
no_test = refl

pub cond_is : (t : Test) (ts : List Test) → cond_kinds (tests (map plain_test (t ∷ ts))) ≡ test_kinds (plain_test t) ++ tests_behind ts
unfolding definitions syntax_definitions
cond_is t ts = ap (λ l. test_kinds (plain_test t) ++ l) (tests_all ts)

pub tests_more : (ts : List Test) (i : ℕ) (t : Test) → i < length ts → t ≡ get_or ts i t → tests_behind (take (i + 1) ts) ≡ tests_behind (take i ts) ++ kind.Fixed mark.And ∷ test_kinds (plain_test t)
unfolding definitions
tests_more ts i t within is = flat_more (λ (t : Test). kind.Fixed mark.And ∷ test_kinds (plain_test t)) ts i t within is

pub ruleset phrase_steps = (append_assoc, sign_Literal, sign_Name, sign_Read, sign_Sum, sign_Product, sign_Neg, sign_Field, sign_Row, sign_Count, sign_Total, in_Literal, in_Name, in_Read, in_Sum_Alone, in_Sum_AsTerm, in_Sum_AsFactor, in_Sum_Signed, in_Product_Alone, in_Product_AsTerm, in_Product_AsFactor, in_Product_Signed, in_Neg_Alone, in_Neg_AsTerm, in_Neg_AsFactor, in_Neg_Signed, in_Field, in_Row, in_Count, in_Total, terms_more, factors_more, of_True, of_Not, of_Compare, tests_more)
