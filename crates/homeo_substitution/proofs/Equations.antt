-- What is put in, form by form, as equations, which code rewrites by.
use Rattle.std.proofs.Common.{◌≡◌, ℤ, pos, Option, List, [], ◌∷◌, map, refl, ap, ◌∙◌}
use Rattle.std.specs.Option.{unwrap_or}
use Rattle.homeo_syntax.specs.Key.{definitions as syntax_definitions}
use Rattle.homeo_syntax.specs.declared.low.SplitName.{SplitName}
use Rattle.homeo_syntax.specs.declared.low.Temp.{Temp}
use Rattle.homeo_syntax.specs.declared.phrase.Compare.{Compare}
use Rattle.homeo_syntax.specs.Low.{Expr, Literal, OfTemp, Read, Sum, Product, Neg, MoreExpr, Test, Cond, True, Not, Comparison, MoreTest}
use Rattle.homeo_syntax.specs.LowView.{low_exprs, low_tests}
use Rattle.homeo_meaning.specs.LowMeaning.{Location, TempAt, location_of}
use Rattle.homeo_substitution.specs.Key.{definitions}
use Rattle.homeo_substitution.specs.Substitution.{substituted, substituted_all, substituted_test, substituted_cond}

-- ---- what is read
pub substituted-temp :
    (s : Location → Option Expr) (t : Temp) (l : Location) (o : Option Expr) → o ≡ s l → l ≡ TempAt t →
    unwrap_or o (Literal (pos 0)) ≡ substituted s (OfTemp t)
unfolding definitions
substituted-temp s t l o e h = ap (λ o. unwrap_or o (Literal (pos 0))) (e ∙ ap s h)

pub substituted-read :
    (s : Location → Option Expr) (x : SplitName) (l : Location) (o : Option Expr) → o ≡ s l → l ≡ location_of x →
    unwrap_or o (Read x) ≡ substituted s (Read x)
unfolding definitions
substituted-read s x l o e h = ap (λ o. unwrap_or o (Read x)) (e ∙ ap s h)

-- ---- lists of expressions and tests
substituted-exprs : (s : Location → Option Expr) (es : List Expr) → substituted_all s (low_exprs es) ≡ low_exprs (map (substituted s) es)
unfolding definitions syntax_definitions
substituted-exprs s [] = refl
substituted-exprs s (a ∷ es) = ap (MoreExpr (substituted s a)) (substituted-exprs s es)

pub substituted-tests : (s : Location → Option Expr) (ts : List Test) → substituted_cond s (low_tests ts) ≡ low_tests (map (substituted_test s) ts)
unfolding definitions syntax_definitions
substituted-tests s [] = refl
substituted-tests s (t ∷ ts) = ap (MoreTest (substituted_test s t)) (substituted-tests s ts)

-- ---- expressions
pub substituted-Literal : (s : Location → Option Expr) (n : ℤ) → substituted s (Literal n) ≡ Literal n
unfolding definitions
substituted-Literal s n = refl

pub substituted-Sum : (s : Location → Option Expr) (es : List Expr) → substituted s (Sum (low_exprs es)) ≡ Sum (low_exprs (map (substituted s) es))
unfolding definitions
substituted-Sum s es = ap Sum (substituted-exprs s es)

pub substituted-Product : (s : Location → Option Expr) (es : List Expr) → substituted s (Product (low_exprs es)) ≡ Product (low_exprs (map (substituted s) es))
unfolding definitions
substituted-Product s es = ap Product (substituted-exprs s es)

pub substituted-Neg : (s : Location → Option Expr) (a : Expr) → substituted s (Neg a) ≡ Neg (substituted s a)
unfolding definitions
substituted-Neg s a = refl

pub ruleset expressions = (substituted-Literal, substituted-Sum, substituted-Product, substituted-Neg)

-- ---- conditions
pub substituted-True : (s : Location → Option Expr) → substituted_test s True ≡ True
unfolding definitions
substituted-True s = refl

pub substituted-Not : (s : Location → Option Expr) (c : Cond) → substituted_test s (Not c) ≡ Not (substituted_cond s c)
unfolding definitions
substituted-Not s c = refl

pub substituted-Comparison :
    (s : Location → Option Expr) (op : Compare) (a b : Expr) → substituted_test s (Comparison op a b) ≡ Comparison op (substituted s a) (substituted s b)
unfolding definitions
substituted-Comparison s op a b = refl

pub ruleset conditions = (substituted-True, substituted-Not, substituted-Comparison, substituted-tests)
