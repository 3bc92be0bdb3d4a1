-- The definitions over lists of phrases as equations, which code rewrites by.
use Rattle.std.proofs.Common.{◌≡◌, ℕ, ℤ, ◌+ℤ◌, ◌*ℤ◌, neg_ℤ, true, cond, ◌&&◌, List, [], ◌∷◌, refl}
use Rattle.homeo_syntax.specs.Key.{definitions as syntax_definitions}
use Rattle.homeo_syntax.specs.LowView.{low_exprs, low_tests}
use Rattle.homeo_syntax.specs.Low.{Expr, Neg, Test, Comparison}
use Rattle.homeo_syntax.specs.declared.phrase.Compare.{Compare}
use Rattle.homeo_meaning.specs.Key.{definitions as meaning_definitions}
use Rattle.homeo_meaning.specs.Meaning.{compared}
use Rattle.homeo_meaning.specs.LowMeaning.{State, value, sum_value, product_value, passes, holds}
use Rattle.homeo_meaning.specs.Small.{is_small}
use Rattle.homeo_split.specs.Key.{definitions}
use Rattle.homeo_split.specs.CanExec.{expr_fits, sum_fits, product_fits, test_fits, cond_fits}

pub value_Neg : (s : State) (e : Expr) → value (Neg e) s ≡ neg_ℤ (value e s)
unfolding meaning_definitions
value_Neg s e = refl

pub passes_Comparison : (s : State) (op : Compare) (a b : Expr) → passes (Comparison op a b) s ≡ compared op (value a s) (value b s)
unfolding meaning_definitions
passes_Comparison s op a b = refl

pub sum_end : (s : State) (n : ℤ) → sum_value n (low_exprs []) s ≡ n
unfolding definitions meaning_definitions syntax_definitions
sum_end s n = refl

pub sum_more : (s : State) (n : ℤ) (e : Expr) (es : List Expr) → sum_value n (low_exprs (e ∷ es)) s ≡ sum_value (n +ℤ value e s) (low_exprs es) s
unfolding definitions meaning_definitions syntax_definitions
sum_more s n e es = refl

pub sum_fits_more : (b : ℕ) (s : State) (n : ℤ) (e : Expr) (es : List Expr)
    → sum_fits b n (low_exprs (e ∷ es)) s ≡ is_small b n && (expr_fits b e s && sum_fits b (n +ℤ value e s) (low_exprs es) s)
unfolding definitions meaning_definitions syntax_definitions
sum_fits_more b s n e es = refl

pub product_end : (s : State) (n : ℤ) → product_value n (low_exprs []) s ≡ n
unfolding definitions meaning_definitions syntax_definitions
product_end s n = refl

pub product_more : (s : State) (n : ℤ) (e : Expr) (es : List Expr) → product_value n (low_exprs (e ∷ es)) s ≡ product_value (n *ℤ value e s) (low_exprs es) s
unfolding definitions meaning_definitions syntax_definitions
product_more s n e es = refl

pub product_fits_more : (b : ℕ) (s : State) (n : ℤ) (e : Expr) (es : List Expr)
    → product_fits b n (low_exprs (e ∷ es)) s ≡ is_small b n && (expr_fits b e s && product_fits b (n *ℤ value e s) (low_exprs es) s)
unfolding definitions meaning_definitions syntax_definitions
product_fits_more b s n e es = refl

pub holds_end : (s : State) → holds (low_tests []) s ≡ true
unfolding definitions meaning_definitions syntax_definitions
holds_end s = refl

pub holds_more : (s : State) (t : Test) (ts : List Test) → holds (low_tests (t ∷ ts)) s ≡ passes t s && holds (low_tests ts) s
unfolding definitions meaning_definitions syntax_definitions
holds_more s t ts = refl

pub cond_fits_more : (b : ℕ) (s : State) (t : Test) (ts : List Test)
    → cond_fits b (low_tests (t ∷ ts)) s ≡ test_fits b t s && cond (passes t s) (cond_fits b (low_tests ts) s) true
unfolding definitions meaning_definitions syntax_definitions
cond_fits_more b s t ts = refl

pub ruleset sums = (sum_end, sum_more, sum_fits_more)

pub ruleset products = (product_end, product_more, product_fits_more)

pub ruleset conjunctions = (holds_end, holds_more, cond_fits_more)
