-- The definitions over lists of phrases as equations, which code rewrites by.
use Rattle.std.proofs.Common.{◌≡◌, ℕ, ℤ, ◌+ℤ◌, ◌*ℤ◌, true, ◌&&◌, List, [], ◌∷◌, refl}
use Rattle.homeo_syntax.specs.Key.{definitions as syntax_definitions}
use Rattle.homeo_syntax.specs.SourceView.{exprs, tests}
use Rattle.homeo_syntax.specs.Source.{Expr, Test}
use Rattle.homeo_meaning.specs.Key.{definitions}
use Rattle.homeo_meaning.specs.Context.{Context}
use Rattle.homeo_meaning.specs.Meaning.{State, value, sum_value, product_value, passes, holds}
use Rattle.homeo_meaning.specs.Small.{is_small}
use Rattle.homeo_eval.specs.inner.CanRun.{expr_fits, sum_fits, product_fits, test_fits, cond_fits}

pub sum_end : (x : Context) (s : State) (n : ℤ) → sum_value x (exprs []) s n ≡ n
unfolding definitions syntax_definitions
sum_end x s n = refl

pub sum_more : (x : Context) (s : State) (n : ℤ) (e : Expr) (es : List Expr) → sum_value x (exprs (e ∷ es)) s n ≡ sum_value x (exprs es) s (n +ℤ value x e s)
unfolding definitions syntax_definitions
sum_more x s n e es = refl

pub sum_fits_more : (b : ℕ) (x : Context) (s : State) (n : ℤ) (e : Expr) (es : List Expr) → sum_fits b x (exprs (e ∷ es)) s n ≡ expr_fits b x e s && (is_small b (n +ℤ value x e s) && sum_fits b x (exprs es) s (n +ℤ value x e s))
unfolding definitions syntax_definitions
sum_fits_more b x s n e es = refl

pub product_end : (x : Context) (s : State) (n : ℤ) → product_value x (exprs []) s n ≡ n
unfolding definitions syntax_definitions
product_end x s n = refl

pub product_more : (x : Context) (s : State) (n : ℤ) (e : Expr) (es : List Expr) → product_value x (exprs (e ∷ es)) s n ≡ product_value x (exprs es) s (n *ℤ value x e s)
unfolding definitions syntax_definitions
product_more x s n e es = refl

pub product_fits_more : (b : ℕ) (x : Context) (s : State) (n : ℤ) (e : Expr) (es : List Expr) → product_fits b x (exprs (e ∷ es)) s n ≡ expr_fits b x e s && (is_small b (n *ℤ value x e s) && product_fits b x (exprs es) s (n *ℤ value x e s))
unfolding definitions syntax_definitions
product_fits_more b x s n e es = refl

pub holds_end : (x : Context) (s : State) → holds x (tests []) s ≡ true
unfolding definitions syntax_definitions
holds_end x s = refl

pub holds_more : (x : Context) (s : State) (t : Test) (ts : List Test) → holds x (tests (t ∷ ts)) s ≡ passes x t s && holds x (tests ts) s
unfolding definitions syntax_definitions
holds_more x s t ts = refl

pub cond_fits_more : (b : ℕ) (x : Context) (s : State) (t : Test) (ts : List Test) → cond_fits b x (tests (t ∷ ts)) s ≡ test_fits b x t s && cond_fits b x (tests ts) s
unfolding definitions syntax_definitions
cond_fits_more b x s t ts = refl

pub ruleset sums = (sum_end, sum_more, sum_fits_more)

pub ruleset products = (product_end, product_more, product_fits_more)

pub ruleset conjunctions = (holds_end, holds_more, cond_fits_more)
