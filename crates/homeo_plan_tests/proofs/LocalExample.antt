-- One command of the tests can be run at a site by itself.
use Rattle.std.proofs.Common.{◌≡◌, ℕ, zero, suc, ◌^◌, ◌<◌, true, List, [], ◌∷◌, length, ℤ, pos, negsuc, FitsSigned, w64, sym, subst, arith}
use Rattle.std.proofs.lemmas.Int.{fits_signed_from_abs}
use Rattle.homeo_syntax.specs.Low.{Command}
use Rattle.homeo_meaning.specs.Key.{definitions as meaning_definitions}
use Rattle.homeo_meaning.specs.LowMeaning.{whole}
use Rattle.homeo_split.specs.Key.{definitions as split_definitions}
use Rattle.homeo_split.specs.CanExec.{run_limit, can_exec}
use Rattle.homeo_split.specs.Shape.{has_places}
use Rattle.homeo_local.specs.OwnValues.{own_values, own_shape}
use Rattle.homeo_plan_tests.specs.inner.SplitExample.{raise, base}

abbrev own : List ℤ
own = pos 2 ∷ negsuc 0 ∷ []

pub step_places : (c : Command) (ds : List ℤ) → c ≡ raise → ds ≡ own → has_places (own_shape (length ds)) c ≡ true
unfolding meaning_definitions split_definitions
step_places c ds e is = λ i. has_places (own_shape (length (is i))) (e i)

fit : (n : ℕ) → n < 2 ^ 63 → FitsSigned w64 (pos n)
fit n h = fits_signed_from_abs w64 (pos n) (omega arith)

each_fits : (n : ℕ) → FitsSigned w64 (own_values base own n)
unfolding meaning_definitions
each_fits zero = fit 7 (omega arith)
each_fits (suc zero) = fit 6 (omega arith)
each_fits (suc (suc n)) = fit 0 (omega arith)

pub step_sums : (bs ds : List ℤ) → bs ≡ base → ds ≡ own → (n : ℕ) → FitsSigned w64 (own_values bs ds n)
step_sums bs ds p q n =
    subst (λ (l : List ℤ). FitsSigned w64 (own_values l ds n)) (sym p) (subst (λ (l : List ℤ). FitsSigned w64 (own_values base l n)) (sym q) (each_fits n))

pub step_runs : (c : Command) (bs ds : List ℤ) → c ≡ raise → bs ≡ base → ds ≡ own → can_exec run_limit c (whole (own_values bs ds)) ≡ true
unfolding meaning_definitions split_definitions
step_runs c bs ds e p q = λ i. can_exec run_limit (e i) (whole (own_values (p i) (q i)))
