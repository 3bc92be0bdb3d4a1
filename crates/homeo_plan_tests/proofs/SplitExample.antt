-- One command of the tests can be run, the other transformed too, and their split database folded.
use Rattle.std.proofs.Common.{◌≡◌, ℕ, zero, suc, ◌^◌, ◌<◌, ◌≤◌, true, [], ◌∷◌, map, length, pos, FitsSigned, w64, sym, ap, ap₂, ◌∙◌, subst, arith}
use Rattle.std.proofs.lemmas.Int.{fits_signed_from_abs}
use Rattle.std.proofs.lemmas.List.{length-map}
use Rattle.homeo_syntax.specs.Low.{Command}
use Rattle.homeo_meaning.specs.Key.{definitions as meaning_definitions}
use Rattle.homeo_meaning.specs.LowMeaning.{State, BaseAt, location_of, exec}
use Rattle.homeo_meaning.specs.Whole.{IsWhole}
use Rattle.homeo_plan.specs.Key.{definitions}
use Rattle.homeo_plan.specs.Split.{fold_state, shift}
use Rattle.homeo_plan.proofs.SameFolds.{same_folds}
use Rattle.homeo_split.specs.Key.{definitions as split_definitions}
use Rattle.homeo_split.specs.CanExec.{run_limit, can_exec}
use Rattle.homeo_split.specs.Shape.{Shape, shape_of, has_places}
use Rattle.homeo_split.specs.States.{state_with, state_of, AgreeOnNames}
use Rattle.homeo_split.specs.declared.split.Split.{Split}
use Rattle.homeo_split.proofs.Copies.{lengths}
use Rattle.homeo_fold.specs.Folding.{SumsFit}
use Rattle.homeo_plan_tests.specs.inner.SplitExample.{raise, raise_own, base, deltas, IsStart}

pub raise-whole : (c : Command) → c ≡ raise → IsWhole c
unfolding meaning_definitions
raise-whole c e = subst IsWhole (sym e) ((tt, (tt, (tt, tt))), (tt, tt))

abbrev pub shifted : Command
shifted = shift 2 1 raise

start_is : (s : Split) → IsStart s → state_of s ≡ state_with base deltas (λ t. pos 0)
unfolding split_definitions
start_is s is = λ i. state_with (is.base i) (is.deltas i) (λ t. pos 0)

pub start_shape : (s : Split) → IsStart s → shape_of s ≡ record { base = 2; deltas = 2 ∷ 2 ∷ [] }
unfolding split_definitions
start_shape s is =
    let counts = lengths (λ d. d.items) s.deltas.items ∙ ap (map length) is.deltas in
    λ i. record { base = length (is.base i); deltas = counts i }

pub has_sites : (s : Split) (c : Command) → IsStart s → c ≡ shifted → has_places (shape_of s) c ≡ true
unfolding definitions meaning_definitions split_definitions
has_sites s c is e = ap₂ has_places (start_shape s is) e

pub can_shift : (s : Split) (c : Command) → IsStart s → c ≡ shifted → can_exec run_limit c (state_of s) ≡ true
unfolding definitions meaning_definitions split_definitions
can_shift s c is e = ap₂ (can_exec run_limit) e (start_is s is)

pub own_places : (s : Split) (c : Command) → IsStart s → c ≡ raise_own → has_places (shape_of s) c ≡ true
unfolding meaning_definitions split_definitions
own_places s c is e = ap₂ has_places (start_shape s is) e

pub own_runs : (s : Split) (c : Command) → IsStart s → c ≡ raise_own → can_exec run_limit c (state_of s) ≡ true
unfolding meaning_definitions split_definitions
own_runs s c is e = ap₂ (can_exec run_limit) e (start_is s is)

-- ---- folds
sums_fit :
    (s : Split) (st : State) → AgreeOnNames (state_of s) st → shape_of s ≡ record { base = 2; deltas = 2 ∷ 2 ∷ [] } →
    ((k x : ℕ) → k ≤ 2 → x < 2 → FitsSigned w64 (fold_state k st (BaseAt x))) → SumsFit s
unfolding split_definitions
sums_fit s st agree shape fits k x le lt =
    let sites : length s.deltas.items ≡ 2 = sym (length-map s.deltas.items (λ d. length d.items)) ∙ ap (λ (h : Shape). length h.deltas) shape in
    let objects : length s.base.items ≡ 2 = ap (λ (h : Shape). h.base) shape in
    subst (FitsSigned w64) (sym (same_folds (state_of s) st agree k x)) (fits k x (omega arith) (omega arith))

up_to_two :
    (P : ℕ → ℕ → Type 0) → P 0 0 → P 0 1 → P 1 0 → P 1 1 → P 2 0 → P 2 1 → (k x : ℕ) → k ≤ 2 → x < 2 → P k x
up_to_two P a b c d e f zero zero le lt = a
up_to_two P a b c d e f zero (suc zero) le lt = b
up_to_two P a b c d e f (suc zero) zero le lt = c
up_to_two P a b c d e f (suc zero) (suc zero) le lt = d
up_to_two P a b c d e f (suc (suc zero)) zero le lt = e
up_to_two P a b c d e f (suc (suc zero)) (suc zero) le lt = f
up_to_two P a b c d e f (suc (suc (suc k))) x le lt = absurd (omega arith)
up_to_two P a b c d e f zero (suc (suc x)) le lt = absurd (omega arith)
up_to_two P a b c d e f (suc zero) (suc (suc x)) le lt = absurd (omega arith)
up_to_two P a b c d e f (suc (suc zero)) (suc (suc x)) le lt = absurd (omega arith)

fit : (n : ℕ) → n < 2 ^ 63 → FitsSigned w64 (pos n)
fit n h = fits_signed_from_abs w64 (pos n) (omega arith)

abbrev before : State
before = state_with base deltas (λ t. pos 0)

abbrev after : State
after = (exec shifted before).state

before_fits : (k x : ℕ) → k ≤ 2 → x < 2 → FitsSigned w64 (fold_state k before (BaseAt x))
unfolding definitions meaning_definitions split_definitions
before_fits =
    up_to_two (λ k x. FitsSigned w64 (fold_state k before (BaseAt x)))
    (fit 5 (omega arith)) (fit 7 (omega arith)) (fit 7 (omega arith)) (fit 6 (omega arith)) (fit 10 (omega arith)) (fit 10 (omega arith))

after_fits : (k x : ℕ) → k ≤ 2 → x < 2 → FitsSigned w64 (fold_state k after (BaseAt x))
unfolding definitions meaning_definitions split_definitions
after_fits =
    up_to_two (λ k x. FitsSigned w64 (fold_state k after (BaseAt x)))
    (fit 5 (omega arith)) (fit 7 (omega arith)) (fit 7 (omega arith)) (fit 6 (omega arith)) (fit 11 (omega arith)) (fit 10 (omega arith))

pub start_sums : (s : Split) → IsStart s → SumsFit s
start_sums s is = sums_fit s before (λ x. ap (λ (st : State). st (location_of x)) (start_is s is)) (start_shape s is) before_fits

pub raised_sums :
    (old new : Split) (c : Command) → IsStart old → c ≡ shifted → AgreeOnNames (state_of new) (exec c (state_of old)).state →
    shape_of new ≡ shape_of old → SumsFit new
raised_sums old new c is e agree shape =
    let same : (exec c (state_of old)).state ≡ after = ap₂ (λ d st. (exec d st).state) e (start_is old is) in
    sums_fit new after (λ x. agree x ∙ ap (λ (st : State). st (location_of x)) same) (shape ∙ start_shape old is) after_fits
