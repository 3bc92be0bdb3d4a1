-- What a loop over measured calls has gone along, and numbers that are told up to a cap.
use Rattle.std.proofs.Common.{◌≡◌, ℕ, zero, suc, ◌+◌, ◌<◌, ◌≤◌, min, Bool, true, false, List, [], ◌∷◌, ◌++◌, map, take, drop, Option, length, get_or, refl, sym, ap, subst, ◌∙◌, arith, zero-add, add-one, drop-cons}
use Rattle.std.specs.Prelude.{nat_lt}
use Rattle.std.specs.List.{sum_by}
use Rattle.std.proofs.lemmas.Int.{clamps}
use Rattle.std.proofs.lemmas.List.{drop_all}
use Rattle.std.proofs.lemmas.List.Sums.{sum_by-append}
use Rattle.std.proofs.lemmas.Bool.Decides.{nat_tests}
use Rattle.homeo_syntax.specs.Source as s
use Rattle.homeo_meaning.specs.Key.{definitions as meaning_definitions}
use Rattle.homeo_meaning.specs.TransactionRules.{each_from}
use Rattle.homeo_meaning.specs.GlobalNames as g
use Rattle.homeo_meaning.specs.Schema.{nat_of, schema_of}
use Rattle.homeo_meaning.specs.CallForm.{call_form}
use Rattle.homeo_rules.specs.inner.Deciding.{keep_all}
use Rattle.homeo_meaning.specs.declared.rules.Fault.{Fault}
use Rattle.homeo_size.specs.Measured.{IsMeasure}
use Rattle.homeo_rules.specs.inner.Sizes.{call_of, AreMeasured, known}
use Rattle.homeo_rules.specs.declared.rules.sizes.MeasuredCall.{MeasuredCall}
use Rattle.homeo_rules.proofs.Steps.{keep_all-append}

-- ---- what is told up to a cap decides as what is not
pub capped-less : (k n : ℕ) → k ≤ 8000000 → nat_lt k (min 8000001 n) ≡ nat_lt k n
capped-less k n h = by_case (nat_lt k n) refl
  where
    by_case : (b : Bool) → nat_lt k n ≡ b → nat_lt k (min 8000001 n) ≡ nat_lt k n
    by_case true e =
        let lt : k < n = grind (arith, nat_tests) in
        let more : k < min 8000001 n = omega (arith, clamps) in
        let yes : nat_lt k (min 8000001 n) ≡ true = grind (arith, nat_tests) in
        yes ∙ sym e
    by_case false e =
        let le : n ≤ k = grind (arith, nat_tests) in
        let less : min 8000001 n ≤ k = omega (arith, clamps) in
        let no : nat_lt k (min 8000001 n) ≡ false = grind (arith, nat_tests) in
        no ∙ sym e

-- the total so far is that of the sizes, or both are too large
abbrev pub AgreeUpTo : ℕ → ℕ → ℕ → Type 0
AgreeUpTo k m n = min k m ≡ min k n

-- with one more, which is told up to the cap, or is too large with those before it
pub total_known : (total next a e m : ℕ) → AgreeUpTo 2000001 total a → next ≡ min 8000001 (total + m) → m ≡ min 8000001 e → AgreeUpTo 2000001 next (a + e)
total_known total next a e m agree is measured = omega (arith, clamps)

-- ---- along the calls
abbrev pub before_of : List MeasuredCall → ℕ → List g.SitedCall
before_of calls i = map call_of (take i calls)

abbrev pub after_of : List MeasuredCall → ℕ → List g.SitedCall
after_of calls i = map call_of (drop i calls)

pub take-next : (calls : List MeasuredCall) (i : ℕ) (c : MeasuredCall) → i < length calls → get_or calls i c ≡ c → before_of calls (i + 1) ≡ before_of calls i ++ call_of c ∷ []
take-next [] i c h e = absurd (omega arith)
take-next (d ∷ calls) zero c h e = ap (λ x. call_of x ∷ []) e
take-next (d ∷ calls) (suc i) c h e =
    let next : suc i + 1 ≡ suc (i + 1) = omega arith in
    ap (λ k. map call_of (take k (d ∷ calls))) next ∙ ap (λ l. call_of d ∷ l) (take-next calls i c (omega arith) e)

pub drop-next : (calls : List MeasuredCall) (i : ℕ) (c : MeasuredCall) → i < length calls → get_or calls i c ≡ c → after_of calls i ≡ call_of c ∷ after_of calls (i + 1)
drop-next [] i c h e = absurd (omega arith)
drop-next (d ∷ calls) zero c h e = ap (λ x. call_of x ∷ map call_of calls) e
drop-next (d ∷ calls) (suc i) c h e =
    let next : suc i + 1 ≡ suc (i + 1) = omega arith in
    drop-next calls i c (omega arith) e ∙ ap (λ k. call_of c ∷ map call_of (drop k (d ∷ calls))) (sym next)

-- one more item of a rule that looks at those before
pub each-next : (rule : List g.SitedCall → g.SitedCall → List Fault) (best : Option Fault) (before rest : List g.SitedCall) (c : g.SitedCall) → keep_all best (each_from rule before (c ∷ rest)) ≡ keep_all (keep_all best (rule before c)) (each_from rule (before ++ c ∷ []) rest)
unfolding meaning_definitions
each-next rule best before rest c = keep_all-append best (rule before c) (each_from rule (before ++ c ∷ []) rest)

-- what is kept so far, and what the rule says of the rest
abbrev pub left_of : (List g.SitedCall → g.SitedCall → List Fault) → Option Fault → List MeasuredCall → ℕ → Option Fault
left_of rule best calls i = keep_all best (each_from rule (before_of calls i) (after_of calls i))

pub one_more : (rule : List g.SitedCall → g.SitedCall → List Fault) (best : Option Fault) (calls : List MeasuredCall) (i : ℕ) (c : MeasuredCall) → i < length calls → get_or calls i c ≡ c → left_of rule best calls i ≡ left_of rule (keep_all best (rule (before_of calls i) (call_of c))) calls (i + 1)
unfolding meaning_definitions
one_more rule best calls i c h e =
    ap (λ l. keep_all best (each_from rule (before_of calls i) l)) (drop-next calls i c h e)
    ∙ each-next rule best (before_of calls i) (after_of calls (i + 1)) (call_of c)
    ∙ ap (λ l. keep_all (keep_all best (rule (before_of calls i) (call_of c))) (each_from rule l (after_of calls (i + 1)))) (sym (take-next calls i c h e))

pub none_more : (rule : List g.SitedCall → g.SitedCall → List Fault) (best : Option Fault) (calls : List MeasuredCall) (i : ℕ) → length calls ≤ i → left_of rule best calls i ≡ best
unfolding meaning_definitions
none_more rule best calls i h = ap (λ l. keep_all best (each_from rule (before_of calls i) (map call_of l))) (drop_all i calls h)

abbrev pub sum_before : (g.SitedCall → ℕ) → List MeasuredCall → ℕ → ℕ
sum_before f calls i = sum_by f (before_of calls i)

pub sum_next : (f : g.SitedCall → ℕ) (calls : List MeasuredCall) (i : ℕ) (c : MeasuredCall) → i < length calls → get_or calls i c ≡ c → sum_before f calls (i + 1) ≡ sum_before f calls i + f (call_of c)
sum_next f calls i c h e =
    ap (sum_by f) (take-next calls i c h e)
    ∙ sum_by-append f (before_of calls i) (call_of c ∷ [])
    ∙ ap (λ n. sum_before f calls i + n) (zero-add (f (call_of c)))

pub again : (calls : List MeasuredCall) (i : ℕ) (d : MeasuredCall) → i < length calls → get_or calls i (get_or calls i d) ≡ get_or calls i d
again [] i d h = absurd (omega arith)
again (c ∷ calls) zero d h = refl
again (c ∷ calls) (suc i) d h = again_other calls i (get_or calls i d) d (omega arith)
  where
    again_other : (calls : List MeasuredCall) (i : ℕ) (d e : MeasuredCall) → i < length calls → get_or calls i d ≡ get_or calls i e
    again_other [] i d e h = absurd (omega arith)
    again_other (c ∷ calls) zero d e h = refl
    again_other (c ∷ calls) (suc i) d e h = again_other calls i d e (omega arith)

pub head_measured : (w : s.Workload) (calls : List MeasuredCall) (i : ℕ) (c : MeasuredCall) → i < length calls → get_or calls i c ≡ c → AreMeasured w (drop i calls) → IsMeasure (schema_of w) (nat_of w.sites.value) (call_form w (call_of c)) (known c.body) × AreMeasured w (drop (i + 1) calls)
head_measured w calls i c lt at h =
    subst (λ l. AreMeasured w l) (rw add-one (drop-cons calls i c lt) ∙ ap (λ d. d ∷ drop (i + 1) calls) at) h
