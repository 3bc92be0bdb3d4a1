-- Forms over own deltas, and their values.
use Rattle.homeo_plan.specs.Key.{definitions as plan_definitions}
use Rattle.homeo_follow.specs.Key.{definitions}
use Rattle.std.proofs.Common.{◌≡◌, ℕ, ◌==◌, ◌+◌, ◌<◌, List, [], ◌∷◌, ◌++◌, map, take, length, get_or, ℤ, pos, ◌+ℤ◌, ◌*ℤ◌, ◌≤◌, sym, ap, ◌∙◌, arith}
use Rattle.std.specs.Int.{w64, int_wrap}
use Rattle.std.specs.List.{list_any}
use Rattle.std.proofs.Math.Seq.{take-length}
use Rattle.std.proofs.lemmas.Int.{ints, fits_signed_from_abs, int_wrap_fits, int_wrap-add_left, int_wrap-add_right}
use Rattle.std.proofs.lemmas.List.{map_more}
use Rattle.std.proofs.lemmas.Simd.{map-map}
use Rattle.homeo_meaning.specs.LowMeaning.{State, BaseAt}
use Rattle.homeo_plan.specs.declared.forms.Delta.{Delta}
use Rattle.homeo_follow.specs.Follow.{own_state, Followed}
use Rattle.homeo_plan.specs.declared.forms.Term.{Term}
use Rattle.homeo_plan.specs.Linear.{add_deltas, terms_value, form_value}
use Rattle.homeo_linear.specs.declared.effect.OwnForm.{OwnForm}
use Rattle.homeo_linear.specs.declared.effect.OwnTerm.{OwnTerm}
use Rattle.homeo_linear.specs.declared.effect.OwnWrite.{OwnWrite}
use Rattle.homeo_linear.specs.declared.effect.Effect.{Effect}
use Rattle.homeo_linear.specs.Effect.{plain_own_term, plain_own_form, IsEffect}
use Rattle.homeo_linear.proofs.Gaining.{any_once}

-- a term on a whole object is one over own deltas
pub term_is : (t : Term) (f : ℤ) → f ≡ t.factor → t.delta.site ≡ 0 → plain_own_term (record { object = t.delta.object; factor = f }) ≡ t
unfolding definitions plan_definitions
term_is t f e s = λ i. record { delta = record { object = t.delta.object; site = sym s i }; factor = e i }

-- the terms at a site's deltas
abbrev pub sum_of : List OwnTerm → (ℕ → ℤ) → ℤ
sum_of ts x = terms_value (map plain_own_term ts) (own_state x)

terms_append : (ts us : List Term) (s : State) → terms_value (ts ++ us) s ≡ terms_value ts s +ℤ terms_value us s
unfolding plan_definitions
terms_append [] us s = omega (arith, ints)
terms_append (t ∷ ts) us s = omega (arith, ints, terms_append ts us s)

one_term : (t : OwnTerm) (x : ℕ → ℤ) → terms_value (plain_own_term t ∷ []) (own_state x) ≡ t.factor *ℤ x t.object
unfolding definitions plan_definitions
one_term t x = omega (arith, ints)

pub sum_begins : (x : ℕ → ℤ) → pos 0 ≡ int_wrap w64 (sum_of [] x)
unfolding plan_definitions
sum_begins x = sym (int_wrap_fits w64 (pos 0) (fits_signed_from_abs w64 (pos 0) (omega arith)))

pub sum_more :
    (ts : List OwnTerm) (k : ℕ) (d : OwnTerm) (x : ℕ → ℤ) (sum next : ℤ) → k < length ts → sum ≡ int_wrap w64 (sum_of (take k ts) x) →
    next ≡ int_wrap w64 (sum +ℤ ((get_or ts k d).factor *ℤ x (get_or ts k d).object)) → next ≡ int_wrap w64 (sum_of (take (k + 1) ts) x)
sum_more ts k d x sum next lt before is =
    let t : OwnTerm = get_or ts k d in
    let more : sum_of (take (k + 1) ts) x ≡ sum_of (take k ts) x +ℤ (t.factor *ℤ x t.object) =
    ap (λ us. terms_value us (own_state x)) (map_more plain_own_term ts k d lt)
    ∙ terms_append (map plain_own_term (take k ts)) (plain_own_term t ∷ []) (own_state x)
    ∙ ap (λ z. sum_of (take k ts) x +ℤ z) (one_term t x) in
    is ∙ ap (λ a. int_wrap w64 (a +ℤ (t.factor *ℤ x t.object))) before
    ∙ int_wrap-add_left w64 (sum_of (take k ts) x) (t.factor *ℤ x t.object)
    ∙ ap (int_wrap w64) (sym more)

pub form_is :
    (f : OwnForm) (ts : List OwnTerm) (k : ℕ) (x : ℕ → ℤ) (sum whole : ℤ) → ts ≡ f.terms.items → length ts ≤ k → k ≤ length ts →
    sum ≡ int_wrap w64 (sum_of (take k ts) x) → whole ≡ int_wrap w64 (f.constant +ℤ sum) → whole ≡ int_wrap w64 (form_value (plain_own_form f) (own_state x))
unfolding plan_definitions
form_is f ts k x sum whole lent past within all is =
    let end : k ≡ length ts = omega (arith, past, within) in
    is ∙ ap (λ a. int_wrap w64 (f.constant +ℤ a)) (all ∙ ap (λ us. int_wrap w64 (sum_of us x)) (ap (λ n. take n ts) end ∙ take-length ts ∙ lent))
    ∙ int_wrap-add_right w64 f.constant (sum_of f.terms.items x)

-- what is made of what was followed is its effect
pub effect_is :
    (q : Followed) (e : Effect) (written once : List Delta) → q.written ≡ map (λ d. d.object) written → once ≡ add_deltas written [] →
    map (λ w. w.object) e.writes.items ≡ map (λ d. d.object) once →
    map (λ w. plain_own_form w.form) e.writes.items ≡ map (λ d. q.forms (BaseAt d.object)) once →
    map plain_own_form e.prints.items ≡ q.prints → IsEffect q e
effect_is q e written once all order objects forms prints =
    record {
      objects = λ n.
          ap (list_any (λ m. n == m)) objects ∙ any_once (λ m. n == m) written once order ∙ ap (list_any (λ m. n == m)) (sym all);
      forms =
          forms ∙ sym (map-map (λ n. q.forms (BaseAt n)) (λ (d : Delta). d.object) once) ∙ ap (map (λ n. q.forms (BaseAt n))) (sym objects)
          ∙ map-map (λ n. q.forms (BaseAt n)) (λ (w : OwnWrite). w.object) e.writes.items;
      prints = prints;
    }
