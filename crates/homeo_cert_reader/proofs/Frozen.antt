-- A delta among deltas in order, by the first of them that isn't before it.
use Rattle.std.proofs.Common.{◌≡◌, ℕ, zero, suc, ◌<◌, Bool, true, false, ◌||◌, List, [], ◌∷◌, slice_index_or, length, sym, ap, ap₂, ◌∙◌, arith, refl}
use Rattle.std.specs.List.{list_any}
use Rattle.std.specs.List.Sorted.{IsPartitionedBy}
use Rattle.std.proofs.lemmas.Bool.Decides.{nat_tests}
use Rattle.homeo_plan.specs.Key.{definitions as plan_definitions}
use Rattle.homeo_plan.specs.declared.forms.Delta.{Delta}
use Rattle.homeo_plan.specs.Each.{Each}
use Rattle.homeo_plan.specs.Linear.{AreInOrder, same_delta, delta_before}
use Rattle.homeo_plan.proofs.Factors.{before_is_other, before_trans}

-- ---- two deltas
before_isnt_it : (d e : Delta) → delta_before e d ≡ true → same_delta d e ≡ false
unfolding plan_definitions
before_isnt_it d e h = grind (arith, nat_tests)

behind_it : (d e : Delta) → same_delta d e ≡ false → delta_before e d ≡ false → delta_before d e ≡ true
unfolding plan_definitions
behind_it d e p q = grind (arith, nat_tests)

pub same_either_way : (d e : Delta) → same_delta e d ≡ same_delta d e
unfolding plan_definitions
same_either_way d e = grind (arith, nat_tests)

-- ---- those behind it
none_behind : (d e : Delta) (es : List Delta) → delta_before d e ≡ true → Each (λ f. delta_before e f ≡ true) es → list_any (same_delta d) es ≡ false
unfolding plan_definitions
none_behind d e [] h k = refl
none_behind d e (f ∷ fs) h k = ap₂ ◌||◌ (before_is_other d f (before_trans d e f h k.0)) (none_behind d e fs h k.1)

-- where the first isn't before it, none but the first can be it
at_front : (d e : Delta) (es : List Delta) → delta_before e d ≡ false → AreInOrder (e ∷ es) → list_any (same_delta d) (e ∷ es) ≡ same_delta d e
unfolding plan_definitions
at_front d e es h order = go (same_delta d e) refl
  where
    go : (v : Bool) → same_delta d e ≡ v → (same_delta d e || list_any (same_delta d) es) ≡ same_delta d e
    go true is = ap (λ w. w || list_any (same_delta d) es) is ∙ sym is
    go false is = ap₂ ◌||◌ is (none_behind d e es (behind_it d e is h) order.0) ∙ sym is

-- ---- all
pub at_place :
    (d : Delta) (ds : List Delta) (i : ℕ) (x : Delta) → AreInOrder ds → i < length ds → ((k : ℕ) → k < i → delta_before (slice_index_or ds k x) d ≡ true) →
    delta_before (slice_index_or ds i x) d ≡ false → list_any (same_delta d) ds ≡ same_delta d (slice_index_or ds i x)
unfolding plan_definitions
at_place d [] i x order l below above = absurd (omega (arith, l))
at_place d (e ∷ es) zero x order l below above = at_front d e es above order
at_place d (e ∷ es) (suc i) x order l below above =
    ap (λ w. w || list_any (same_delta d) es) (before_isnt_it d e (below 0 (omega arith)))
    ∙ at_place d es i x order.1 (omega (arith, l)) (λ k m. below (suc k) (omega (arith, m))) above

pub all_before : (d : Delta) (ds : List Delta) (x : Delta) → ((k : ℕ) → k < length ds → delta_before (slice_index_or ds k x) d ≡ true) → list_any (same_delta d) ds ≡ false
unfolding plan_definitions
all_before d [] x below = refl
all_before d (e ∷ es) x below =
    ap (λ w. w || list_any (same_delta d) es) (before_isnt_it d e (below 0 (omega arith))) ∙ all_before d es x (λ k m. below (suc k) (omega (arith, m)))

each_at : (P : Delta → Type 0) (ds : List Delta) (n : ℕ) (x : Delta) → n < length ds → Each P ds → P (slice_index_or ds n x)
unfolding plan_definitions
each_at P [] n x l h = absurd (omega (arith, l))
each_at P (y ∷ ys) zero x l h = h.0
each_at P (y ∷ ys) (suc n) x l h = each_at P ys n x (omega (arith, l)) h.1

pub parted : (d : Delta) (ds : List Delta) → AreInOrder ds → IsPartitionedBy (λ y. delta_before y d) ds
unfolding plan_definitions
parted d [] order i j x l m p = absurd (omega (arith, m))
parted d (e ∷ es) order zero zero x l m p = p
parted d (e ∷ es) order zero (suc j) x l m p =
    let here : j < length es = omega (arith, m) in
    before_trans e (slice_index_or es j x) d (each_at (λ y. delta_before e y ≡ true) es j x here order.0) p
parted d (e ∷ es) order (suc i) zero x l m p = absurd (omega (arith, l))
parted d (e ∷ es) order (suc i) (suc j) x l m p = parted d es order.1 i j x (omega (arith, l)) (omega (arith, m)) p
