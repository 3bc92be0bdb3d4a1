-- Lists of deltas: what is put to them, those of terms, and those of other sites.
use Rattle.homeo_plan.specs.Key.{definitions as plan_definitions}
use Rattle.std.proofs.Common.{◌≡◌, ℕ, ◌==◌, Bool, true, false, cond, not, ◌||◌, ◌&&◌, List, [], ◌∷◌, ◌++◌, ℤ, pos, ◌+ℤ◌, refl, sym, ap, ap₂, ◌∙◌, true≢false, arith}
use Rattle.std.specs.Ordering.{int_eq}
use Rattle.std.proofs.lemmas.Int.{ints}
use Rattle.std.proofs.lemmas.Bool.Decides.{nat_tests}
use Rattle.homeo_lemmas.proofs.Bools.{or_assoc}
use Rattle.homeo_lemmas.proofs.Integers.{is_zero_plus}
use Rattle.homeo_plan.specs.declared.forms.Delta.{Delta}
use Rattle.homeo_plan.specs.declared.forms.Term.{Term}
use Rattle.homeo_plan.specs.Linear.{AreInOrder, same_delta, add_deltas, deltas_of}
use Rattle.homeo_plan.specs.Needs.{remote}
use Rattle.homeo_plan.proofs.DeltaLists.{has, has_adds, After, in_order_adds, same_deltas}
use Rattle.homeo_plan.proofs.Factors.{factor, same_delta_is}
use Rattle.homeo_plan.proofs.Order.{Sorted, none_above}
use Rattle.homeo_follow.proofs.Terms.{AllCount}

pub has_append : (d : Delta) (ds es : List Delta) → has d (ds ++ es) ≡ (has d ds || has d es)
has_append d [] es = refl
has_append d (x ∷ ds) es = ap (λ b. same_delta d x || b) (has_append d ds es) ∙ or_assoc (same_delta d x) (has d ds) (has d es)

-- ---- the deltas of terms
-- a delta is there where its factor isn't 0
pub has_term : (d : Delta) (ts : List Term) → Sorted ts → AllCount ts → has d (deltas_of ts) ≡ not (int_eq (factor d ts) (pos 0))
unfolding plan_definitions
has_term d [] s c = refl
has_term d (t ∷ ts) s c = go (same_delta t.delta d) refl (has_term d ts s.1 c.1)
  where
    turned : same_delta d t.delta ≡ same_delta t.delta d
    turned = grind (arith, nat_tests)

    none : (z f : ℤ) → z ≡ pos 0 → int_eq f (pos 0) ≡ false → true ≡ not (int_eq (f +ℤ z) (pos 0))
    none z f e h = grind (arith, ints)

    other : (z : ℤ) → int_eq z (pos 0) ≡ int_eq (pos 0 +ℤ z) (pos 0)
    other z = ap (λ y. int_eq y (pos 0)) (is_zero_plus z)

    go :
        (v : Bool) → same_delta t.delta d ≡ v → has d (deltas_of ts) ≡ not (int_eq (factor d ts) (pos 0)) →
        (same_delta d t.delta || has d (deltas_of ts)) ≡ not (int_eq (cond v t.factor (pos 0) +ℤ factor d ts) (pos 0))
    go true q ih =
        let e : factor d ts ≡ pos 0 = ap (λ x. factor x ts) (sym (same_delta_is t.delta d q)) ∙ none_above t.delta ts s.0 in
        ap (λ b. b || has d (deltas_of ts)) (turned ∙ q) ∙ none (factor d ts) t.factor e c.0
    go false q ih = ap (λ b. b || has d (deltas_of ts)) (turned ∙ q) ∙ ih ∙ ap not (other (factor d ts))

pub and_or : (a b c : Bool) → (a && (b || c)) ≡ ((a && b) || (a && c))
and_or true b c = refl
and_or false b c = refl

-- ---- those of other sites
pub has_remote : (i : ℕ) (d : Delta) (ds : List Delta) → has d (remote i ds) ≡ (not (d.site == i) && has d ds)
unfolding plan_definitions
has_remote i d [] = nothing (d.site == i)
  where
    nothing : (b : Bool) → false ≡ (not b && false)
    nothing true = refl
    nothing false = refl
has_remote i d (e ∷ es) = go (e.site == i) refl (same_delta d e) refl (d.site == i) refl (has_remote i d es)
  where
    go :
        (u : Bool) → (e.site == i) ≡ u → (v : Bool) → same_delta d e ≡ v → (w : Bool) → (d.site == i) ≡ w →
        has d (remote i es) ≡ (not w && has d es) → has d (cond u (remote i es) (e ∷ remote i es)) ≡ (not w && (v || has d es))
    go true p true q true r ih = ih
    go true p true q false r ih = absurd (differ (same_delta_is d e q) p r)
      where
        differ : d ≡ e → (e.site == i) ≡ true → (d.site == i) ≡ false → ⊥
        differ k x y = true≢false (sym x ∙ sym (ap (λ (z : Delta). z.site == i) k) ∙ y)
    go true p false q w r ih = ih
    go false p true q true r ih = absurd (differ (same_delta_is d e q) p r)
      where
        differ : d ≡ e → (e.site == i) ≡ false → (d.site == i) ≡ true → ⊥
        differ k x y = true≢false (sym y ∙ ap (λ (z : Delta). z.site == i) k ∙ x)
    go false p true q false r ih = ap (λ b. b || has d (remote i es)) q
    go false p false q w r ih = ap (λ b. b || has d (remote i es)) q ∙ ih

after_remote : (i : ℕ) (c : Delta) (ds : List Delta) → After c ds → After c (remote i ds)
unfolding plan_definitions
after_remote i c [] a = tt
after_remote i c (d ∷ ds) a = go (d.site == i) (after_remote i c ds a.1)
  where
    go : (v : Bool) → After c (remote i ds) → After c (cond v (remote i ds) (d ∷ remote i ds))
    go true ih = ih
    go false ih = (a.0, ih)

pub ordered_remote : (i : ℕ) (ds : List Delta) → AreInOrder ds → AreInOrder (remote i ds)
unfolding plan_definitions
ordered_remote i [] o = tt
ordered_remote i (d ∷ ds) o = go (d.site == i) (ordered_remote i ds o.1)
  where
    go : (v : Bool) → AreInOrder (remote i ds) → AreInOrder (cond v (remote i ds) (d ∷ remote i ds))
    go true ih = ih
    go false ih = (after_remote i d ds o.0, ih)

pub remote_puts : (i : ℕ) (ds es : List Delta) → AreInOrder es → remote i (add_deltas ds es) ≡ add_deltas (remote i ds) (remote i es)
remote_puts i ds es o =
    same_deltas (remote i (add_deltas ds es)) (add_deltas (remote i ds) (remote i es)) (ordered_remote i (add_deltas ds es) (in_order_adds ds es o))
    (in_order_adds (remote i ds) (remote i es) (ordered_remote i es o))
    (λ d.
    has_remote i d (add_deltas ds es)
    ∙ ap (λ b. not (d.site == i) && b) (has_adds d ds es)
    ∙ and_or (not (d.site == i)) (has d ds) (has d es)
    ∙ sym (has_adds d (remote i ds) (remote i es) ∙ ap₂ ◌||◌ (has_remote i d ds) (has_remote i d es)))
