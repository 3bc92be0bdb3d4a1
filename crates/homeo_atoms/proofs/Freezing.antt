-- A sorted set of places is the list of deltas in order.
use Rattle.homeo_plan.specs.Key.{definitions}
use Rattle.std.proofs.Common.{◌≡◌, ℕ, ◌==◌, nat_lt, ◌+◌, ◌<◌, Bool, true, false, cond, ◌&&◌, List, [], ◌∷◌, map, length, take, get_or, refl, sym, ap, ◌∙◌, arith}
use Rattle.std.specs.Prelude.{◌||◌}
use Rattle.std.specs.Ordering.{nat_cmp, ordering_then, match_ordering}
use Rattle.std.specs.BTreeSet.{insert_key}
use Rattle.std.specs.declared.cmp.Ordering.{Ordering}
use Rattle.std.specs.declared.cmp.Ordering.TheVariants.{Less, Equal, Greater}
use Rattle.std.proofs.lemmas.Bool.Decides.{nat_tests}
use Rattle.std.proofs.lemmas.List.{take_more}
use Rattle.homeo_plan.specs.declared.forms.Delta.{Delta}
use Rattle.homeo_plan.specs.Linear.{same_delta, delta_before, add_delta, add_deltas}
use Rattle.homeo_atoms.specs.declared.freezes.Place.{Place}
use Rattle.homeo_atoms.specs.inner.Frozen.{delta_at}
use Rattle.homeo_atoms.proofs.Putting.{deltas_push}

-- the order of the code
abbrev pub place_cmp : Place → Place → Ordering
place_cmp a b = ordering_then (nat_cmp a.object b.object) (nat_cmp a.site b.site)

not-both : (m n : ℕ) → nat_lt m n ≡ true → (m == n) ≡ true → ⊥
not-both m n p q = grind (arith, nat_tests)

in-order :
    {X : Type 0} (a b : Place) (x y z : X) →
    match_ordering (place_cmp a b) x y z ≡ cond (same_delta (delta_at a) (delta_at b)) y (cond (delta_before (delta_at a) (delta_at b)) x z)
unfolding definitions
in-order a b x y z = go (nat_lt a.object b.object) (a.object == b.object) (nat_lt a.site b.site) (a.site == b.site) (not-both a.object b.object) (not-both a.site b.site)
  where
    go :
        (l e l' e' : Bool) → (l ≡ true → e ≡ true → ⊥) → (l' ≡ true → e' ≡ true → ⊥) →
        match_ordering (ordering_then (cond l Less (cond e Equal Greater)) (cond l' Less (cond e' Equal Greater))) x y z ≡
        cond (e && e') y (cond (l || (e && l')) x z)
    go true true l' e' h h' = absurd (h refl refl)
    go true false l' e' h h' = refl
    go false true true true h h' = absurd (h' refl refl)
    go false true true false h h' = refl
    go false true false true h h' = refl
    go false true false false h h' = refl
    go false false l' e' h h' = refl

map-match : {X Y : Type 0} (f : X → Y) (o : Ordering) (x y z : X) → f (match_ordering o x y z) ≡ match_ordering o (f x) (f y) (f z)
map-match f Less x y z = refl
map-match f Equal x y z = refl
map-match f Greater x y z = refl

inserted : (k : Place) (ks : List Place) → map delta_at (insert_key place_cmp ks k) ≡ add_delta (delta_at k) (map delta_at ks)
unfolding definitions
inserted k [] = refl
inserted k (x ∷ ks) =
    map-match (map delta_at) (place_cmp k x) (k ∷ x ∷ ks) (x ∷ ks) (x ∷ insert_key place_cmp ks k)
    ∙ ap (λ l. match_ordering (place_cmp k x) (map delta_at (k ∷ x ∷ ks)) (map delta_at (x ∷ ks)) (delta_at x ∷ l)) (inserted k ks)
    ∙ in-order k x (map delta_at (k ∷ x ∷ ks)) (map delta_at (x ∷ ks)) (delta_at x ∷ add_delta (delta_at k) (map delta_at ks))

pub frozen_more :
    (ds : List Delta) (i : ℕ) (d : Delta) (k : Place) → i < length ds → delta_at k ≡ get_or ds i d →
    (start : List Delta) (before after : List Place) → map delta_at before ≡ add_deltas (take i ds) start →
    after ≡ insert_key place_cmp before k → map delta_at after ≡ add_deltas (take (i + 1) ds) start
frozen_more ds i d k h is start before after e put =
    ap (map delta_at) put ∙ inserted k before
    ∙ (λ j. add_delta (is j) (e j))
    ∙ sym (deltas_push (take i ds) start (get_or ds i d))
    ∙ ap (λ l. add_deltas l start) (sym (take_more ds i d h))
