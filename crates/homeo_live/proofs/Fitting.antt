-- A state from outside that is tested.
use Rattle.std.proofs.Common.{◌≡◌, ℕ, zero, suc, ◌≤◌, List, [], ◌∷◌, map, length, get_or, ℤ, pos, ◌+ℤ◌, sym, ap, subst, ◌∙◌, arith, FitsSigned}
use Rattle.std.specs.Prelude.{All}
use Rattle.std.specs.Int.{w64}
use Rattle.std.proofs.lemmas.List.{length-map}
use Rattle.homeo_syntax.specs.Source as s
use Rattle.homeo_meaning.specs.Acceptance.{IsAccepted}
use Rattle.homeo_meaning.specs.Key.{definitions as meaning_definitions}
use Rattle.homeo_meaning.specs.Bounds as m
use Rattle.homeo_meaning.specs.Bounds.{AreIn, IsWithin, IsIn, all_bounds, bounds_at}
use Rattle.homeo_meaning.specs.Schema.{schema_of}
use Rattle.homeo_meaning.proofs.Within.{all_within, length_in}
use Rattle.homeo_round.specs.Key.{definitions as round_definitions}
use Rattle.homeo_round.specs.PlusDeltas.{plus_deltas}
use Rattle.homeo_round.proofs.Added.{plus_at}
use Rattle.homeo_core.proofs.InRounds.{all_fit}
use Rattle.homeo_carry.specs.CarryView.{plain_bounds}
use Rattle.homeo_carry.specs.declared.bounds.Bounds.{Bounds}
use Rattle.homeo_live.specs.inner.Standing.{AreFitting}

sums_in : (bs : List m.Bounds) (base deltas : List ℤ) → AreIn bs base → length deltas ≡ length base → ((n : ℕ) → IsIn (bounds_at bs n) (get_or base n (pos 0) +ℤ get_or deltas n (pos 0))) → AreIn bs (plus_deltas base deltas)
unfolding meaning_definitions round_definitions
sums_in [] [] deltas within long all = tt
sums_in [] (v ∷ base) deltas within long all = absurd within
sums_in (b ∷ bs) [] deltas within long all = absurd within
sums_in (b ∷ bs) (v ∷ base) [] within long all = absurd (omega (arith, long))
sums_in (b ∷ bs) (v ∷ base) (d ∷ deltas) within long all = (all zero, sums_in bs base deltas within.1 (omega (arith, long)) (λ n. all (suc n)))

module _ (w : s.Workload) (bounds : List Bounds) (are : map plain_bounds bounds ≡ all_bounds (schema_of w)) where
  within_all : (values : List ℤ) → AreIn (map plain_bounds bounds) values → IsWithin (schema_of w) values
  unfolding meaning_definitions
  within_all values h = subst (λ bs. AreIn bs values) are h

  pub all_in : (values : List ℤ) → IsWithin (schema_of w) values → AreIn (map plain_bounds bounds) values
  unfolding meaning_definitions
  all_in values h = subst (λ bs. AreIn bs values) (sym are) h

  bounds_long : (values : List ℤ) → IsWithin (schema_of w) values → length bounds ≡ length values
  unfolding meaning_definitions
  bounds_long values h = sym (length-map bounds plain_bounds) ∙ ap length are ∙ sym (length_in (all_bounds (schema_of w)) values h)

  pub fitting : (base deltas sum : List ℤ) → AreIn (map plain_bounds bounds) base → length deltas ≡ length bounds → sum ≡ plus_deltas base deltas → AreIn (map plain_bounds bounds) sum → AreFitting w base deltas
  unfolding meaning_definitions
  fitting base deltas sum within count is h =
      let long : length deltas ≡ length base = count ∙ bounds_long base (within_all base within) in
      record {
        within = within_all base within;
        count = long;
        all = λ n. subst (IsIn (bounds_at (all_bounds (schema_of w)) n)) (ap (λ vs. get_or vs n (pos 0)) is ∙ plus_at base deltas n (let le : length deltas ≤ length base = omega (arith, long) in le)) (all_within (schema_of w) sum (within_all sum h) n);
      }

  module _ (base deltas : List ℤ) (fit : AreFitting w base deltas) where
    pub as_many : length deltas ≡ length bounds
    as_many = fit.count ∙ sym (bounds_long base fit.within)

    sum_within : IsWithin (schema_of w) (plus_deltas base deltas)
    unfolding meaning_definitions
    sum_within = sums_in (all_bounds (schema_of w)) base deltas fit.within fit.count fit.all

    pub sum_fits : IsAccepted w → All (FitsSigned w64) (plus_deltas base deltas)
    sum_fits accepted = all_fit w (plus_deltas base deltas) accepted sum_within

    pub sum_in : (sum : List ℤ) → sum ≡ plus_deltas base deltas → AreIn (map plain_bounds bounds) sum
    sum_in sum is = all_in sum (subst (IsWithin (schema_of w)) (sym is) sum_within)
