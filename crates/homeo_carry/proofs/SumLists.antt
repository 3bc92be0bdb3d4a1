-- The deltas of lists, added one after another.
use Rattle.homeo_meaning.specs.Key.{definitions as meaning_definitions}
use Rattle.homeo_nodes.specs.Key.{definitions}
use Rattle.std.proofs.Common.{◌≡◌, ℕ, ◌+◌, ◌<◌, List, [], ◌∷◌, ◌++◌, map, length, take, get_or, ℤ, FitsSigned, refl, sym, ap, subst, ◌∙◌, arith}
use Rattle.std.specs.Prelude.{All}
use Rattle.std.specs.Int.{w64}
use Rattle.std.proofs.lemmas.List.{take-map, take_all}
use Rattle.homeo_lemmas.proofs.Lists.{map_take_more}
use Rattle.homeo_syntax.specs.Source as s
use Rattle.homeo_meaning.specs.Acceptance.{IsAccepted}
use Rattle.homeo_meaning.specs.Bounds.{IsWithin}
use Rattle.homeo_meaning.specs.Schema.{schema_of}
use Rattle.homeo_core.proofs.InRounds.{all_fit}
use Rattle.homeo_round.specs.PlusDeltas.{plus_deltas}
use Rattle.homeo_nodes.specs.Nodes.{folded}
use Rattle.homeo_carry.specs.inner.Carrying.{FoldsFit}

folded_push : (base : List ℤ) (xs : List (List ℤ)) (d : List ℤ) → folded base (xs ++ d ∷ []) ≡ plus_deltas (folded base xs) d
unfolding definitions
folded_push base [] d = refl
folded_push base (x ∷ xs) d = folded_push (plus_deltas base x) xs d

-- ---- the deltas of one more
module _ {X : Type 0} (deltas_of : X → List ℤ) (base : List ℤ) (xs : List X) (i : ℕ) (x : X) (lt : i < length xs) (is : x ≡ get_or xs i x) (now : List ℤ) (so : now ≡ folded base (map deltas_of (take i xs))) where
  pub fold_next : (next deltas : List ℤ) → deltas ≡ deltas_of x → next ≡ plus_deltas now deltas → next ≡ folded base (map deltas_of (take (i + 1) xs))
  fold_next next deltas lent sum =
      sum ∙ ap (plus_deltas now) lent ∙ ap (λ v. plus_deltas v (deltas_of x)) so
      ∙ sym (folded_push base (map deltas_of (take i xs)) (deltas_of x))
      ∙ ap (folded base) (sym (map_take_more deltas_of xs i x lt is))

  pub fits_next : (deltas : List ℤ) → deltas ≡ deltas_of x → FoldsFit base (map deltas_of xs) → All (FitsSigned w64) (plus_deltas now deltas)
  fits_next deltas lent fit =
      subst (All (FitsSigned w64)) (ap (folded base) (take-map deltas_of (i + 1) xs) ∙ sym (fold_next (plus_deltas now deltas) deltas lent refl)) (fit (i + 1))

-- ---- sums within bounds
pub sums_fit : (w : s.Workload) (base : List ℤ) (deltas : List (List ℤ)) → IsAccepted w → ((k : ℕ) → IsWithin (schema_of w) (folded base (take k deltas))) → FoldsFit base deltas
sums_fit w base deltas accepted sums k = all_fit w (folded base (take k deltas)) accepted (sums k)

pub whole_within : (w : s.Workload) (base : List ℤ) (deltas : List (List ℤ)) → ((k : ℕ) → IsWithin (schema_of w) (folded base (take k deltas))) → IsWithin (schema_of w) (folded base deltas)
unfolding meaning_definitions
whole_within w base deltas sums =
    subst (λ ds. IsWithin (schema_of w) (folded base ds)) (take_all (length deltas) deltas (omega arith)) (sums (length deltas))
