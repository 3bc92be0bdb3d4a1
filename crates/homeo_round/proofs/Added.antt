-- Deltas added to values one after another.
use Rattle.homeo_round.specs.Key.{definitions}
use Rattle.std.proofs.Common.{◌≡◌, ℕ, zero, suc, ◌<◌, ◌≤◌, min, List, [], ◌∷◌, length, take, get_or, ℤ, pos, ◌+ℤ◌, refl, sym, ap, subst, arith, slice_set, FitsSigned}
use Rattle.std.specs.Prelude.{All}
use Rattle.std.specs.Int.{w64}
use Rattle.std.proofs.lemmas.Int.{ints}
use Rattle.homeo_round.specs.PlusDeltas.{plus_deltas}

pub plus_at : (values deltas : List ℤ) (n : ℕ) → length deltas ≤ length values → get_or (plus_deltas values deltas) n (pos 0) ≡ get_or values n (pos 0) +ℤ get_or deltas n (pos 0)
unfolding definitions
plus_at [] [] n le = refl
plus_at [] (d ∷ deltas) n le = absurd (omega (arith, le))
plus_at (v ∷ values) [] zero le = omega (arith, ints)
plus_at (v ∷ values) [] (suc n) le = omega (arith, ints)
plus_at (v ∷ values) (d ∷ deltas) zero le = refl
plus_at (v ∷ values) (d ∷ deltas) (suc n) le = plus_at values deltas n (omega (arith, le))

pub plus_length : (values deltas : List ℤ) → length (plus_deltas values deltas) ≡ length values
unfolding definitions
plus_length [] deltas = refl
plus_length (v ∷ values) [] = refl
plus_length (v ∷ values) (d ∷ deltas) = ap suc (plus_length values deltas)

pub plus_none : (values : List ℤ) → values ≡ plus_deltas values []
unfolding definitions
plus_none [] = refl
plus_none (v ∷ values) = refl

pub plus_next : (values deltas : List ℤ) (i : ℕ) → i < length deltas → slice_set (plus_deltas values (take i deltas)) i (get_or (plus_deltas values (take i deltas)) i (pos 0) +ℤ get_or deltas i (pos 0)) ≡ plus_deltas values (take (suc i) deltas)
unfolding definitions
plus_next values [] i lt = absurd (omega (arith, lt))
plus_next [] (d ∷ deltas) zero lt = refl
plus_next [] (d ∷ deltas) (suc i) lt = refl
plus_next (v ∷ values) (d ∷ deltas) zero lt = ap (λ l. (v +ℤ d) ∷ l) (plus_none values)
plus_next (v ∷ values) (d ∷ deltas) (suc i) lt = ap (λ l. (v +ℤ d) ∷ l) (plus_next values deltas i (omega (arith, lt)))

-- deltas beyond the values change nothing
pub plus_taken : (values deltas : List ℤ) (n : ℕ) → min (length values) (length deltas) ≤ n → plus_deltas values (take n deltas) ≡ plus_deltas values deltas
unfolding definitions
plus_taken [] deltas n le = refl
plus_taken (v ∷ values) [] zero le = refl
plus_taken (v ∷ values) [] (suc n) le = refl
plus_taken (v ∷ values) (d ∷ deltas) zero le = absurd (omega (arith, le))
plus_taken (v ∷ values) (d ∷ deltas) (suc n) le = ap (λ l. (v +ℤ d) ∷ l) (plus_taken values deltas n (omega (arith, le)))

pub plus_here : (values deltas : List ℤ) (i : ℕ) → i < length deltas → i < length values → get_or (plus_deltas values (take i deltas)) i (pos 0) +ℤ get_or deltas i (pos 0) ≡ get_or (plus_deltas values deltas) i (pos 0)
unfolding definitions
plus_here values [] i lt inside = absurd (omega (arith, lt))
plus_here [] (d ∷ deltas) i lt inside = absurd (omega (arith, inside))
plus_here (v ∷ values) (d ∷ deltas) zero lt inside = refl
plus_here (v ∷ values) (d ∷ deltas) (suc i) lt inside = plus_here values deltas i (omega (arith, lt)) (omega (arith, inside))

pub fits_here : (values deltas : List ℤ) (i : ℕ) → All (FitsSigned w64) (plus_deltas values deltas) → i < length deltas → i < length (plus_deltas values (take i deltas)) → FitsSigned w64 (get_or (plus_deltas values (take i deltas)) i (pos 0) +ℤ get_or deltas i (pos 0))
fits_here values deltas i all lt inside =
    let long : i < length values = omega (arith, inside, plus_length values (take i deltas)) in
    subst (FitsSigned w64) (sym (plus_here values deltas i lt long)) (all i (pos 0) (omega (arith, long, plus_length values deltas)))

pub ruleset added = (plus_none, plus_next, plus_taken, plus_length, fits_here)
