-- The base with the deltas of sites, as values by the numbers of objects.
use Rattle.homeo_meaning.specs.Key.{definitions as meaning_definitions}
use Rattle.homeo_plan.specs.Key.{definitions as plan_definitions}
use Rattle.homeo_core.specs.Key.{definitions}
use Rattle.std.proofs.Common.{◌≡◌, ℕ, zero, suc, ◌+◌, ◌≤◌, nat_lt, Bool, true, false, cond, List, [], ◌∷◌, length, get_or, ℤ, pos, ◌+ℤ◌, refl, sym, ap, ◌∙◌, subst, arith}
use Rattle.std.specs.Prelude.{All}
use mathlib.Core.Path.{fun_ext}
use Rattle.std.proofs.lemmas.Int.{ints}
use Rattle.std.proofs.lemmas.Bool.Decides.{nat_tests}
use Rattle.std.proofs.lemmas.List.Elements.{All-head, All-tail}
use Rattle.homeo_meaning.specs.Serial.{values_of, database_like}
use Rattle.homeo_plan.specs.Joined.{Deltas, folded}
use Rattle.homeo_plan.specs.Split.{sum_from}
use Rattle.homeo_plan.proofs.Sums.{sum_same, sum_next}
use Rattle.homeo_meaning.proofs.ValueLists.{like_itself}
use Rattle.homeo_site.specs.SiteState.{SiteState}
use Rattle.homeo_round.specs.PlusDeltas.{plus_deltas}
use Rattle.homeo_round.proofs.Added.{plus_at, plus_length}
use Rattle.homeo_core.specs.Joined.{gathered}

-- ---- sums over sites
sum_nothing : (j k : ℕ) (f : ℕ → ℤ) → ((i : ℕ) → j ≤ i → f i ≡ pos 0) → sum_from j k f ≡ pos 0
unfolding plan_definitions
sum_nothing j zero f none = refl
sum_nothing j (suc k) f none =
    omega (arith, ints, none j (omega arith), sum_nothing (suc j) k f (λ i le. none i (omega (arith, le))))

sum_short : (j n k : ℕ) (f : ℕ → ℤ) → n ≤ k → ((i : ℕ) → j + n ≤ i → f i ≡ pos 0) → sum_from j k f ≡ sum_from j n f
unfolding plan_definitions
sum_short j zero k f le none = sum_nothing j k f (λ i l. none i (omega (arith, l)))
sum_short j (suc n) zero f le none = absurd (omega (arith, le))
sum_short j (suc n) (suc k) f le none =
    ap (λ v. f j +ℤ v) (sum_short (suc j) n k f (omega (arith, le)) (λ i l. none i (omega (arith, l))))

-- ---- the deltas of sites
-- each site has as many deltas as the base has values
abbrev pub AreAsLong : List ℤ → List SiteState → Type 0
AreAsLong base sites = All (λ x. length x.deltas ≡ length base) sites

-- the deltas of the site of a number, and 0 past the last site
abbrev pub deltas_at : List SiteState → ℕ → Deltas
deltas_at [] i n = pos 0
deltas_at (x ∷ sites) zero n = values_of x.deltas n
deltas_at (x ∷ sites) (suc i) n = deltas_at sites i n

none_past : (sites : List SiteState) (i n : ℕ) → length sites ≤ i → deltas_at sites i n ≡ pos 0
none_past [] i n le = refl
none_past (x ∷ sites) zero n le = absurd (omega (arith, le))
none_past (x ∷ sites) (suc i) n le = none_past sites i n (omega (arith, le))

pub gathered_length : (base : List ℤ) (sites : List SiteState) → length (gathered base sites) ≡ length base
unfolding definitions
gathered_length base [] = refl
gathered_length base (x ∷ sites) = gathered_length (plus_deltas base x.deltas) sites ∙ plus_length base x.deltas

still_long : (base deltas : List ℤ) (sites : List SiteState) → AreAsLong base sites → AreAsLong (plus_deltas base deltas) sites
still_long base deltas sites long = subst (λ n. All (λ (x : SiteState). length x.deltas ≡ n) sites) (sym (plus_length base deltas)) long

gathered_at : (base : List ℤ) (sites : List SiteState) (n : ℕ) → AreAsLong base sites → get_or (gathered base sites) n (pos 0) ≡ get_or base n (pos 0) +ℤ sum_from 0 (length sites) (λ j. deltas_at sites j n)
unfolding definitions plan_definitions
gathered_at base [] n long = omega (arith, ints)
gathered_at base (x ∷ sites) n long =
    let here : length x.deltas ≡ length base = All-head (λ (y : SiteState). length y.deltas ≡ length base) x sites long in
    let rest = gathered_at (plus_deltas base x.deltas) sites n (still_long base x.deltas sites (All-tail (λ (y : SiteState). length y.deltas ≡ length base) x sites long)) in
    let one : get_or (plus_deltas base x.deltas) n (pos 0) ≡ get_or base n (pos 0) +ℤ get_or x.deltas n (pos 0) = plus_at base x.deltas n (omega (arith, here)) in
    let next = sum_next 0 (length sites) (λ j. deltas_at (x ∷ sites) j n) in
    omega (arith, ints, rest, one, next)

-- gathered values are the fold of the base with the deltas of at least as many sites
pub gathered_is : (base : List ℤ) (sites : List SiteState) (k : ℕ) (d : ℕ → Deltas) → AreAsLong base sites → length sites ≤ k → ((i : ℕ) → d i ≡ deltas_at sites i) → database_like base (folded k (values_of base) d) ≡ gathered base sites
unfolding definitions plan_definitions meaning_definitions
gathered_is base sites k d long le same =
    sym (like_itself base (gathered base sites) (folded k (values_of base) d) (gathered_length base sites) (fun_ext at))
  where
    at : (n : ℕ) → get_or (gathered base sites) n (pos 0) ≡ get_or base n (pos 0) +ℤ sum_from 0 k (λ j. cond (nat_lt j k) (d j n) (pos 0))
    at n =
        gathered_at base sites n long
        ∙ ap (λ v. get_or base n (pos 0) +ℤ v) (sym (sum_short 0 (length sites) k (λ j. deltas_at sites j n) le (λ i l. none_past sites i n (omega (arith, l))))
        ∙ sum_same 0 k (λ j. deltas_at sites j n) (λ j. cond (nat_lt j k) (d j n) (pos 0)) (λ j. sym (inside j (nat_lt j k) refl)))
      where
        inside : (j : ℕ) (v : Bool) → nat_lt j k ≡ v → cond v (d j n) (pos 0) ≡ deltas_at sites j n
        inside j true q = ap (λ f. f n) (same j)
        inside j false q = let past : k ≤ j = grind (arith, nat_tests) in sym (none_past sites j n (omega (arith, le, past)))
