-- Sites one after another: gathered, and renewed.
use Rattle.homeo_core.specs.Key.{definitions}
use Rattle.std.proofs.Common.{◌≡◌, ℕ, zero, suc, ◌<◌, List, [], ◌∷◌, length, take, replicate, get_or, Some, ℤ, refl, sym, ap, subst, ◌∙◌, arith, slice_set, ◌++◌}
use Rattle.std.specs.Prelude.{slice_get, All}
use mathlib.Core.Logic.{⊎_elim}
use Rattle.homeo_lemmas.proofs.Places.{All-get}
use Rattle.homeo_history.proofs.Lists.{all_from_get, set_cases}
use Rattle.homeo_site.specs.SiteState.{SiteState}
use Rattle.homeo_site.specs.SiteView.{SiteValue}
use Rattle.homeo_round.specs.PlusDeltas.{plus_deltas}
use Rattle.homeo_core.specs.Joined.{gathered, segments_of}
use Rattle.homeo_core.specs.SiteLists.{states, IsAt, AreAt, first_from}

pub states_at : (sites : List SiteValue) (i : ℕ) (d : SiteValue) → i < length sites → slice_get (states sites) i ≡ Some (get_or sites i d).state
unfolding definitions
states_at [] i d lt = absurd (omega (arith, lt))
states_at (x ∷ sites) zero d lt = refl
states_at (x ∷ sites) (suc i) d lt = states_at sites i d (omega (arith, lt))

pub gathered_next : (base : List ℤ) (sites : List SiteState) (i : ℕ) (x : SiteState) → slice_get sites i ≡ Some x → gathered base (take (suc i) sites) ≡ plus_deltas (gathered base (take i sites)) x.deltas
unfolding definitions
gathered_next base [] i x e = absurd (cc)
gathered_next base (y ∷ sites) zero x e = let same : y ≡ x = cc in ap (λ (z : SiteState). plus_deltas base z.deltas) same
gathered_next base (y ∷ sites) (suc i) x e = gathered_next (plus_deltas base y.deltas) sites i x e

-- ---- some of the first items replaced
module _ {X : Type 0} where
  pub from_next : (old new : List X) (i : ℕ) (y : X) → slice_get new i ≡ Some y → slice_set (first_from old new i) i y ≡ first_from old new (suc i)
  unfolding definitions
  from_next old [] i y e = absurd (cc)
  from_next [] (z ∷ new) zero y e = refl
  from_next [] (z ∷ new) (suc i) y e = refl
  from_next (x ∷ old) (z ∷ new) zero y e = let same : z ≡ y = cc in ap (λ v. v ∷ old) (sym same)
  from_next (x ∷ old) (z ∷ new) (suc i) y e = ap (λ l. z ∷ l) (from_next old new i y e)

  pub from_at : (old new : List X) (i : ℕ) → slice_get (first_from old new i) i ≡ slice_get old i
  unfolding definitions
  from_at old new zero = refl
  from_at old [] (suc i) = refl
  from_at [] (z ∷ new) (suc i) = refl
  from_at (x ∷ old) (z ∷ new) (suc i) = from_at old new i

  pub from_all : (old new : List X) → length old ≡ length new → first_from old new (length old) ≡ new
  unfolding definitions
  from_all [] [] e = refl
  from_all [] (z ∷ new) e = absurd (omega (arith, e))
  from_all (x ∷ old) [] e = absurd (omega (arith, e))
  from_all (x ∷ old) (z ∷ new) e = ap (λ l. z ∷ l) (from_all old new (omega (arith, e)))

pub states_set : (sites : List SiteValue) (i : ℕ) (x : SiteValue) → states (slice_set sites i x) ≡ slice_set (states sites) i x.state
unfolding definitions
states_set [] i x = refl
states_set (y ∷ sites) zero x = refl
states_set (y ∷ sites) (suc i) x = ap (λ l. y.state ∷ l) (states_set sites i x)

pub states_count : (sites : List SiteValue) → length (states sites) ≡ length sites
unfolding definitions
states_count [] = refl
states_count (x ∷ sites) = ap suc (states_count sites)

pub all_set : {X : Type 0} (P : X → Type 0) (xs : List X) (i : ℕ) (y : X) → All P xs → P y → All P (slice_set xs i y)
all_set P xs i y all here =
    all_from_get P (slice_set xs i y) (λ j z e. ⊎_elim (λ h. subst P h.1 here) (λ h. All-get P xs j z all h) (set_cases xs i j y z e))

pub same_in : {X : Type 0} (n i : ℕ) (x : X) → i < n → slice_get (replicate n x) i ≡ Some x
same_in zero i x lt = absurd (omega (arith, lt))
same_in (suc n) zero x lt = refl
same_in (suc n) (suc i) x lt = same_in n i x (omega (arith, lt))

-- ---- the site whose turn it is
pub record Turn (round : ℕ) (base : List ℤ) (old : List SiteState) (i : ℕ) (x : SiteState) : Type 0 where
  pub stands : slice_get old i ≡ Some x
  pub at : IsAt round base i x

pub turn :
    (round : ℕ) (base : List ℤ) (old new : List SiteState) (sites : List SiteValue) (i : ℕ) (d : SiteValue) → AreAt round base old →
    states sites ≡ first_from old new i → i < length sites → Turn round base old i (get_or sites i d).state
unfolding definitions
turn round base old new sites i d all is lt =
    let here : slice_get old i ≡ Some (get_or sites i d).state = sym (from_at old new i) ∙ sym (ap (λ l. slice_get l i) is) ∙ states_at sites i d lt in
    record { stands = here; at = all i (get_or sites i d).state here }

pub segments_more : (sites : List SiteValue) (x : SiteValue) → segments_of (states (sites ++ x ∷ [])) ≡ segments_of (states sites) ++ x.state.segment ∷ []
unfolding definitions
segments_more [] x = refl
segments_more (y ∷ sites) x = ap (λ l. y.state.segment ∷ l) (segments_more sites x)

pub states_more : (sites : List SiteValue) (x : SiteValue) → states (sites ++ x ∷ []) ≡ states sites ++ x.state ∷ []
unfolding definitions
states_more [] x = refl
states_more (y ∷ sites) x = ap (λ l. y.state ∷ l) (states_more sites x)
