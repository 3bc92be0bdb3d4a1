-- What of a plan stands on objects, by number.
use Rattle.std.specs.Prelude.{◌≡◌, ◌⊎◌, ℕ, ◌<◌, true, List, length, slice_index_or}
use Rattle.homeo_outline.specs.Numbers.{has, clauses_on, freezes_on}
use Rattle.homeo_outline.specs.declared.plan.ObjectPlan.{ObjectPlan}

-- the number is that of a clause or of a freeze that names the object
abbrev pub StandsOn : ObjectPlan → ℕ → ℕ → Type 0
StandsOn p object n =
    (has n (clauses_on object p.outline.value.terms) ≡ true) ⊎
    (has n (freezes_on object (length p.outline.value.terms) p.outline.value.freezes) ≡ true)

-- so of one of the first objects, so many, of a list
pub record StandsOnOne (p : ObjectPlan) (objects : List ℕ) (count n : ℕ) : Type 0 where
  pub place : ℕ
  pub below : place < count
  pub on : StandsOn p (slice_index_or objects place 0) n
