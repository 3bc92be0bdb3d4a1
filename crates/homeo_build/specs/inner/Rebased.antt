-- What L forms bring at a base, and what they brought at another.
use Rattle.std.specs.Prelude.{◌≡◌, List, map, ℤ}
use Rattle.std.specs.declared.sync.Arc.{Arc}
use Rattle.homeo_meaning.specs.Serial.{values_of}
use Rattle.homeo_follow.specs.Brought.{Brought, plain_part}
use Rattle.homeo_follow.specs.Rebased.{rebased, gains}
use Rattle.homeo_follow.specs.declared.part.PlanPart.{PlanPart}

-- from base b to base d the old is rebased into the new
abbrev pub IsRebased : List ℤ → List ℤ → Brought → Brought → Type 0
IsRebased b d old new = new ≡ rebased (gains (values_of b) (values_of d)) old

-- each of the old
abbrev pub AreRebased : {Z : Type 0} → List ℤ → List ℤ → List (Arc PlanPart Z) → List (Arc PlanPart Z) → Type 0
AreRebased b d old new = map (λ p. plain_part p.value) new ≡ map (rebased (gains (values_of b) (values_of d))) (map (λ p. plain_part p.value) old)
