-- The factors of a sum in the making, by their deltas.
use Rattle.std.specs.Prelude.{◌≡◌, ℕ, ◌≤◌, List, take, length, ℤ, ◌+ℤ◌}
use Rattle.std.specs.declared.cmp.Ordering.{Ordering}
use Rattle.std.specs.Ordering.{nat_cmp, ordering_then}
use Rattle.std.specs.Option.{unwrap_or}
use Rattle.std.specs.BTreeMap.{BTreeMap, get}
use Rattle.homeo_meaning.specs.Small.{IsSmall}
use Rattle.homeo_plan.specs.Limit.{form_limit}
use Rattle.homeo_plan.specs.Linear.{AreInOrder, deltas_of}
use Rattle.homeo_plan.specs.declared.forms.Delta.{Delta}
use Rattle.homeo_plan.specs.declared.forms.Term.{Term}
use Rattle.homeo_form.specs.inner.Terms.{AreSmall, factor_at}

-- an object and a site
abbrev pub DeltaKey : Type 0
DeltaKey = ℕ × ℕ

-- by object, and then by site
abbrev pub key_cmp : DeltaKey → DeltaKey → Ordering
key_cmp a b = ordering_then (nat_cmp a.0 b.0) (nat_cmp a.1 b.1)

abbrev pub key_of : Delta → DeltaKey
key_of d = (d.object, d.site)

-- factors by the objects and sites of their deltas
abbrev pub Factors : Type 0
Factors = BTreeMap DeltaKey ℤ

-- the factor by now: that in m, or where there is none, that among the first terms
abbrev pub factor_in : Factors → List Term → Delta → ℤ
factor_in m first d = unwrap_or (get key_cmp m (key_of d)) (factor_at d first)

-- the factor with those that more terms have
abbrev pub factor_with : Factors → List Term → List Term → Delta → ℤ
factor_with m first ts d = factor_at d ts +ℤ factor_in m first d

-- of a sum with the constant n and these terms, of which the first are added up, the numbers are small, and m has the factors
-- of the other terms' deltas
pub record IsRunning (n : ℤ) (ts : List Term) (settled : ℕ) (m : Factors) : Type 0 where
  pub constant : IsSmall form_limit n
  pub terms : AreSmall ts
  pub sums : (d : Delta) → IsSmall form_limit (factor_at d ts)
  pub within : settled ≤ length ts
  pub order : AreInOrder (deltas_of (take settled ts))
  pub factors : (d : Delta) → factor_in m (take settled ts) d ≡ factor_at d ts
