-- Terms whose factors are small or not 0, one term's factor added to, and the sum of a delta's factors.
use Rattle.std.specs.Prelude.{◌≡◌, ℕ, zero, suc, ◌*◌, ◌^◌, false, cond, List, [], ◌∷◌, ℤ, pos, ◌+ℤ◌}
use Rattle.std.specs.Ordering.{int_eq}
use Rattle.homeo_meaning.specs.Small.{IsSmall}
use Rattle.homeo_plan.specs.Each.{Each}
use Rattle.homeo_plan.specs.Linear.{AreInOrder, Linear, same_delta, deltas_of, with_term}
use Rattle.homeo_plan.specs.declared.forms.Delta.{Delta}
use Rattle.homeo_plan.specs.declared.forms.Term.{Term}
use Rattle.homeo_plan.specs.Limit.{form_limit}
use Rattle.homeo_form.specs.Key.{definitions}

-- the factors are at most n in size
abbrev pub AreWithin : ℕ → List Term → Type 0
unfolding definitions
AreWithin n ts = Each (λ t. IsSmall n t.factor) ts

abbrev pub AreSmall : List Term → Type 0
unfolding definitions
AreSmall ts = AreWithin form_limit ts

-- the size that no sum of small factors of a list exceeds
abbrev pub sum_limit : ℕ
sum_limit = 2 ^ 64 * form_limit

-- the terms, with f added to the factor of that at place n
abbrev pub add_at : ℕ → ℤ → List Term → List Term
unfolding definitions
add_at n f [] = []
add_at zero f (t ∷ ts) = with_term t.delta (f +ℤ t.factor) ts
add_at (suc n) f (t ∷ ts) = t ∷ add_at n f ts

-- no factor is 0
abbrev pub AllCount : List Term → Type 0
unfolding definitions
AllCount ts = Each (λ t. int_eq t.factor (pos 0) ≡ false) ts

-- in order, each delta once, and no factor is 0
pub record AreAddedUp (ts : List Term) : Type 0 where
  pub order : AreInOrder (deltas_of ts)
  pub counts : AllCount ts

-- a factor of e, where e is the delta d
abbrev pub share : Delta → Delta → ℤ → ℤ
share d e f = cond (same_delta d e) f (pos 0)

-- the sum of the factors of a delta
abbrev pub factor_at : Delta → List Term → ℤ
unfolding definitions
factor_at d [] = pos 0
factor_at d (t ∷ ts) = share d t.delta t.factor +ℤ factor_at d ts

-- a term by itself
abbrev pub term_form : Term → Linear
unfolding definitions
term_form t = record { constant = pos 0; terms = t ∷ []; mixed = [] }

-- a delta and a constant
abbrev pub beside : ℤ → Delta → Linear
unfolding definitions
beside n d = record { constant = n; terms = record { delta = d; factor = pos 1 } ∷ []; mixed = [] }
