-- What stands over whole objects, at many sites: an object is its base with its deltas at all of them, so each factor is that of
-- its delta at each site.
use Rattle.std.specs.Prelude.{ℕ, zero, suc, List, [], ◌∷◌, ◌++◌, ℤ}
use Rattle.homeo_plan.specs.declared.forms.Delta.{Delta}
use Rattle.homeo_plan.specs.declared.forms.Term.{Term}
use Rattle.homeo_plan.specs.Linear.{Linear, delta_of}
use Rattle.homeo_follow.specs.Key.{definitions}

-- an object by one factor, at n sites from j on
abbrev pub terms_from : ℕ → ℕ → ℕ → ℤ → List Term
unfolding definitions
terms_from j zero x f = []
terms_from j (suc n) x f = record { delta = delta_of x j; factor = f } ∷ terms_from (suc j) n x f

-- an object at n sites from j on
abbrev pub deltas_from : ℕ → ℕ → ℕ → List Delta
unfolding definitions
deltas_from j zero x = []
deltas_from j (suc n) x = delta_of x j ∷ deltas_from (suc j) n x

abbrev pub expanded_terms : ℕ → List Term → List Term
unfolding definitions
expanded_terms k [] = []
expanded_terms k (t ∷ ts) = terms_from 0 k t.delta.object t.factor ++ expanded_terms k ts

abbrev pub expanded_deltas : ℕ → List Delta → List Delta
unfolding definitions
expanded_deltas k [] = []
expanded_deltas k (d ∷ ds) = deltas_from 0 k d.object ++ expanded_deltas k ds

-- a form over whole objects as one over the deltas of k sites
abbrev pub expanded : ℕ → Linear → Linear
unfolding definitions
expanded k a = record { constant = a.constant; terms = expanded_terms k a.terms; mixed = expanded_deltas k a.mixed }
