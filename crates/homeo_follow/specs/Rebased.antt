-- What a command brings at another base, where it takes the same branches there: the terms are the same, and each constant goes by
-- what the objects gained from the one base to the other.
use Rattle.std.specs.Prelude.{ℕ, List, [], ◌∷◌, map, ℤ, pos, neg_ℤ, ◌+ℤ◌, ◌*ℤ◌}
use Rattle.homeo_plan.specs.declared.forms.Term.{Term}
use Rattle.homeo_plan.specs.Linear.{Linear}
use Rattle.homeo_plan.specs.Template.{Clause}
use Rattle.homeo_follow.specs.Key.{definitions}
use Rattle.homeo_follow.specs.Brought.{Brought}

-- the sum of factor times what its object gained
abbrev pub gained : (ℕ → ℤ) → List Term → ℤ
unfolding definitions
gained g [] = pos 0
gained g (t ∷ ts) = (t.factor *ℤ g t.delta.object) +ℤ gained g ts

abbrev pub rebased_form : (ℕ → ℤ) → Linear → Linear
unfolding definitions
rebased_form g a = record { constant = a.constant +ℤ gained g a.terms; terms = a.terms; mixed = a.mixed }

-- what the objects gained is taken from the slack
abbrev pub rebased_clause : (ℕ → ℤ) → Clause → Clause
unfolding definitions
rebased_clause g c = record { terms = c.terms; slack = c.slack +ℤ neg_ℤ (gained g c.terms) }

abbrev pub rebased : (ℕ → ℤ) → Brought → Brought
unfolding definitions
rebased g p = record { atoms = map (rebased_form g) p.atoms; needs = p.needs }

-- what objects gained from base b to base d
abbrev pub gains : (ℕ → ℤ) → (ℕ → ℤ) → ℕ → ℤ
unfolding definitions
gains b d x = d x +ℤ neg_ℤ (b x)
