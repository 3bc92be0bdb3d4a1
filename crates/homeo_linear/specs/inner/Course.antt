-- What was followed of a command so far.
use Rattle.std.specs.Prelude.{ℕ, ℤ, map}
use Rattle.homeo_plan.specs.PlanView.{plain_atom}
use Rattle.homeo_follow.specs.Brought.{Brought}
use Rattle.homeo_follow.specs.Follow.{Followed, needed}
use Rattle.homeo_form.specs.Standing.{forms_of}
use Rattle.homeo_linear.specs.declared.course.Course.{Course}

abbrev pub followed_so : Course → Followed
followed_so c = record { atoms = map plain_atom c.atoms.items; prints = c.prints.items; written = map (λ d. d.object) c.written.items; forms = forms_of c.standing }

-- what brings to a plan what was followed at a base
abbrev pub brought_by : (ℕ → ℤ) → Followed → Brought
brought_by b q = record { atoms = q.atoms; needs = needed b q }
