-- The atoms, and what the prints and the gains depend on.
use Rattle.std.proofs.Common.{◌++◌, map, ap, ap₂, ◌∙◌}
use Rattle.homeo_plan.specs.PlanView.{plain_atom}
use Rattle.homeo_follow.specs.Key.{definitions}
use Rattle.homeo_linear.proofs.course.Course.part.Goals as goal

pub returns : goal.returns
unfolding definitions
returns c = λ b.
    let old = c.args.self.now in
    ap₂ (λ atoms needs. record { atoms = atoms; needs = needs })
    (ap (λ v. map plain_atom v.items) c.from_vec.ensures
    ∙ ap (map plain_atom) (c.in_ok-append.ensures.items ∙ ap (λ l. l ++ old.atoms.items) c.in_ok-atoms.ensures.items))
    (ap (λ v. v.items) c.from_vec-2.ensures ∙ c.in_ok-needed.ensures b)
