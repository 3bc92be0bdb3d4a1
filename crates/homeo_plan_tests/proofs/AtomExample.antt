-- The constants of the tests' atoms are small.
use Rattle.std.proofs.Common.{◌≡◌, List, [], ◌∷◌, map, ℤ, true, sym, subst}
use Rattle.homeo_meaning.specs.Key.{definitions as meaning_definitions}
use Rattle.homeo_meaning.specs.Small.{IsSmall, is_small}
use Rattle.homeo_meaning.proofs.Numbers.{small_is}
use Rattle.homeo_plan.specs.Key.{definitions}
use Rattle.homeo_plan.specs.declared.forms.Atom.{Atom}
use Rattle.homeo_plan.specs.Each.{Each}
use Rattle.homeo_plan.specs.PlanView.{plain_atom}
use Rattle.homeo_plan.specs.Limit.{form_limit}

pub small_pair :
    (first second : Atom) (atoms : List Atom) → atoms ≡ first ∷ second ∷ [] → IsSmall form_limit first.form.constant →
    IsSmall form_limit second.form.constant → Each (λ a. IsSmall form_limit a.constant) (map plain_atom atoms)
unfolding definitions
small_pair first second atoms e h k =
    subst (λ (l : List Atom). Each (λ a. IsSmall form_limit a.constant) (map plain_atom l)) (sym e) (h, (k, tt))

pub small : (n m : ℤ) → n ≡ m → is_small form_limit m ≡ true → IsSmall form_limit n
unfolding meaning_definitions
small n m e h = subst (IsSmall form_limit) (sym e) (small_is form_limit m h)
