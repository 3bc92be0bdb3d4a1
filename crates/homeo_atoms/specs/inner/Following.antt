-- What a residual needs that was followed so far.
use Rattle.std.specs.Prelude.{◌≡◌, List, [], ◌∷◌, map}
use Rattle.homeo_syntax.specs.Low.{Command, Commands, MoreCommand}
use Rattle.homeo_meaning.specs.Small.{IsSmall}
use Rattle.homeo_plan.specs.FormSizes.{CanFollow}
use Rattle.homeo_plan.specs.Linear.{add_deltas}
use Rattle.homeo_plan.specs.Needs.{needs_from}
use Rattle.homeo_plan.specs.declared.forms.Delta.{Delta}
use Rattle.homeo_plan.specs.Limit.{form_limit}
use Rattle.homeo_atoms.specs.declared.following.Following.{Following}
use Rattle.homeo_atoms.specs.inner.Key.{definitions}
use Rattle.homeo_form.specs.Standing.{forms_of}

-- lists of deltas put into others, the last list first
abbrev pub adds : List (List Delta) → List Delta → List Delta
unfolding definitions
adds [] es = es
adds (ds ∷ more) es = add_deltas ds (adds more es)

-- the needs of the whole residual, where these commands are left
unfoldable pub needs_of : Following → Commands → List Delta
needs_of r cs = adds (map (λ p. p.items) r.prints.items) (needs_from r.site (forms_of r.standing) (add_deltas r.written.items []) cs)

-- one command was followed
pub record Followed (r s : Following) (c : Command) : Type 0 where
  pub needs : (cs : Commands) → needs_of s cs ≡ needs_of r (MoreCommand c cs)
  pub small : (cs : Commands) → CanFollow (IsSmall form_limit) (forms_of r.standing) (MoreCommand c cs) → CanFollow (IsSmall form_limit) (forms_of s.standing) cs
