-- What a command writes and prints at a site, by forms over the site's own deltas, wherever its tests come out as at the base.
use Rattle.std.specs.Prelude.{◌≡◌, ◌==◌, ℕ, [], map}
use Rattle.std.specs.List.{list_any}
use Rattle.homeo_meaning.specs.LowMeaning.{BaseAt}
use Rattle.homeo_plan.specs.Linear.{Linear}
use Rattle.homeo_plan.specs.declared.forms.Term.{Term}
use Rattle.homeo_follow.specs.Follow.{object_delta, Followed}
use Rattle.homeo_linear.specs.declared.effect.OwnTerm.{OwnTerm}
use Rattle.homeo_linear.specs.declared.effect.OwnForm.{OwnForm}
use Rattle.homeo_linear.specs.declared.effect.Effect.{Effect}

-- a form over own deltas as one over whole objects
abbrev pub plain_own_term : OwnTerm → Term
plain_own_term t = record { delta = object_delta t.object; factor = t.factor }

abbrev pub plain_own_form : OwnForm → Linear
plain_own_form f = record { constant = f.constant; terms = map plain_own_term f.terms.items; mixed = [] }

-- the objects written are those of a command that was followed, with the forms that it leaves, and the prints have its forms
pub record IsEffect (q : Followed) (e : Effect) : Type 0 where
  pub objects : (n : ℕ) → list_any (λ m. n == m) (map (λ w. w.object) e.writes.items) ≡ list_any (λ m. n == m) q.written
  pub forms : map (λ w. plain_own_form w.form) e.writes.items ≡ map (λ w. q.forms (BaseAt w.object)) e.writes.items
  pub prints : map plain_own_form e.prints.items ≡ q.prints
