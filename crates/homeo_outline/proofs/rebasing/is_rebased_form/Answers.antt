-- The same terms, and a constant with what they gained.
use Rattle.std.proofs.Common.{refl}
use Rattle.homeo_follow.specs.Key.{definitions}
use Rattle.homeo_outline.proofs.rebasing.is_rebased_form.Goals as goal

pub returns-then-have_same_deltas : goal.returns-then-have_same_deltas
unfolding definitions
returns-then-have_same_deltas c = λ yes i. record {
  constant = c.has_gained.ensures yes i;
  terms = c.if-have_same_deltas.ensures.terms refl i;
  mixed = c.if-have_same_deltas.ensures.mixed refl i;
}
