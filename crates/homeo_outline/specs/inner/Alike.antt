-- Clauses of the same terms.
use Rattle.std.specs.Prelude.{◌≡◌, ℕ, ◌<◌, List, [], length, slice_index_or}
use Rattle.homeo_plan.specs.declared.forms.Term.{Term}

-- among clauses with these terms there are both of these numbers, and they have the same
pub record AreAlike (tss : List (List Term)) (m n : ℕ) : Type 0 where
  pub first : m < length tss
  pub second : n < length tss
  pub terms : slice_index_or tss m [] ≡ slice_index_or tss n []
