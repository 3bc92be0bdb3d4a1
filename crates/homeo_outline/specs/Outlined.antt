-- What contracts see of an outline.
use Rattle.std.specs.Prelude.{ℕ, List}
use Rattle.homeo_plan.specs.declared.forms.Delta.{Delta}
use Rattle.homeo_plan.specs.declared.forms.Term.{Term}

-- how many sites there are, of each clause its terms over whole objects, and the deltas of sites that stay 0
pub record Outlined : Type 0 where
  pub sites : ℕ
  pub terms : List (List Term)
  pub freezes : List Delta
