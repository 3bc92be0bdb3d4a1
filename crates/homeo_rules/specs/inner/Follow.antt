-- What a reader of a transaction keeps, place by place.
use Rattle.std.specs.Prelude.{ℕ, List, [], ◌∷◌, Option, slice_index_or, slice_set}
use Rattle.homeo_meaning.specs.Bindings.{Scope, binding}
use Rattle.homeo_meaning.specs.Occurrences.{Mark, Occurrence, Assigns}
use Rattle.homeo_meaning.specs.NameRules.{judge}
use Rattle.homeo_rules.specs.inner.Deciding.{keep_all}
use Rattle.homeo_meaning.specs.declared.rules.Fault.{Fault}
use Rattle.homeo_meaning.specs.declared.rules.Local.{Local}
use Rattle.homeo_meaning.specs.declared.rules.Local.TheVariants as L
use Rattle.homeo_meaning.specs.declared.rules.Binding.{Binding}
use Rattle.homeo_meaning.specs.declared.rules.Binding.TheVariants as B
use Rattle.homeo_rules.specs.inner.Key.{definitions}

abbrev pub local_at : List Local → ℕ → Local
local_at l n = slice_index_or l n L.Absent

pub record Standing : Type 0 where
  pub locals : List Local
  pub best : Option Fault

abbrev pub assigned : Binding → List Local → ℕ → List Local
assigned B.Unbound l n = slice_set l n L.Temporary
assigned _ l n = l

abbrev pub locals_after : (ℕ → Binding) → List Local → Mark → List Local
unfolding definitions
locals_after b l (Assigns t) = assigned (b t.name) l t.name
locals_after b l _ = l

abbrev pub step : Scope → Standing → Occurrence → Standing
unfolding definitions
step s k p = record { locals = locals_after (binding s (local_at k.locals) p.rows) k.locals p.mark; best = keep_all k.best (judge s (local_at k.locals) p) }

abbrev pub follow : Scope → Standing → List Occurrence → Standing
unfolding definitions
follow s k [] = k
follow s k (p ∷ ps) = follow s (step s k p) ps
