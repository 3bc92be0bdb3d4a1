-- Entering the global names into a table.
use Rattle.std.specs.Prelude.{ℕ, ◌+◌, Bool, List, [], ◌∷◌, Option, Some, is_some, if◌then◌else◌, slice_set}
use Rattle.homeo_syntax.specs.declared.phrase.Ident.{Ident}
use Rattle.homeo_meaning.specs.NameRules.{when, fault}
use Rattle.homeo_rules.specs.inner.Deciding.{keep_all}
use Rattle.homeo_meaning.specs.declared.rules.Fault.{Fault}
use Rattle.homeo_meaning.specs.declared.rules.Phase.TheVariants.{Duplicate}
use Rattle.homeo_meaning.specs.declared.rules.Item.{Item}
use Rattle.homeo_rules.specs.inner.Scopes.{item_at}

pub record Items : Type 0 where
  pub items : List (Option Item)
  pub best : Option Fault

-- the first of a name stays
abbrev pub entered : Bool → List (Option Item) → ℕ → Item → List (Option Item)
entered there l n g = if there then l else slice_set l n (Some g)

abbrev pub enter : Items → Ident → Item → Items
enter t x g = record { items = entered (is_some (item_at t.items x.name)) t.items x.name g; best = keep_all t.best (when (is_some (item_at t.items x.name)) (fault Duplicate x)) }

abbrev pub along_names : {A : Type 0} → (A → Ident) → (ℕ → Item) → ℕ → Items → List A → Items
along_names name kind i t [] = t
along_names name kind i t (x ∷ xs) = along_names name kind (i + 1) (enter t (name x) (kind i)) xs
