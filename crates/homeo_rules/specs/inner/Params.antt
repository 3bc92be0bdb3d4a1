-- Following the parameters of a transaction.
use Rattle.std.specs.Prelude.{Bool, true, false, ◌||◌, List, [], ◌∷◌, is_some, slice_set}
use Rattle.homeo_syntax.specs.declared.phrase.Ident.{Ident}
use Rattle.homeo_syntax.specs.declared.workload.RangeDecl.{RangeDecl}
use Rattle.homeo_meaning.specs.Bindings.{Scope}
use Rattle.homeo_meaning.specs.NameRules.{when, fault}
use Rattle.homeo_rules.specs.inner.Deciding.{keep_all}
use Rattle.homeo_meaning.specs.declared.rules.Phase.TheVariants.{Duplicate}
use Rattle.homeo_meaning.specs.declared.rules.Local.{Local}
use Rattle.homeo_meaning.specs.declared.rules.Local.TheVariants as L
use Rattle.homeo_rules.specs.inner.Follow.{Standing, local_at}

abbrev pub is_parameter : Local → Bool
is_parameter L.Parameter = true
is_parameter _ = false

abbrev pub enter_param : Scope → Standing → Ident → Standing
enter_param s k x = record { locals = slice_set k.locals x.name L.Parameter; best = keep_all k.best (when (is_some (s.item x.name) || is_parameter (local_at k.locals x.name)) (fault Duplicate x)) }

abbrev pub enter_params : Scope → Standing → List RangeDecl → Standing
enter_params s k [] = k
enter_params s k (d ∷ ds) = enter_params s (enter_param s k d.name) ds
