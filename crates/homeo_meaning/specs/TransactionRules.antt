-- The faults of names in a transaction, place by place, each judged by the text before it.
pub use Rattle.homeo_meaning.specs.ListRules.{each_from, each, is_in}
use Rattle.std.specs.Prelude.{ℕ, ◌||◌, List, [], ◌∷◌, ◌++◌, map, is_some, if◌then◌else◌}
use Rattle.std.specs.List.{flat_map}
use Rattle.homeo_syntax.specs.Source as s
use Rattle.homeo_syntax.specs.declared.phrase.Ident.{Ident}
use Rattle.homeo_meaning.specs.Key.{definitions}
use Rattle.homeo_meaning.specs.Bindings.{Scope, binding}
use Rattle.homeo_meaning.specs.Occurrences.{Mark, Occurrence, Assigns, in_commands}
use Rattle.homeo_meaning.specs.NameRules.{judge, when, fault}
use Rattle.homeo_meaning.specs.declared.rules.Fault.{Fault}
use Rattle.homeo_meaning.specs.declared.rules.Phase.TheVariants.{Duplicate}
use Rattle.homeo_meaning.specs.declared.rules.Local.{Local}
use Rattle.homeo_meaning.specs.declared.rules.Local.TheVariants as L
use Rattle.homeo_meaning.specs.declared.rules.Binding.{Binding}
use Rattle.homeo_meaning.specs.declared.rules.Binding.TheVariants as B

abbrev pub local_of : List ℕ → List ℕ → ℕ → Local
unfolding definitions
local_of params temps n = if is_in n params then L.Parameter else (if is_in n temps then L.Temporary else L.Absent)

-- a target that is no global name, no parameter and no row variable that holds it
abbrev pub becomes : Binding → ℕ → List ℕ
becomes B.Unbound n = n ∷ []
becomes _ n = []

abbrev pub makes : (ℕ → Binding) → Mark → List ℕ
makes b (Assigns t) = becomes (b t.name) t.name
makes b _ = []

-- the temporaries of the text before a place
abbrev pub temporaries : Scope → List ℕ → List Occurrence → List ℕ
unfolding definitions
temporaries s params before = flat_map (λ p. makes (binding s (local_of params []) p.rows) p.mark) before

abbrev pub body_faults : Scope → List ℕ → List Occurrence → List Fault
unfolding definitions
body_faults s params places = each (λ before p. judge s (local_of params (temporaries s params before)) p) places

-- a parameter that has a global name or an earlier parameter's
abbrev pub parameter_fault : Scope → List Ident → Ident → List Fault
unfolding definitions
parameter_fault s before x = when (is_some (s.item x.name) || is_in x.name (map (λ y. y.name) before)) (fault Duplicate x)

abbrev pub transaction_faults : Scope → s.Transaction → List Fault
unfolding definitions
transaction_faults s t =
    let params : List Ident = map (λ d. d.name) t.params in
    each (parameter_fault s) params ++ body_faults s (map (λ x. x.name) params) (in_commands [] t.body)
