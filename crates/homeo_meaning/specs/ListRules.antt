-- Faults, and rules that judge each item of a list by those before it.
use Rattle.std.specs.Prelude.{ℕ, Bool, List, [], ◌∷◌, ◌++◌, map, ◌==◌, if◌then◌else◌}
use Rattle.std.specs.List.{list_any}
use Rattle.homeo_syntax.specs.declared.phrase.Ident.{Ident}
use Rattle.homeo_syntax.specs.declared.phrase.Number.{Number}
use Rattle.homeo_meaning.specs.Key.{definitions}
use Rattle.homeo_meaning.specs.declared.rules.Fault.{Fault}
use Rattle.homeo_meaning.specs.declared.rules.Phase.{Phase}
use Rattle.homeo_meaning.specs.declared.rules.Phase.TheVariants.{Duplicate}

-- a fault that stands at a name
abbrev pub fault : Phase → Ident → List Fault
fault p x = record { phase = p; offset = x.offset } ∷ []

-- a fault that stands at a number
abbrev pub number_fault : Phase → Number → List Fault
number_fault p n = record { phase = p; offset = n.offset } ∷ []

abbrev pub when : Bool → List Fault → List Fault
when b fs = if b then fs else []

-- what a rule says of each item, given those before it
abbrev pub each_from : {A : Type 0} → (List A → A → List Fault) → List A → List A → List Fault
unfolding definitions
each_from rule before [] = []
each_from rule before (x ∷ xs) = rule before x ++ each_from rule (before ++ x ∷ []) xs

abbrev pub each : {A : Type 0} → (List A → A → List Fault) → List A → List Fault
unfolding definitions
each rule xs = each_from rule [] xs

abbrev pub is_in : ℕ → List ℕ → Bool
unfolding definitions
is_in n l = list_any (λ m. m == n) l

-- a name that an earlier one has
abbrev pub duplicate : List Ident → Ident → List Fault
unfolding definitions
duplicate before x = when (is_in x.name (map (λ y. y.name) before)) (fault Duplicate x)
