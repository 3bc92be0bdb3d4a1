-- Keeping the fault that decides along a list.
use Rattle.std.specs.Prelude.{ℕ, ◌+◌, slice_get, List, [], ◌∷◌, ◌++◌, Option}
use Rattle.homeo_syntax.specs.declared.phrase.Number.{Number}
use Rattle.homeo_syntax.specs.declared.workload.RangeDecl.{RangeDecl}
use Rattle.homeo_rules.specs.inner.Deciding.{keep_all}
use Rattle.homeo_meaning.specs.NumberRules.{argument_outside}
use Rattle.homeo_meaning.specs.declared.rules.Fault.{Fault}

abbrev pub along_all : {A : Type 0} → (A → List Fault) → Option Fault → List A → Option Fault
along_all rule b [] = b
along_all rule b (x ∷ xs) = along_all rule (keep_all b (rule x)) xs

-- the same with a rule that knows the items before
abbrev pub along_each : {A : Type 0} → (List A → A → List Fault) → List A → Option Fault → List A → Option Fault
along_each rule before b [] = b
along_each rule before b (x ∷ xs) = along_each rule (before ++ x ∷ []) (keep_all b (rule before x)) xs

abbrev pub along_arguments : Option Fault → ℕ → List RangeDecl → List Number → Option Fault
along_arguments b i [] args = b
along_arguments b i (d ∷ ds) args = along_arguments (keep_all b (argument_outside d (slice_get args i))) (i + 1) ds args
