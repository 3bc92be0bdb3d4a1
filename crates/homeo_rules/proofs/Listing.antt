-- Keeping along a list is keeping of all the faults of its rule.
use Rattle.std.proofs.Common.{◌≡◌, ℕ, ◌+◌, List, [], ◌∷◌, Option, refl, ◌∙◌, map}
use Rattle.std.specs.Prelude.{slice_get}
use Rattle.std.specs.List.{flat_map}
use Rattle.homeo_syntax.specs.declared.phrase.Number.{Number}
use Rattle.homeo_syntax.specs.declared.workload.RangeDecl.{RangeDecl}
use Rattle.homeo_meaning.specs.Key.{definitions as meaning_definitions}
use Rattle.homeo_meaning.specs.NumberRules.{argument_outside, arguments_outside}
use Rattle.homeo_rules.specs.inner.Deciding.{keep_all}
use Rattle.homeo_meaning.specs.declared.rules.Fault.{Fault}
use Rattle.homeo_rules.specs.inner.Listwise.{along_all, along_arguments}
use Rattle.homeo_rules.proofs.Steps.{keep_all-append}

pub all-along : {A : Type 0} (rule : A → List Fault) (b : Option Fault) (xs : List A) → keep_all b (flat_map rule xs) ≡ along_all rule b xs
unfolding meaning_definitions
all-along rule b [] = refl
all-along rule b (x ∷ xs) = keep_all-append b (rule x) (flat_map rule xs) ∙ all-along rule (keep_all b (rule x)) xs

-- over the items that others stand for
pub all-mapped : {A B : Type 0} (view : A → B) (rule : B → List Fault) (b : Option Fault) (xs : List A) → keep_all b (flat_map rule (map view xs)) ≡ along_all (λ x. rule (view x)) b xs
unfolding meaning_definitions
all-mapped view rule b [] = refl
all-mapped view rule b (x ∷ xs) = keep_all-append b (rule (view x)) (flat_map rule (map view xs)) ∙ all-mapped view rule (keep_all b (rule (view x))) xs

pub arguments-along : (b : Option Fault) (i : ℕ) (ds : List RangeDecl) (args : List Number) → keep_all b (arguments_outside i ds args) ≡ along_arguments b i ds args
unfolding meaning_definitions
arguments-along b i [] args = refl
arguments-along b i (d ∷ ds) args =
    keep_all-append b (argument_outside d (slice_get args i)) (arguments_outside (i + 1) ds args)
    ∙ arguments-along (keep_all b (argument_outside d (slice_get args i))) (i + 1) ds args
