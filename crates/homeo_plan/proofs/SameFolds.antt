-- States that have the same values under every name fold to the same database.
use Rattle.homeo_meaning.specs.Key.{definitions as meaning_definitions}
use Rattle.homeo_plan.specs.Key.{definitions}
use Rattle.std.proofs.Common.{◌≡◌, ℕ, ◌+ℤ◌, ap₂}
use Rattle.homeo_syntax.specs.declared.low.SplitName.{SplitName}
use Rattle.homeo_syntax.specs.declared.low.SplitName.TheVariants.{Base, Delta}
use Rattle.homeo_meaning.specs.LowMeaning.{State, BaseAt, location_of}
use Rattle.homeo_plan.specs.Split.{fold_state}
use Rattle.homeo_plan.proofs.Sums.{sum_same}

pub same_folds :
    (s u : State) → ((x : SplitName) → s (location_of x) ≡ u (location_of x)) → (k x : ℕ) →
    fold_state k s (BaseAt x) ≡ fold_state k u (BaseAt x)
unfolding definitions meaning_definitions
same_folds s u agree k x = ap₂ ◌+ℤ◌ (agree (Base x)) (sum_same 0 k _ _ (λ j. agree (Delta x j)))
