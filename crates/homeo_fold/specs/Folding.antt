-- What a split database folds to, object by object.
use Rattle.std.specs.Prelude.{◌≡◌, ℕ, ◌<◌, ◌≤◌, List, length, ℤ, pos, FitsSigned}
use Rattle.std.specs.Int.{w64}
use Rattle.homeo_meaning.specs.LowMeaning.{BaseAt, DeltaAt}
use Rattle.homeo_meaning.specs.Serial.{database_like}
use Rattle.homeo_plan.specs.Split.{fold_state}
use Rattle.homeo_split.specs.States.{state_of}
use Rattle.homeo_split.specs.declared.split.Split.{Split}

-- an object's base with its deltas of the first k sites
abbrev pub folded_of : Split → ℕ → ℕ → ℤ
folded_of s k x = fold_state k (state_of s) (BaseAt x)

-- an object's base with its deltas of all sites
abbrev pub folded_at : Split → ℕ → ℤ
folded_at s x = folded_of s (length s.deltas.items) x

-- the values of all objects of the base so
abbrev pub folded : Split → List ℤ
folded s = database_like s.base.items (folded_at s)

-- each sum that is met, from an object's base on, is within the range of i64
abbrev pub SumsFit : Split → Type 0
SumsFit s = (k x : ℕ) → k ≤ length s.deltas.items → x < length s.base.items → FitsSigned w64 (folded_of s k x)

-- no site has a delta other than 0 of an object that the base doesn't have
abbrev pub HasNoOtherDeltas : Split → Type 0
HasNoOtherDeltas s = (x j : ℕ) → length s.base.items ≤ x → state_of s (DeltaAt x j) ≡ pos 0
