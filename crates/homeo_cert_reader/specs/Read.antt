-- What is read from a JSON value.
use Rattle.std.specs.Prelude.{◌≡◌, List, map, Option, MatchOption}
use Rattle.serde_json.specs.Data.{Data}
use Rattle.homeo_plan.specs.Each.{Each}

-- what is read is in shape and has this data; and where nothing is read, nothing in shape has it
abbrev pub IsRead : {A : Type 0} → (A → Type 0) → (A → Data) → Data → Option A → Type 0
IsRead P to_data d r = MatchOption r ((a : _) → P a → to_data a ≡ d → ⊥) (λ a. P a × (to_data a ≡ d))

-- the same of a list, item by item
abbrev pub AreRead : {A : Type 0} → (A → Type 0) → (A → Data) → List Data → Option (List A) → Type 0
AreRead P to_data ds r =
    MatchOption r ((xs : _) → Each P xs → map to_data xs ≡ ds → ⊥) (λ xs. Each P xs × (map to_data xs ≡ ds))
