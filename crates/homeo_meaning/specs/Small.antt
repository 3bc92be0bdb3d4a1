-- That each number of a call is small, whether it stands there, is read or is computed: of its L form, and of the program.
use Rattle.std.specs.Prelude.{ℕ, ◌≤◌, nat_le, Bool, List, ℤ, pos}
use Rattle.std.specs.Int.RustNames.{unsigned_abs}
use Rattle.homeo_syntax.specs.Source.{Commands}
use Rattle.homeo_meaning.specs.Key.{definitions}
use Rattle.homeo_meaning.specs.Schema.{Schema}
use Rattle.homeo_meaning.specs.Context.{context}
use Rattle.homeo_meaning.specs.LForm.{l_form}
use Rattle.homeo_meaning.specs.LowMeaning.{whole}
use Rattle.homeo_meaning.specs.LowComputed as low
use Rattle.homeo_meaning.specs.Computed.{CanRunAll}

abbrev pub IsSmall : ℕ → ℤ → Type 0
unfolding definitions
IsSmall b v = unsigned_abs v ≤ b

-- the same as a test
abbrev pub is_small : ℕ → ℤ → Bool
unfolding definitions
is_small b v = nat_le (unsigned_abs v) b

-- no property
abbrev pub Anything : ℤ → Type 0
Anything v = Unit {0}

-- each number of the call's L form is at most b in size, and so is each of the program
pub record ComputesSmall (b : ℕ) (x : Schema) (params : List ℕ) (args : List ℤ) (body : Commands) (database : ℕ → ℤ) : Type 0 where
  pub form : low.CanRun (IsSmall b) (IsSmall b) (l_form x params args body) (whole database)
  pub program : CanRunAll (IsSmall b) (IsSmall b) (context x params args) body (record { database = database; temps = λ t. pos 0 })
