-- The additions that the draws of a load choose (this project's rule).
use Rattle.std.specs.Prelude.{ℕ, zero, suc, ◌+◌, ◌%◌, List, [], ◌∷◌}
use Rattle.homeo_draws.specs.Draws.{next_state, drawn}
use Rattle.homeo_load.specs.Key.{definitions}

-- one call: a number, from 1 to 9, added to an object, from 0 to 7
pub record Addition : Type 0 where
  pub object : ℕ
  pub number : ℕ

-- the call that two draws choose
abbrev pub chosen : ℕ → ℕ → Addition
unfolding definitions
chosen p q = record { object = p % 8; number = 1 + q % 9 }

-- the call that the next two draws choose
abbrev pub next_addition : ℕ → Addition
next_addition state = chosen (drawn (next_state state)) (drawn (next_state (next_state state)))

-- so many calls, two draws for each
abbrev pub additions : ℕ → ℕ → List Addition
unfolding definitions
additions state zero = []
additions state (suc n) = next_addition state ∷ additions (next_state (next_state state)) n
