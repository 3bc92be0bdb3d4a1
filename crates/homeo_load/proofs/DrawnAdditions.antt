-- What each draw chooses.
use Rattle.std.proofs.Common.{◌≡◌, ℕ, zero, suc, ◌<◌, ◌≤◌, length, refl, arith}
use Rattle.std.specs.Prelude.{All}
use Rattle.std.proofs.lemmas.List.Elements.{All-nil, All-cons}
use Rattle.homeo_load.specs.Key.{definitions}
use Rattle.homeo_draws.specs.Draws.{next_state, drawn}
use Rattle.homeo_load.specs.Additions.{Addition, chosen, additions}

-- an object from 0 to 7, a number from 1 to 9
pub record IsAddition (a : Addition) : Type 0 where
  pub object : a.object < 8
  pub least : 1 ≤ a.number
  pub most : a.number ≤ 9

chosen_fits : (p q : ℕ) → IsAddition (chosen p q)
unfolding definitions
chosen_fits p q = record { object = omega arith; least = omega arith; most = omega arith }

pub additions_fit : (state n : ℕ) → All IsAddition (additions state n)
unfolding definitions
additions_fit state zero = All-nil IsAddition
additions_fit state (suc n) =
    let p : ℕ = drawn (next_state state) in
    let q : ℕ = drawn (next_state (next_state state)) in
    let more : ℕ = next_state (next_state state) in
    All-cons IsAddition (chosen p q) (additions more n) (chosen_fits p q) (additions_fit more n)

pub additions_length : (state n : ℕ) → length (additions state n) ≡ n
unfolding definitions
additions_length state zero = refl
additions_length state (suc n) = omega (arith, additions_length (next_state (next_state state)) n)
