-- Draws (this project's rule).
use Rattle.std.specs.Prelude.{ℕ, ◌+◌, ◌*◌, ◌/◌, ◌%◌, ◌^◌}

-- a draw moves the state on
abbrev pub next_state : ℕ → ℕ
next_state state = (state * 6364136223846793005 + 1442695040888963407) % 2 ^ 64

-- and gives the top 32 bits of the state that it leaves
abbrev pub drawn : ℕ → ℕ
drawn state = state / 2 ^ 32
