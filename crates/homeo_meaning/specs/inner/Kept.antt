-- Which places a window keeps.
use Rattle.std.specs.Prelude.{ℕ, ◌-◌, Bool, ◌&&◌, nat_le, nat_lt, length}
use Rattle.homeo_meaning.specs.Windowed.{Windowed}

abbrev pub keeps : {T : Type 0} → Windowed T → ℕ → Bool
keeps w n = nat_le w.first n && nat_lt (n - w.first) (length w.items)
