-- Objects that gained a number.
use Rattle.std.specs.Prelude.{◌≡◌, ℕ}
use Rattle.homeo_plan.specs.Linear.{Linear}
use Rattle.homeo_follow.specs.Follow.{object_form}

-- the form is that of the object with some base
abbrev pub IsMoved : ℕ → Linear → Type 0
IsMoved x a = a ≡ object_form a.constant x
