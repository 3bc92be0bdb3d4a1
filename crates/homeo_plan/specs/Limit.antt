-- How large the numbers of forms and of templates may be.
use Rattle.std.specs.Prelude.{ℕ, ◌*◌, ◌^◌}

-- the size that no constant, no factor and no slack that is met may exceed
abbrev pub form_limit : ℕ
form_limit = 4 * 10 ^ 18
