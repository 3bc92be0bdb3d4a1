-- Whether calls stand in the order of the text.
use Rattle.std.specs.Prelude.{ℕ, Bool, true, ◌&&◌, nat_le, List, [], ◌∷◌}
use Rattle.homeo_meaning.specs.GlobalNames.{SitedCall}

-- no call stands at a lesser offset than one before it, nor than this number
abbrev pub in_order : ℕ → List SitedCall → Bool
in_order n [] = true
in_order n (c ∷ cs) = nat_le n c.name.offset && in_order c.name.offset cs
