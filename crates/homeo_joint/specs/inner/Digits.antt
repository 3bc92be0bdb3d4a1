-- The picks of a joint row by its number: digits, the last of which changes fastest.
use Rattle.std.specs.Prelude.{ℕ, zero, suc, ◌/◌, ◌%◌, List, [], ◌∷◌, ◌++◌}
use Rattle.homeo_joint.specs.Counts.{product_of}

-- a number by its digits, where there are so many digits in each place
abbrev pub digits : List ℕ → ℕ → List ℕ
digits [] number = []
digits (n ∷ ns) number = (number / product_of ns) ∷ digits ns (number % product_of ns)

-- the numbers below one by their digits
abbrev pub digits_below : List ℕ → ℕ → List (List ℕ)
digits_below ns zero = []
digits_below ns (suc number) = digits_below ns number ++ digits ns number ∷ []
