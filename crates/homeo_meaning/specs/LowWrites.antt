-- The objects that commands over split names write.
use Rattle.std.specs.Prelude.{ℕ, ◌==◌, nat_lt, cond, List, [], ◌∷◌}
use Rattle.homeo_syntax.specs.declared.low.SplitName.{SplitName}
use Rattle.homeo_syntax.specs.declared.low.SplitName.TheVariants.{Whole, Base, Delta}
use Rattle.homeo_syntax.specs.Low.{Command, Commands, Skip, Assign, Write, Print, Seq, If, NoCommand, MoreCommand}
use Rattle.homeo_meaning.specs.Key.{definitions}

-- the object whose value a name says, or has a part of
abbrev pub object_in : SplitName → ℕ
unfolding definitions
object_in (Whole x) = x
object_in (Base x) = x
object_in (Delta x j) = x

-- numbers in rising order, each once, with one more
abbrev pub with_number : ℕ → List ℕ → List ℕ
unfolding definitions
with_number n [] = n ∷ []
with_number n (m ∷ ms) = cond (nat_lt n m) (n ∷ m ∷ ms) (cond (n == m) (m ∷ ms) (m ∷ with_number n ms))

abbrev mutual
  unfolding definitions

  -- the objects xs, and those that some write in a command names: in rising order, each once
  pub written : Command → List ℕ → List ℕ
  written Skip xs = xs
  written (Assign t e) xs = xs
  written (Write x e) xs = with_number (object_in x) xs
  written (Print e) xs = xs
  written (Seq cs) xs = all_written cs xs
  written (If b c d) xs = written d (written c xs)

  pub all_written : Commands → List ℕ → List ℕ
  all_written NoCommand xs = xs
  all_written (MoreCommand c cs) xs = all_written cs (written c xs)
