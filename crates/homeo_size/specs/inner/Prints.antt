-- How many print commands an L form has, told without visiting a slot, each number up to a cap.
use Rattle.std.specs.Prelude.{ℕ, ◌+◌, ◌*◌, min, length}
use Rattle.homeo_syntax.specs.Source.{Command, Commands, Skip, Assign, Write, Print, If, Block, SetField, SetRow, Foreach, Insert, Delete, Update, Abort, NoCommand, MoreCommand}
use Rattle.homeo_meaning.specs.Context.{Context, slots}
use Rattle.homeo_size.specs.inner.Key.{definitions}

abbrev pub print_cap : ℕ → ℕ
print_cap n = min 1000001 n

abbrev mutual
  unfolding definitions

  pub prints : Context → Command → ℕ
  prints x Skip = 0
  prints x (Assign t e) = 0
  prints x (Write o e) = 0
  prints x (Print e) = 1
  prints x (If b c d) = print_cap (prints x c + prints x d)
  prints x (Block cs) = all_prints x cs 0
  prints x (SetField q i f e) = 0
  prints x (SetRow r f e) = 0
  prints x (Foreach r q c cs) = print_cap (length (slots x q.name) * all_prints x cs 0)
  prints x (Insert q fs t) = 0
  prints x (Delete r q c) = 0
  prints x (Update r q c f e) = 0
  prints x Abort = 0

  -- with those before them
  pub all_prints : Context → Commands → ℕ → ℕ
  all_prints x NoCommand n = n
  all_prints x (MoreCommand c cs) n = all_prints x cs (print_cap (n + prints x c))
