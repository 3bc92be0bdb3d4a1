-- Weights: how large the values of an L form can get, by its text alone, whatever the database within its bounds.
use Rattle.std.specs.Prelude.{ℕ, zero, suc, ◌+◌, ◌*◌, ℤ, Bool, true, ◌&&◌, nat_le, max, List, [], ◌∷◌}
use Rattle.std.specs.Int.RustNames.{unsigned_abs}
use Rattle.homeo_syntax.specs.Low.{Expr, Exprs, Literal, OfTemp, Read, Sum, Product, Neg, NoExpr, MoreExpr, Test, Cond, True, Not, Comparison, NoTest, MoreTest, Command, Commands, Skip, Assign, Write, Print, Seq, If, NoCommand, MoreCommand}
use Rattle.homeo_meaning.specs.Key.{definitions}
use Rattle.homeo_meaning.specs.Schema.{Schema}
use Rattle.homeo_meaning.specs.Bounds.{Bounds, all_bounds}
use Rattle.homeo_meaning.specs.LowMeaning.{Location, TempAt, BaseAt, DeltaAt, location_of, put}

-- a number's weight: its size, and at least 1
abbrev pub number_weight : ℤ → ℕ
unfolding definitions
number_weight v = max 1 (unsigned_abs v)

abbrev pub bounds_weight : Bounds → ℕ
unfolding definitions
bounds_weight b = max (number_weight b.lo) (number_weight b.hi)

-- of the object of a number: 1 past the last
abbrev pub weight_at : List Bounds → ℕ → ℕ
unfolding definitions
weight_at [] k = 1
weight_at (b ∷ bs) zero = bounds_weight b
weight_at (b ∷ bs) (suc k) = weight_at bs k

-- where a call begins: an object weighs as much as its larger bound
abbrev pub first_weights : Schema → Location → ℕ
unfolding definitions
first_weights x (TempAt t) = 1
first_weights x (BaseAt k) = weight_at (all_bounds x) k
first_weights x (DeltaAt k j) = 1

abbrev mutual
  unfolding definitions

  pub weight : Expr → (Location → ℕ) → ℕ
  weight (Literal n) v = number_weight n
  weight (OfTemp t) v = v (TempAt t)
  weight (Read x) v = v (location_of x)
  weight (Sum es) v = max 1 (sum_weight es v)
  weight (Product es) v = product_weight es v
  weight (Neg e) v = weight e v

  pub sum_weight : Exprs → (Location → ℕ) → ℕ
  sum_weight NoExpr v = 0
  sum_weight (MoreExpr e es) v = weight e v + sum_weight es v

  pub product_weight : Exprs → (Location → ℕ) → ℕ
  product_weight NoExpr v = 1
  product_weight (MoreExpr e es) v = weight e v * product_weight es v

abbrev mutual
  unfolding definitions

  -- the weights of the names after a command: after an `if` of each name the greater
  pub after : Command → (Location → ℕ) → Location → ℕ
  after Skip v = v
  after (Assign t e) v = put v (TempAt t) (weight e v)
  after (Write x e) v = put v (location_of x) (weight e v)
  after (Print e) v = v
  after (Seq cs) v = after_all cs v
  after (If b c d) v = λ p. max (after c v p) (after d v p)

  pub after_all : Commands → (Location → ℕ) → Location → ℕ
  after_all NoCommand v = v
  after_all (MoreCommand c cs) v = after_all cs (after c v)

-- an expression's weight is at most b
abbrev pub is_light_expr : ℕ → Expr → (Location → ℕ) → Bool
unfolding definitions
is_light_expr b e v = nat_le (weight e v) b

abbrev mutual
  unfolding definitions

  pub is_light_test : ℕ → Test → (Location → ℕ) → Bool
  is_light_test b True v = true
  is_light_test b (Not c) v = is_light_cond b c v
  is_light_test b (Comparison op d e) v = is_light_expr b d v && is_light_expr b e v

  pub is_light_cond : ℕ → Cond → (Location → ℕ) → Bool
  is_light_cond b NoTest v = true
  is_light_cond b (MoreTest t c) v = is_light_test b t v && is_light_cond b c v

abbrev mutual
  unfolding definitions

  -- each expression of a command, in conditions and in both branches too, has a weight of at most b
  pub is_light : ℕ → Command → (Location → ℕ) → Bool
  is_light b Skip v = true
  is_light b (Assign t e) v = is_light_expr b e v
  is_light b (Write x e) v = is_light_expr b e v
  is_light b (Print e) v = is_light_expr b e v
  is_light b (Seq cs) v = are_light b cs v
  is_light b (If t c d) v = is_light_cond b t v && (is_light b c v && is_light b d v)

  pub are_light : ℕ → Commands → (Location → ℕ) → Bool
  are_light b NoCommand v = true
  are_light b (MoreCommand c cs) v = is_light b c v && are_light b cs (after c v)
