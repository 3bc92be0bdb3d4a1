-- What commands over split names mean.
use Rattle.std.specs.Prelude.{ℕ, ◌==◌, Bool, true, false, cond, not, ◌&&◌, List, [], ◌∷◌, ◌++◌, ℤ, pos, ◌+ℤ◌, ◌*ℤ◌, neg_ℤ}
use Rattle.homeo_syntax.specs.declared.low.Temp.{Temp}
use Rattle.homeo_syntax.specs.declared.low.Temp.TheVariants.{Named, Fresh}
use Rattle.homeo_syntax.specs.declared.low.SplitName.{SplitName}
use Rattle.homeo_syntax.specs.declared.low.SplitName.TheVariants.{Whole, Base, Delta}
use Rattle.homeo_syntax.specs.Low.{Expr, Exprs, Literal, OfTemp, Read, Sum, Product, Neg, NoExpr, MoreExpr, Test, Cond, True, Not, Comparison, NoTest, MoreTest, Command, Commands, Skip, Assign, Write, Print, Seq, If, NoCommand, MoreCommand}
use Rattle.homeo_meaning.specs.Key.{definitions}
use Rattle.homeo_meaning.specs.Meaning.{compared}

-- what a state has values at: temporaries, bases, and the deltas of the sites
pub data Location : Type 0 where
  TempAt : (t : Temp) → Location
  BaseAt : (object : ℕ) → Location
  DeltaAt : (object site : ℕ) → Location

-- the values of all locations
abbrev pub State : Type 0
State = Location → ℤ

-- a whole object is its base
abbrev pub location_of : SplitName → Location
unfolding definitions
location_of (Whole x) = BaseAt x
location_of (Base x) = BaseAt x
location_of (Delta x j) = DeltaAt x j

abbrev pub same_temp : Temp → Temp → Bool
unfolding definitions
same_temp (Named m) (Named n) = m == n
same_temp (Fresh m) (Fresh n) = m == n
same_temp (Named m) (Fresh n) = false
same_temp (Fresh m) (Named n) = false

abbrev pub same_location : Location → Location → Bool
unfolding definitions
same_location (TempAt t) (TempAt u) = same_temp t u
same_location (TempAt t) (BaseAt y) = false
same_location (TempAt t) (DeltaAt y k) = false
same_location (BaseAt x) (TempAt t) = false
same_location (BaseAt x) (BaseAt y) = x == y
same_location (BaseAt x) (DeltaAt y k) = false
same_location (DeltaAt x j) (TempAt t) = false
same_location (DeltaAt x j) (BaseAt y) = false
same_location (DeltaAt x j) (DeltaAt y k) = (x == y) && (j == k)

-- the function with its value at one place changed
abbrev pub put : {A : Type 0} → (Location → A) → Location → A → Location → A
unfolding definitions
put s p v q = cond (same_location p q) v (s q)

abbrev mutual
  unfolding definitions

  pub value : Expr → State → ℤ
  value (Literal n) s = n
  value (OfTemp t) s = s (TempAt t)
  value (Read x) s = s (location_of x)
  value (Sum es) s = sum_value (pos 0) es s
  value (Product es) s = product_value (pos 1) es s
  value (Neg e) s = neg_ℤ (value e s)

  -- the sum of n and the terms, from left to right
  pub sum_value : ℤ → Exprs → State → ℤ
  sum_value n NoExpr s = n
  sum_value n (MoreExpr e es) s = sum_value (n +ℤ value e s) es s

  -- the product of n and the factors, from left to right
  pub product_value : ℤ → Exprs → State → ℤ
  product_value n NoExpr s = n
  product_value n (MoreExpr e es) s = product_value (n *ℤ value e s) es s

abbrev mutual
  unfolding definitions

  pub passes : Test → State → Bool
  passes True s = true
  passes (Not c) s = not (holds c s)
  passes (Comparison op a b) s = compared op (value a s) (value b s)

  -- a condition holds where each of its tests passes
  pub holds : Cond → State → Bool
  holds NoTest s = true
  holds (MoreTest t c) s = passes t s && holds c s

-- what a run leaves and prints
pub record Run : Type 0 where
  pub state : State
  pub prints : List ℤ

-- more prints in front of a run's
abbrev pub after_prints : List ℤ → Run → Run
unfolding definitions
after_prints ps r = record { state = r.state; prints = ps ++ r.prints }

abbrev mutual
  unfolding definitions

  -- what a command leaves and prints
  pub exec : Command → State → Run
  exec Skip s = record { state = s; prints = [] }
  exec (Assign t e) s = record { state = put s (TempAt t) (value e s); prints = [] }
  exec (Write x e) s = record { state = put s (location_of x) (value e s); prints = [] }
  exec (Print e) s = record { state = s; prints = value e s ∷ [] }
  exec (Seq cs) s = exec_all cs s
  exec (If b c d) s = cond (holds b s) (exec c s) (exec d s)

  -- commands one after another
  pub exec_all : Commands → State → Run
  exec_all NoCommand s = record { state = s; prints = [] }
  exec_all (MoreCommand c cs) s = after_prints (exec c s).prints (exec_all cs (exec c s).state)

-- where a call begins: temporaries and deltas are 0, and each object is whole
abbrev pub whole : (ℕ → ℤ) → State
unfolding definitions
whole database (TempAt t) = pos 0
whole database (BaseAt n) = database n
whole database (DeltaAt n site) = pos 0
