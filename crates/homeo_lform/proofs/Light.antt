-- Weights bound every number that an L form computes, and so every number that its source computes.
use Rattle.std.proofs.Common.{◌≡◌, ℕ, zero, suc, ◌+◌, ◌*◌, ◌≤◌, max, Bool, true, false, cond, List, [], ◌∷◌, ℤ, pos, ◌+ℤ◌, ◌*ℤ◌, neg_ℤ, arith}
use Rattle.std.specs.Int.RustNames.{unsigned_abs}
use Rattle.std.proofs.lemmas.Int.{ints, unsigned_abs-mul}
use Rattle.std.proofs.lemmas.Nat.{mul-le}
use Rattle.std.proofs.lemmas.Bool.{and_parts}
use Rattle.std.proofs.lemmas.Bool.Decides.{nat_tests}
use Rattle.homeo_lemmas.proofs.Integers.{abs_neg, abs_add}
use Rattle.homeo_lemmas.proofs.Naturals.{product_positive, factor_le}
use Rattle.homeo_syntax.specs.Low.{Expr, Exprs, Literal, OfTemp, Read, Sum, Product, Neg, NoExpr, MoreExpr, Test, Cond, True, Not, Comparison, NoTest, MoreTest, Command, Commands, Skip, Assign, Write, Print, Seq, If, NoCommand, MoreCommand}
use Rattle.homeo_syntax.specs.Source as s
use Rattle.homeo_meaning.specs.Key.{definitions}
use Rattle.homeo_meaning.specs.LForm.{l_form}
use Rattle.homeo_meaning.specs.LowMeaning.{Location, TempAt, BaseAt, DeltaAt, location_of, same_location, State, Run, put, value, sum_value, product_value, holds, exec, exec_all, whole}
use Rattle.homeo_meaning.specs.Schema.{Schema}
use Rattle.homeo_meaning.specs.Bounds.{Bounds, IsIn, all_bounds, bounds_at, AllWithin}
use Rattle.homeo_meaning.specs.LowWeights.{weight_at, bounds_weight}
use Rattle.homeo_meaning.specs.LowWeights.{weight, sum_weight, product_weight, after, after_all, is_light_expr, is_light_test, is_light_cond, is_light, are_light, first_weights}
use Rattle.homeo_meaning.specs.LowComputed.{CanValue, CanSum, CanProduct, CanPass, CanHold, CanRun, CanRunAll}
use Rattle.homeo_meaning.specs.Small.{IsSmall, ComputesSmall}
use Rattle.homeo_lform.specs.Covers.{Covers}
use Rattle.homeo_lform.proofs.SourceNumbers.{values_law}
use Rattle.homeo_lform.proofs.Weights.{one_weight, one_product}

pub weight_small : (b : ℕ) (w : Location → ℕ) (e : Expr) → is_light_expr b e w ≡ true → weight e w ≤ b
unfolding definitions
weight_small b w e h = grind (arith, nat_tests)

record Light (b : ℕ) (Can : Type 0) (v : ℤ) (n : ℕ) : Type 0 where
  can : Can
  size : unsigned_abs v ≤ n

module _ (b : ℕ) (w : Location → ℕ) (s : State) (c : Covers w s) where
  mutual
    unfolding definitions

    light : (e : Expr) → weight e w ≤ b → Light b (CanValue (IsSmall b) (IsSmall b) e s) (value e s) (weight e w)
    light (Literal n) h = record { can = omega (arith, h); size = omega arith }
    light (OfTemp t) h = record { can = omega (arith, h, c.size (TempAt t)); size = c.size (TempAt t) }
    light (Read x) h = record { can = omega (arith, h, c.size (location_of x)); size = c.size (location_of x) }
    light (Sum es) h =
        let l = sum_light es (pos 0) 0 (omega arith) (omega arith) in record { can = l.can; size = omega (arith, l.size) }
    light (Product es) h =
        let l = product_light es (pos 1) 1 (omega arith) (omega arith) (omega arith) in record { can = l.can; size = omega (arith, l.size) }
    light (Neg e) h =
        let l = light e h in
        let size : unsigned_abs (neg_ℤ (value e s)) ≤ weight e w = omega (arith, l.size, abs_neg (value e s)) in
        record { can = (l.can, omega (arith, size)); size = size }

    sum_light : (es : Exprs) (n : ℤ) (m : ℕ) → unsigned_abs n ≤ m → m + sum_weight es w ≤ b
        → Light b (CanSum (IsSmall b) (IsSmall b) n es s) (sum_value n es s) (m + sum_weight es w)
    sum_light NoExpr n m k h = record { can = tt; size = omega (arith, k) }
    sum_light (MoreExpr e es) n m k h =
        let l = light e (omega (arith, h)) in
        let here : unsigned_abs (n +ℤ value e s) ≤ m + weight e w = omega (arith, l.size, k, abs_add n (value e s)) in
        let r = sum_light es (n +ℤ value e s) (m + weight e w) here (omega (arith, h)) in
        record { can = (l.can, omega (arith, here, h), r.can); size = omega (arith, r.size) }

    product_light : (es : Exprs) (n : ℤ) (m : ℕ) → unsigned_abs n ≤ m → 1 ≤ m → m * product_weight es w ≤ b
        → Light b (CanProduct (IsSmall b) (IsSmall b) n es s) (product_value n es s) (m * product_weight es w)
    product_light NoExpr n m k one h = record { can = tt; size = omega (arith, k) }
    product_light (MoreExpr e es) n m k one h =
        let we = weight e w in
        let rest = product_weight es w in
        let one_rest = one_product w c.one es in
        let one_e = one_weight w c.one e in
        let whole_le : we ≤ we * (m * rest) = factor_le we (m * rest) (product_positive m rest one one_rest) in
        let l = light e (omega (arith, h, whole_le)) in
        let here : unsigned_abs (n *ℤ value e s) ≤ m * we = omega
        (arith, unsigned_abs-mul n (value e s), mul-le (unsigned_abs n) (unsigned_abs (value e s)) m we k l.size) in
        let part : m * we ≤ (m * we) * rest = factor_le (m * we) rest one_rest in
        let r = product_light es (n *ℤ value e s) (m * we) here (product_positive m we one one_e) (omega (arith, h)) in
        record { can = (l.can, omega (arith, here, part, h), r.can); size = omega (arith, r.size) }

  mutual
    unfolding definitions

    light_test : (t : Test) → is_light_test b t w ≡ true → CanPass (IsSmall b) (IsSmall b) t s
    light_test True h = tt
    light_test (Not d) h = light_cond d h
    light_test (Comparison op x y) h =
        let parts = and_parts (is_light_expr b x w) _ h in
        ((light x (weight_small b w x parts.0)).can, (light y (weight_small b w y parts.1)).can)

    light_cond : (d : Cond) → is_light_cond b d w ≡ true → CanHold (IsSmall b) (IsSmall b) d s
    light_cond NoTest h = tt
    light_cond (MoreTest t d) h =
        let parts = and_parts (is_light_test b t w) _ h in
        (light_test t parts.0, light_cond d parts.1)

covers_put : (w : Location → ℕ) (s : State) (p : Location) (v : ℤ) (n : ℕ) → Covers w s → unsigned_abs v ≤ n → 1 ≤ n → Covers (put w p n) (put s p v)
unfolding definitions
covers_put w s p v n c h one = record { size = λ q. size q (same_location p q); one = λ q. one_at q (same_location p q) }
  where
    size : (q : Location) (b : Bool) → unsigned_abs (cond b v (s q)) ≤ cond b n (w q)
    size q true = h
    size q false = c.size q

    one_at : (q : Location) (b : Bool) → 1 ≤ cond b n (w q)
    one_at q true = one
    one_at q false = c.one q

covers_if : (w w' : Location → ℕ) (v : Bool) (r r' : Run) → Covers w r.state → Covers w' r'.state → Covers (λ p. max (w p) (w' p)) (cond v r r').state
unfolding definitions
covers_if w w' true r r' c c' = record { size = λ p. omega (arith, c.size p); one = λ p. omega (arith, c.one p) }
covers_if w w' false r r' c c' = record { size = λ p. omega (arith, c'.size p); one = λ p. omega (arith, c'.one p) }

pub value_covered : (e : Expr) (w : Location → ℕ) (s : State) → Covers w s → unsigned_abs (value e s) ≤ weight e w
value_covered e w s c = (light (weight e w) w s c e (omega arith)).size

put_covered : (p : Location) (e : Expr) (w : Location → ℕ) (s : State) → Covers w s → Covers (put w p (weight e w)) (put s p (value e s))
put_covered p e w s c = covers_put w s p (value e s) (weight e w) c (value_covered e w s c) (one_weight w c.one e)

mutual
  unfolding definitions

  pub run_covered : (c : Command) (w : Location → ℕ) (s : State) → Covers w s → Covers (after c w) (exec c s).state
  run_covered Skip w s k = k
  run_covered (Assign t e) w s k = put_covered (TempAt t) e w s k
  run_covered (Write x e) w s k = put_covered (location_of x) e w s k
  run_covered (Print e) w s k = k
  run_covered (Seq cs) w s k = all_covered cs w s k
  run_covered (If t c d) w s k =
      covers_if (after c w) (after d w) (holds t s) (exec c s) (exec d s) (run_covered c w s k) (run_covered d w s k)

  all_covered : (cs : Commands) (w : Location → ℕ) (s : State) → Covers w s → Covers (after_all cs w) (exec_all cs s).state
  all_covered NoCommand w s k = k
  all_covered (MoreCommand c cs) w s k = all_covered cs (after c w) (exec c s).state (run_covered c w s k)

module _ (b : ℕ) where
  value_light : (e : Expr) (w : Location → ℕ) (s : State) → Covers w s → is_light_expr b e w ≡ true → CanValue (IsSmall b) (IsSmall b) e s
  value_light e w s k h = (light b w s k e (weight_small b w e h)).can

  mutual
    unfolding definitions

    run_light : (c : Command) (w : Location → ℕ) (s : State) → Covers w s → is_light b c w ≡ true → CanRun (IsSmall b) (IsSmall b) c s
    run_light Skip w s k h = tt
    run_light (Assign t e) w s k h = value_light e w s k h
    run_light (Write x e) w s k h = value_light e w s k h
    run_light (Print e) w s k h = value_light e w s k h
    run_light (Seq cs) w s k h = all_light cs w s k h
    run_light (If t c d) w s k h =
        let parts = and_parts (is_light_cond b t w) _ h in
        let branches = and_parts (is_light b c w) _ parts.1 in
        (light_cond b w s k t parts.0, run_light c w s k branches.0, run_light d w s k branches.1)

    all_light : (cs : Commands) (w : Location → ℕ) (s : State) → Covers w s → are_light b cs w ≡ true → CanRunAll (IsSmall b) (IsSmall b) cs s
    all_light NoCommand w s k h = tt
    all_light (MoreCommand c cs) w s k h =
        let parts = and_parts (is_light b c w) _ h in
        (run_light c w s k parts.0, all_light cs (after c w) (exec c s).state (run_covered c w s k) parts.1)

pub in_size : (x : Bounds) (v : ℤ) → IsIn x v → unsigned_abs v ≤ bounds_weight x
unfolding definitions
in_size x v h = grind (arith, ints, h.0, h.1)

pub size_at : (bs : List Bounds) (n : ℕ) (v : ℤ) → IsIn (bounds_at bs n) v → unsigned_abs v ≤ weight_at bs n
unfolding definitions
size_at [] n v h = grind (arith, ints, h.0, h.1)
size_at (b ∷ bs) zero v h = in_size b v h
size_at (b ∷ bs) (suc n) v h = size_at bs n v h

pub one_at : (bs : List Bounds) (n : ℕ) → 1 ≤ weight_at bs n
unfolding definitions
one_at [] n = omega arith
one_at (b ∷ bs) zero = omega arith
one_at (b ∷ bs) (suc n) = one_at bs n

pub covers_start : (x : Schema) (database : ℕ → ℤ) → AllWithin x database → Covers (first_weights x) (whole database)
unfolding definitions
covers_start x database h = record { size = size; one = one }
  where
    size : (p : Location) → unsigned_abs (whole database p) ≤ first_weights x p
    size (TempAt t) = omega arith
    size (BaseAt n) = size_at (all_bounds x) n (database n) (h n)
    size (DeltaAt n j) = omega arith

    one : (p : Location) → 1 ≤ first_weights x p
    one (TempAt t) = omega arith
    one (BaseAt n) = one_at (all_bounds x) n
    one (DeltaAt n j) = omega arith

pub light_law : (b : ℕ) (x : Schema) (params : List ℕ) (args : List ℤ) (body : s.Commands) (database : ℕ → ℤ) → AllWithin x database
    → is_light b (l_form x params args body) (first_weights x) ≡ true → ComputesSmall b x params args body database
unfolding definitions
light_law b x params args body database h l =
    let form = run_light b (l_form x params args body) (first_weights x) (whole database) (covers_start x database h) l in
    record { form = form; program = values_law (IsSmall b) (IsSmall b) x params args body database form }
