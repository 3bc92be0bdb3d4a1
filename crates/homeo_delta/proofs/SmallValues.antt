-- What a command computes is small where each number that it meets is, and so is each object that it leaves.
use Rattle.std.proofs.Common.{ℕ, ◌≤◌, ◌==◌, Bool, true, false, cond, ℤ, pos, ◌+ℤ◌, ◌*ℤ◌, arith}
use Rattle.std.specs.Int.RustNames.{unsigned_abs}
use Rattle.homeo_syntax.specs.declared.low.SplitName.TheVariants.{Whole, Base, Delta}
use Rattle.homeo_syntax.specs.Low.{Expr, Exprs, Literal, OfTemp, Read, Sum, Product, Neg, NoExpr, MoreExpr, Command, Commands, Skip, Assign, Write, Print, Seq, If, NoCommand, MoreCommand}
use Rattle.homeo_meaning.specs.Key.{definitions}
use Rattle.homeo_meaning.specs.LowComputed.{CanValue, CanSum, CanProduct, CanRun, CanRunAll}
use Rattle.homeo_meaning.specs.LowMeaning.{BaseAt, State, Run, value, sum_value, product_value, holds, exec, exec_all}
use Rattle.homeo_meaning.specs.Small.{IsSmall}
use Rattle.homeo_meaning.specs.Whole.{IsWhole}
use Rattle.homeo_meaning.proofs.Parts.{AreWhole}

module _ (b : ℕ) (some : 1 ≤ b) where
  mutual
    unfolding definitions

    pub value_small : (e : Expr) (u : State) → CanValue (IsSmall b) (IsSmall b) e u → unsigned_abs (value e u) ≤ b
    value_small (Literal n) u c = c
    value_small (OfTemp t) u c = c
    value_small (Read x) u c = c
    value_small (Sum es) u c = terms_small es (pos 0) u (omega arith) c
    value_small (Product es) u c = factors_small es (pos 1) u some c
    value_small (Neg e) u c = c.1

    terms_small : (es : Exprs) (n : ℤ) (u : State) → unsigned_abs n ≤ b → CanSum (IsSmall b) (IsSmall b) n es u → unsigned_abs (sum_value n es u) ≤ b
    terms_small NoExpr n u h c = h
    terms_small (MoreExpr e es) n u h c = terms_small es (n +ℤ value e u) u c.1 c.2

    factors_small : (es : Exprs) (n : ℤ) (u : State) → unsigned_abs n ≤ b → CanProduct (IsSmall b) (IsSmall b) n es u → unsigned_abs (product_value n es u) ≤ b
    factors_small NoExpr n u h c = h
    factors_small (MoreExpr e es) n u h c = factors_small es (n *ℤ value e u) u c.1 c.2

  -- ---- the objects stay small
  either_small : (v : Bool) (r q : Run) (x : ℕ) → unsigned_abs (r.state (BaseAt x)) ≤ b → unsigned_abs (q.state (BaseAt x)) ≤ b → unsigned_abs ((cond v r q).state (BaseAt x)) ≤ b
  either_small true r q x h g = h
  either_small false r q x h g = g

  written_small : (v : Bool) (new old : ℤ) → unsigned_abs new ≤ b → unsigned_abs old ≤ b → unsigned_abs (cond v new old) ≤ b
  written_small true new old h g = h
  written_small false new old h g = g

  mutual
    unfolding definitions

    pub objects_small :
        (c : Command) (u : State) → IsWhole c → ((x : ℕ) → unsigned_abs (u (BaseAt x)) ≤ b) → CanRun (IsSmall b) (IsSmall b) c u →
        (x : ℕ) → unsigned_abs ((exec c u).state (BaseAt x)) ≤ b
    objects_small Skip u w h r x = h x
    objects_small (Assign t e) u w h r x = h x
    objects_small (Write (Whole y) e) u w h r x = written_small (y == x) (value e u) (u (BaseAt x)) (value_small e u r) (h x)
    objects_small (Write (Base y) e) u w h r x = absurd w.0
    objects_small (Write (Delta y j) e) u w h r x = absurd w.0
    objects_small (Print e) u w h r x = h x
    objects_small (Seq cs) u w h r x = all_objects_small cs u w h r x
    objects_small (If t c d) u w h r x =
        either_small (holds t u) (exec c u) (exec d u) x (objects_small c u w.1 h r.1 x) (objects_small d u w.2 h r.2 x)

    all_objects_small :
        (cs : Commands) (u : State) → AreWhole cs → ((x : ℕ) → unsigned_abs (u (BaseAt x)) ≤ b) → CanRunAll (IsSmall b) (IsSmall b) cs u →
        (x : ℕ) → unsigned_abs ((exec_all cs u).state (BaseAt x)) ≤ b
    all_objects_small NoCommand u w h r x = h x
    all_objects_small (MoreCommand c cs) u w h r x =
        all_objects_small cs (exec c u).state w.1 (objects_small c u w.0 h r.0) r.1 x
