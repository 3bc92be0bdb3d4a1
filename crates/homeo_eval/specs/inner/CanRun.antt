-- Whether each number that a run computes is at most b in size, with the partial sums and products from left to right.
-- In each branch and at each slot as if it were taken, but not behind the end of the call.
use Rattle.std.specs.Prelude.{ℕ, ℤ, pos, ◌+ℤ◌, ◌*ℤ◌, neg_ℤ, Bool, true, cond, ◌&&◌, ◌||◌, List, [], ◌∷◌, Option, Some, None}
use Rattle.homeo_syntax.specs.Source.{Expr, Exprs, Literal, Name, Read, Sum, Product, Neg, Field, Row, Count, Total, NoExpr, MoreExpr, Test, Cond, True, Not, Comparison, NoTest, MoreTest, FieldValue, Command, Commands, Skip, Assign, Write, Print, If, Block, SetField, SetRow, Foreach, Insert, Delete, Update, Abort, NoCommand, MoreCommand}
use Rattle.homeo_meaning.specs.Key.{definitions}
use Rattle.homeo_meaning.specs.Small.{is_small}
use Rattle.homeo_meaning.specs.Context.{Slot, Context, field_cell, slots, bind, slot_at}
use Rattle.homeo_meaning.specs.Meaning.{State, Run, done, is_used, value, holds, set_object, write_field, does, does_all}

-- an index counts where the relation has slots
abbrev pub on_slots : List Slot → Bool → Bool
unfolding definitions
on_slots [] fits = true
on_slots (slot ∷ more) fits = fits

-- a value counts where there is the slot that it is written to
abbrev pub on_slot : Option Slot → Bool → Bool
unfolding definitions
on_slot None fits = true
on_slot (Some slot) fits = fits

-- of a count or a sum each test, and each number on the way
abbrev pub adding_fits : ℕ → (Slot → Bool) → (Slot → Bool) → (Slot → ℤ) → List Slot → ℤ → Bool
unfolding definitions
adding_fits b tests passes term [] n = true
adding_fits b tests passes term (slot ∷ more) n =
    tests slot && (is_small b (n +ℤ term slot) && adding_fits b tests passes term more (cond (passes slot) (n +ℤ term slot) n))

abbrev mutual
  unfolding definitions

  pub expr_fits : ℕ → Context → Expr → State → Bool
  expr_fits b x (Literal n) s = true
  expr_fits b x (Name t) s = true
  expr_fits b x (Read o) s = true
  expr_fits b x (Sum es) s = sum_fits b x es s (pos 0)
  expr_fits b x (Product es) s = product_fits b x es s (pos 1)
  expr_fits b x (Neg e) s = expr_fits b x e s && is_small b (neg_ℤ (value x e s))
  expr_fits b x (Field q e f) s = on_slots (slots x q.name) (expr_fits b x e s)
  expr_fits b x (Row r f) s = true
  expr_fits b x (Count r q c) s =
      adding_fits b (λ slot. cond_fits b (bind x r.name slot) c s) (λ slot. is_used s slot && holds (bind x r.name slot) c s) (λ slot. pos 1) (slots x q.name) (pos 0)
  expr_fits b x (Total r f q c) s =
      adding_fits b (λ slot. cond_fits b (bind x r.name slot) c s) (λ slot. is_used s slot && holds (bind x r.name slot) c s) (λ slot. s.database (field_cell slot f.name)) (slots x q.name) (pos 0)

  -- the terms that are added to n
  pub sum_fits : ℕ → Context → Exprs → State → ℤ → Bool
  sum_fits b x NoExpr s n = true
  sum_fits b x (MoreExpr e es) s n = expr_fits b x e s && (is_small b (n +ℤ value x e s) && sum_fits b x es s (n +ℤ value x e s))

  -- the factors that n is multiplied by
  pub product_fits : ℕ → Context → Exprs → State → ℤ → Bool
  product_fits b x NoExpr s n = true
  product_fits b x (MoreExpr e es) s n = expr_fits b x e s && (is_small b (n *ℤ value x e s) && product_fits b x es s (n *ℤ value x e s))

  pub test_fits : ℕ → Context → Test → State → Bool
  test_fits b x True s = true
  test_fits b x (Not c) s = cond_fits b x c s
  test_fits b x (Comparison op l r) s = expr_fits b x l s && expr_fits b x r s

  pub cond_fits : ℕ → Context → Cond → State → Bool
  cond_fits b x NoTest s = true
  cond_fits b x (MoreTest t c) s = test_fits b x t s && cond_fits b x c s

abbrev pub values_fit : ℕ → Context → List FieldValue → State → Bool
unfolding definitions
values_fit b x [] s = true
values_fit b x (f ∷ more) s = expr_fits b x f.value s && values_fit b x more s

-- each visit's test and body, on the state that it finds
abbrev pub visits_fit : (Slot → State → Bool) → (Slot → State → Bool) → (Slot → State → Bool) → (Slot → State → Run) → List Slot → State → Bool
unfolding definitions
visits_fit tests bodies test body [] s = true
visits_fit tests bodies test body (slot ∷ more) s =
    let here : Run = cond (is_used s slot && test slot s) (body slot s) (done s) in
    tests slot s && (bodies slot s && (here.ended || visits_fit tests bodies test body more here.state))

abbrev mutual
  unfolding definitions

  pub can_run : ℕ → Context → Command → State → Bool
  can_run b x Skip s = true
  can_run b x (Assign t e) s = expr_fits b x e s
  can_run b x (Write o e) s = expr_fits b x e s
  can_run b x (Print e) s = expr_fits b x e s
  can_run b x (If t c d) s = cond_fits b x t s && (can_run b x c s && can_run b x d s)
  can_run b x (Block cs) s = can_run_all b x cs s
  can_run b x (SetField q i f e) s = on_slots (slots x q.name) (expr_fits b x i s) && on_slot (slot_at (value x i s) (slots x q.name)) (expr_fits b x e s)
  can_run b x (SetRow r f e) s = expr_fits b x e s
  can_run b x (Foreach r q t body) s =
      visits_fit (λ slot. cond_fits b (bind x r.name slot) t) (λ slot. can_run_all b (bind x r.name slot) body) (λ slot. holds (bind x r.name slot) t) (λ slot. does_all (bind x r.name slot) body) (slots x q.name) s
  can_run b x (Insert q fs t) s = values_fit b x fs s
  can_run b x (Delete r q t) s =
      visits_fit (λ slot. cond_fits b (bind x r.name slot) t) (λ slot u. true) (λ slot. holds (bind x r.name slot) t) (λ slot u. done (set_object u slot.used (pos 0))) (slots x q.name) s
  can_run b x (Update r q t f e) s =
      visits_fit (λ slot. cond_fits b (bind x r.name slot) t) (λ slot. expr_fits b (bind x r.name slot) e) (λ slot. holds (bind x r.name slot) t) (λ slot u. done (write_field u slot f.name (value (bind x r.name slot) e u))) (slots x q.name) s
  can_run b x Abort s = true

  pub can_run_all : ℕ → Context → Commands → State → Bool
  can_run_all b x NoCommand s = true
  can_run_all b x (MoreCommand c cs) s = can_run b x c s && ((does x c s).ended || can_run_all b x cs (does x c s).state)
