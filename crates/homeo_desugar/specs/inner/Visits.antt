-- What a loop over slots makes at each of them.
use Rattle.std.specs.Prelude.{ℕ, pos, false, Option, Some, None}
use Rattle.homeo_syntax.specs.Low as L
use Rattle.homeo_syntax.specs.declared.low.Temp.TheVariants as temp
use Rattle.homeo_syntax.specs.Source.{Expr, Commands}
use Rattle.homeo_meaning.specs.Context.{Slot, Context, field_cell, bind}
use Rattle.homeo_meaning.specs.LForm.{Lifted, Made, mapped, equal, read, fresh, lift, write_field, as_one, forms}
use Rattle.homeo_desugar.specs.inner.Key.{definitions}

-- what a used slot adds: 1, or a field
abbrev pub term_of : Option ℕ → Slot → L.Expr
unfolding definitions
term_of None slot = L.Literal (pos 1)
term_of (Some f) slot = read (field_cell slot f)

abbrev pub added : ℕ → L.Expr → L.Command
unfolding definitions
added n e = L.Assign (temp.Fresh n) (L.Sum (L.MoreExpr (fresh n) (L.MoreExpr e L.NoExpr)))

abbrev pub adding : ℕ → (Slot → L.Expr) → Slot → ℕ → Made
unfolding definitions
adding n term slot m = record { command = added n (term slot); next = m }

-- the slot is used, and the condition holds
abbrev pub used_and : Slot → Lifted L.Cond → Lifted L.Cond
unfolding definitions
used_and slot b = mapped (L.MoreTest (equal (read slot.used) (pos 1))) b

-- what `update` makes of a slot: the field of a name is set
abbrev pub updating : Context → ℕ → ℕ → Expr → Slot → ℕ → Made
unfolding definitions
updating x row f e slot n = write_field slot f (lift (bind x row slot) e n)

-- what `foreach` makes of a slot: its body
abbrev pub running : Context → ℕ → Commands → Slot → ℕ → Made
unfolding definitions
running x row body slot n = as_one (forms (bind x row slot) false body n)

-- the commands of a slot: those of its test's lifting, and then the choice
abbrev pub visit_of : (Slot → ℕ → Lifted L.Cond) → (Slot → ℕ → Made) → Slot → ℕ → Lifted L.Command
unfolding definitions
visit_of test body slot n =
    let b = test slot n in
    let c = body slot b.next in
    record { before = b.before; phrase = L.If (L.MoreTest (equal (read slot.used) (pos 1)) b.phrase) c.command L.Skip; next = c.next }
