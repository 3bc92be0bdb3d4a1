-- What the code has made so far, and what it adds to that.
use Rattle.std.specs.Prelude.{◌≡◌, ◌≤◌, ℕ, suc, Bool, pos, map, List, All, length}
use Rattle.homeo_syntax.specs.Low as L
use Rattle.homeo_syntax.specs.declared.low.Temp.TheVariants as temp
use Rattle.homeo_syntax.specs.declared.low.SplitName.TheVariants as split
use Rattle.homeo_syntax.specs.declared.workload.RangeDecl.{RangeDecl}
use Rattle.homeo_meaning.specs.Context.{Slot}
use Rattle.homeo_syntax.specs.LowView.{low_commands, plain_lcommand}
use Rattle.homeo_meaning.specs.LForm.{Lifted, Made, AllMade, Target, both, one, in_turn, field_writes}
use Rattle.homeo_desugar.specs.inner.Key.{definitions}
use Rattle.homeo_context.specs.Slots.{plain_spot}
use Rattle.homeo_desugar.specs.declared.making.Making.{Making}
use Rattle.homeo_desugar.specs.declared.making.Target as code

abbrev pub made : Making → L.Commands
unfolding definitions
made m = low_commands (map plain_lcommand m.commands.items)

-- the phrase is the lifted one, and the lifting's commands stand behind those that were there
pub record IsLifted {A : Type 0} (old new : Making) (x : Lifted A) (made_phrase : A) : Type 0 where
  pub phrase : made_phrase ≡ x.phrase
  pub commands : made new ≡ both (made old) x.before
  pub next : new.next ≡ x.next

-- the commands stand behind those that were there
pub record IsAdded (old new : Making) (x : AllMade) : Type 0 where
  pub commands : made new ≡ both (made old) x.commands
  pub next : new.next ≡ x.next

-- the commands of a slot stand behind those that were there, guarded or not
pub record IsTurned (g : Bool) (old new : Making) (v : Lifted L.Command) : Type 0 where
  pub commands : made new ≡ both (made old) (in_turn g v.before v.phrase L.NoCommand)
  pub next : new.next ≡ v.next

pub record IsFormed (after : ℕ) (x : Made) (formed : L.Command) : Type 0 where
  pub command : formed ≡ x.command
  pub next : after ≡ x.next

pub record AreFormed (after : ℕ) (x : AllMade) (formed : L.Commands) : Type 0 where
  pub commands : formed ≡ x.commands
  pub next : after ≡ x.next

abbrev pub plain_target : code.Target → Target
unfolding definitions
plain_target t = record { field = plain_spot t.field; temp = t.temp }

abbrev pub both_tests : L.Cond → L.Cond → L.Cond
unfolding definitions
both_tests L.NoTest d = d
both_tests (L.MoreTest t c) d = L.MoreTest t (both_tests c d)

-- the tests of the lifted condition stand behind those that were there
pub record IsTested (before after : L.Cond) (old new : Making) (x : Lifted L.Cond) : Type 0 where
  pub tests : after ≡ both_tests before x.phrase
  pub commands : made new ≡ both (made old) x.before
  pub next : new.next ≡ x.next

-- each target is one of the fields, or past them
abbrev pub AreWithin : List RangeDecl → List code.Target → Type 0
unfolding definitions
AreWithin fields targets = All (λ (t : code.Target). t.field.place ≤ length fields) targets

-- a slot filled with new values, and its number plus 1 put into a temporary
abbrev pub filled : Slot → List Target → ℕ → L.Command
unfolding definitions
filled slot xs t =
    L.Seq (field_writes slot xs (L.MoreCommand (L.Write (split.Whole slot.used) (L.Literal (pos 1))) (one (L.Assign (temp.Named t) (L.Literal (pos (suc slot.number)))))))
