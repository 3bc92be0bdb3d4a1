-- A transformed command does on a split database what the given one does on the fold.
use Rattle.std.proofs.Common.{◌≡◌, ℕ, ◌<◌, Result, Ok, Err, IfOk, sym, subst}
use Rattle.homeo_syntax.specs.LowView.{plain_lcommand}
use Rattle.homeo_syntax.specs.Low.{Command}
use Rattle.homeo_syntax.specs.declared.low.LCommand.{LCommand}
use Rattle.homeo_meaning.specs.LowMeaning.{State, exec}
use Rattle.homeo_meaning.specs.Whole.{IsWhole}
use Rattle.homeo_plan.specs.Split.{fold_state, shift, Follows}
use Rattle.homeo_plan.proofs.Shift.{shift_follows}

pub follows :
    {E : Type 0} (k i : ℕ) → i < k → (c : LCommand) → IsWhole (plain_lcommand c) → (r : Result LCommand E) →
    IfOk r (λ d. plain_lcommand d ≡ shift k i (plain_lcommand c)) →
    IfOk r (λ d. (s : State) → Follows k i (exec (plain_lcommand d) s) s (exec (plain_lcommand c) (fold_state k s)))
follows k i lt c whole (Ok d) form =
    let run = λ (s : State) (t : Command). Follows k i (exec t s) s (exec (plain_lcommand c) (fold_state k s)) in
    λ s. subst (run s) (sym form) (shift_follows k i lt (plain_lcommand c) s whole)
follows k i lt c whole (Err e) form = tt
