-- What is read off is what was marked, in order.
use Rattle.std.proofs.Common.{◌≡◌, ℕ, Bool, false, List, get_or, sym, subst, ap, ◌∙◌}
use Rattle.std.specs.List.Sorted.{IsStrictlySortedBy}
use Rattle.std.specs.Ordering.{nat_cmp}
use Rattle.homeo_outline.specs.Numbers.{has}
use Rattle.homeo_effect.proofs.RisingNumbers.{numbers_rise}
use Rattle.homeo_effect.proofs.Marking.{all_read, few_read}
use Rattle.homeo_effect.proofs.uses.rising.Goals as goal

-- the marks as they are lent
lent : (marks here : List Bool) (numbers there : List ℕ) → here ≡ marks → there ≡ numbers → ((n : ℕ) → get_or marks n false ≡ has n there) → (n : ℕ) → get_or here n false ≡ has n numbers
lent marks here numbers there e f set n = ap (λ (l : List Bool). get_or l n false) e ∙ set n ∙ ap (has n) f

pub marked-requires-clause-room : goal.marked-requires-clause-room
marked-requires-clause-room c =
    few_read c.as_slice-else-len-count-2.result.now c.args.numbers.items
    (lent _ _ _ _ c.as_slice-else-len-count-2.ensures.value c.as_slice-else-len-count.ensures.value c.in_ok-marks.ensures.set)

pub returns-in_ok-marks-clause-rising : goal.returns-in_ok-marks-clause-rising
returns-in_ok-marks-clause-rising c = subst (IsStrictlySortedBy nat_cmp) (sym c.marked.ensures) (numbers_rise (λ mark. mark) 0 c.as_slice-else-len-count-2.result.now)

pub returns-in_ok-marks-clause-all : goal.returns-in_ok-marks-clause-all
returns-in_ok-marks-clause-all c n =
    ap (has n) c.marked.ensures ∙ all_read _ n
    ∙ lent _ _ _ _ c.as_slice-else-len-count-2.ensures.value c.as_slice-else-len-count.ensures.value c.in_ok-marks.ensures.set n
