-- Slacks that move to another base.
use Rattle.std.specs.Prelude.{ℕ, List, [], slice_index_or, ℤ, pos, neg_ℤ, ◌+ℤ◌}
use Rattle.homeo_plan.specs.declared.forms.Term.{Term}
use Rattle.homeo_follow.specs.Rebased.{gained}

-- the slack of clause n: 0 where there is none
abbrev pub slack_at : List ℤ → ℕ → ℤ
slack_at ss n = slice_index_or ss n (pos 0)

-- less what the terms of the clause gained
abbrev pub moved_slack : (ℕ → ℤ) → List (List Term) → List ℤ → ℕ → ℤ
moved_slack g tss ss n = slack_at ss n +ℤ neg_ℤ (gained g (slice_index_or tss n []))
