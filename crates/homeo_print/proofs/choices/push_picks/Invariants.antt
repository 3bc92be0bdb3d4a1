use Rattle.std.proofs.Common.{◌≡◌, ◌++◌, map, take}
use Rattle.homeo_print.specs.inner.Choices.{picks_text}
use Rattle.homeo_print.proofs.choices.push_picks.Given as goal

abbrev pub invariant-loop-row : goal.invariant-loop-row
invariant-loop-row l = l.out.items ≡ l.fn.out.items ++ picks_text (map (λ r. r.picks.items) (take l.row-index l.rows))
