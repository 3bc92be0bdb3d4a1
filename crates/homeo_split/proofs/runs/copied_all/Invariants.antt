-- The lists so far are copied.
use Rattle.std.proofs.Common.{◌≡◌, map, take}
use Rattle.homeo_split.proofs.runs.copied_all.Given as goal

abbrev pub invariant-loop-list : goal.invariant-loop-list
invariant-loop-list l = map (λ v. v.items) l.copies.items ≡ map (λ d. d.items) (take l.list-index l.lists)
