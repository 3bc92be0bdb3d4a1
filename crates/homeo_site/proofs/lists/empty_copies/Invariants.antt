use Rattle.std.proofs.Common.{◌≡◌, [], replicate}
use Rattle.homeo_site.proofs.lists.empty_copies.Given as goal

abbrev pub invariant-loop : goal.invariant-loop
invariant-loop l = l.lists.items ≡ replicate l.counter (record { items = []; spare = l.count })
