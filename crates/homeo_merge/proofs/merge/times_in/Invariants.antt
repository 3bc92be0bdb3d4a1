use Rattle.std.proofs.Common.{◌≡◌, ◌==◌, count_by, take}
use Rattle.homeo_merge.proofs.merge.times_in.Given as goal

abbrev pub invariant-loop-site : goal.invariant-loop-site
invariant-loop-site l = l.times ≡ count_by (λ i. l.number == i) (take l.site-index l.choice)
