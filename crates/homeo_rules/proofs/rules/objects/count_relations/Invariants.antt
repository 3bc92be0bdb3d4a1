use Rattle.std.proofs.Common.{◌≡◌, drop}
use Rattle.homeo_rules.specs.inner.Counting.{count_all, making_of}
use Rattle.homeo_rules.proofs.rules.objects.count_relations.Given as goal

abbrev pub invariant-loop-q : goal.invariant-loop-q
invariant-loop-q l = count_all making_of (record { count = l.k.count; best = l.k.best }) (drop l.q-index l.qs) ≡ count_all making_of (record { count = l.initial.k.count; best = l.initial.k.best }) l.qs
