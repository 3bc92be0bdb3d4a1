use Rattle.std.proofs.Common.{◌≡◌, drop}
use Rattle.homeo_meaning.specs.NumberRules.{object_making}
use Rattle.homeo_rules.specs.inner.Counting.{count_all}
use Rattle.homeo_rules.proofs.rules.objects.count_objects.Given as goal

abbrev pub invariant-loop-d : goal.invariant-loop-d
invariant-loop-d l = count_all object_making (record { count = l.k.count; best = l.k.best }) (drop l.d-index l.ds) ≡ count_all object_making (record { count = l.initial.k.count; best = l.initial.k.best }) l.ds
