use Rattle.std.proofs.Common.{◌≡◌, ◌++◌, map, take}
use Rattle.homeo_syntax.specs.SourceView.{plain_relation}
use Rattle.homeo_meaning.specs.Schema.{declared_relation}
use Rattle.homeo_meaning.specs.Initial.{relation_starts}
use Rattle.homeo_eval.proofs.start.initial.Given as goal

abbrev pub invariant-loop-object : goal.invariant-loop-object
invariant-loop-object l = l.database.items ≡ map (λ d. d.start.value) (take l.object-index l.object-items)

abbrev pub invariant-loop-relation : goal.invariant-loop-relation
invariant-loop-relation l =
    l.database.items ≡ map (λ d. d.start.value) l.w.objects.items ++ relation_starts (map (λ q. declared_relation (plain_relation q)) (take l.relation-index l.relation-items))
