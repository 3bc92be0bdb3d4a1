-- The rules of the declarations of relations, one after another.
use Rattle.std.proofs.Common.{◌≡◌, ◌||◌, pos, List, [], map, Option, refl, sym, ap, ◌∙◌}
use Rattle.std.specs.Prelude.{int_lt}
use Rattle.std.specs.List.{flat_map}
use Rattle.homeo_syntax.specs.Key.{definitions as syntax_definitions}
use Rattle.homeo_syntax.specs.declared.workload.RangeDecl.{RangeDecl}
use Rattle.homeo_syntax.specs.declared.workload.RelationDecl.{RelationDecl}
use Rattle.homeo_meaning.specs.Key.{definitions as meaning_definitions}
use Rattle.homeo_meaning.specs.ListRules.{when, number_fault, each, duplicate}
use Rattle.homeo_meaning.specs.NumberRules.{range_bounds}
use Rattle.homeo_rules.specs.inner.Deciding.{keep_all}
use Rattle.homeo_meaning.specs.declared.rules.Fault.{Fault}
use Rattle.homeo_meaning.specs.declared.rules.Phase.TheVariants.{Limits}
use Rattle.homeo_rules.specs.inner.Key.{definitions}
use Rattle.homeo_rules.specs.inner.Listwise.{along_all, along_each}
use Rattle.homeo_rules.specs.inner.Relations.{declared_twice, relation_faults_of, slot_faults_of}
use Rattle.homeo_rules.proofs.Steps.{keep-none, keep-one, keep_all-append}
use Rattle.homeo_rules.proofs.Listing.{all-along}
use Rattle.homeo_rules.proofs.Filling.{twice-along}

pub relation-is : (q : RelationDecl) (best : Option Fault) → keep_all best (relation_faults_of q) ≡ along_each declared_twice [] (along_all range_bounds best q.fields.items) q.fields.items
unfolding definitions meaning_definitions syntax_definitions
relation-is q best =
    let ds : List RangeDecl = q.fields.items in
    keep_all-append best (flat_map range_bounds ds) (each duplicate (map (λ (d : RangeDecl). d.name) ds))
    ∙ sym (twice-along (λ (d : RangeDecl). d.name) [] (keep_all best (flat_map range_bounds ds)) ds)
    ∙ ap (λ o. along_each declared_twice [] o ds) (all-along range_bounds best ds)

pub slots-are : (q : RelationDecl) → slot_faults_of q ≡ when (int_lt q.slots.value (pos 1) || int_lt (pos 64) q.slots.value) (number_fault Limits q.slots)
unfolding definitions meaning_definitions syntax_definitions
slots-are q = refl

pub ruleset declaring = (relation-is)

pub ruleset slots = (slots-are, keep-none, keep-one)
