-- The rules of relations, of the declarations and inserts that plain ones stand for.
use Rattle.std.specs.Prelude.{◌==◌, List, Option}
use Rattle.std.specs.List.{list_any}
use Rattle.homeo_syntax.specs.SourceView.{plain_relation}
use Rattle.homeo_syntax.specs.declared.workload.RangeDecl.{RangeDecl}
use Rattle.homeo_syntax.specs.declared.workload.RelationDecl.{RelationDecl}
use Rattle.homeo_syntax.specs.declared.command.FieldValue.{FieldValue}
use Rattle.homeo_meaning.specs.Bindings.{Scope}
use Rattle.homeo_meaning.specs.NameRules.{when, fault, field_of}
use Rattle.homeo_meaning.specs.NumberRules.{slot_faults}
use Rattle.homeo_meaning.specs.Faults.{of_relation}
use Rattle.homeo_meaning.specs.declared.rules.Fault.{Fault}
use Rattle.homeo_meaning.specs.declared.rules.Item.{Item}
use Rattle.homeo_meaning.specs.declared.rules.Phase.TheVariants.{Duplicate}
use Rattle.homeo_rules.specs.inner.Key.{definitions}

-- a field that an earlier one has the name of
abbrev pub declared_twice : List RangeDecl → RangeDecl → List Fault
declared_twice before d = when (list_any (λ b. b.name.name == d.name.name) before) (fault Duplicate d.name)

-- a field that an insert named before
abbrev pub named_twice : List FieldValue → FieldValue → List Fault
named_twice before f = when (list_any (λ b. b.field.name == f.field.name) before) (fault Duplicate f.field)

abbrev pub value_field : Scope → Option Item → FieldValue → List Fault
value_field s g f = field_of s g f.field

abbrev pub relation_faults_of : RelationDecl → List Fault
unfolding definitions
relation_faults_of q = of_relation (plain_relation q)

abbrev pub slot_faults_of : RelationDecl → List Fault
unfolding definitions
slot_faults_of q = slot_faults (plain_relation q)
