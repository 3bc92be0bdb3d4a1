-- Counting the objects that are declared: past the limit the count stands still.
use Rattle.std.specs.Prelude.{ℕ, ◌+◌, ◌&&◌, nat_le, nat_lt, List, [], ◌∷◌, Option, if◌then◌else◌}
use Rattle.homeo_syntax.specs.SourceView.{plain_relation}
use Rattle.homeo_syntax.specs.declared.workload.RelationDecl.{RelationDecl}
use Rattle.homeo_meaning.specs.NameRules.{when, fault}
use Rattle.homeo_meaning.specs.NumberRules.{Making, relation_making}
use Rattle.homeo_rules.specs.inner.Deciding.{keep_all}
use Rattle.homeo_meaning.specs.declared.rules.Fault.{Fault}
use Rattle.homeo_meaning.specs.declared.rules.Phase.TheVariants.{Limits}
use Rattle.homeo_rules.specs.inner.Key.{definitions}

pub record Counted : Type 0 where
  pub count : ℕ
  pub best : Option Fault

abbrev pub counted : Counted → Making → Counted
counted k m = record { count = if nat_le k.count 1024 then k.count + m.objects else k.count; best = keep_all k.best (when (nat_le k.count 1024 && nat_lt 1024 (k.count + m.objects)) (fault Limits m.name)) }

abbrev pub count_all : {A : Type 0} → (A → Making) → Counted → List A → Counted
count_all making k [] = k
count_all making k (x ∷ xs) = count_all making (counted k (making x)) xs

abbrev pub making_of : RelationDecl → Making
unfolding definitions
making_of q = relation_making (plain_relation q)
