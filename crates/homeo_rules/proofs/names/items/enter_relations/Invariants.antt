use Rattle.std.proofs.Common.{◌≡◌, drop}
use Rattle.homeo_meaning.specs.declared.rules.Item.TheVariants as I
use Rattle.homeo_rules.specs.inner.Items.{along_names}
use Rattle.homeo_rules.proofs.names.items.enter_relations.Given as goal

abbrev pub invariant-loop-i : goal.invariant-loop-i
invariant-loop-i l = along_names (λ d. d.name) I.Relation l.i l.t (drop l.i l.ds) ≡ along_names (λ d. d.name) I.Relation 0 l.initial.t l.ds
