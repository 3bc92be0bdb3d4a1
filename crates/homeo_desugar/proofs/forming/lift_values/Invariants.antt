-- The values that are lifted so far and those that are left are all, and each is of one of the fields.
use Rattle.std.proofs.Common.{[], ◌++◌, map, drop}
use Rattle.homeo_syntax.specs.SourceView.{plain_field}
use Rattle.homeo_meaning.specs.Schema.{declared_range}
use Rattle.homeo_meaning.specs.LForm.{lift_values}
use Rattle.homeo_desugar.specs.inner.Made.{plain_target, AreWithin}
use Rattle.homeo_context.specs.Contexts.{plain_context}
use Rattle.homeo_desugar.proofs.Makings.{Leaves}
use Rattle.homeo_desugar.proofs.forming.lift_values.Given as goal

abbrev pub invariant-loop-value : goal.invariant-loop-value
invariant-loop-value l = record {
  lifted :
      Leaves l.initial.out l.out [] (map plain_target l.targets.items) ◌++◌ (lift_values (plain_context l.context) (map declared_range l.fields) (map plain_field (drop l.value-index l.values)) l.out.next) (lift_values (plain_context l.context) (map declared_range l.fields) (map plain_field l.values) l.initial.out.next);
  within : AreWithin l.fields l.targets.items;
}
