-- A write to the object of the field.
use Rattle.std.proofs.Common.{ap}
use Rattle.std.proofs.lemmas.Result.{IfOk-weaker}
use Rattle.homeo_syntax.specs.SourceView.{plain_expr}
use Rattle.homeo_syntax.specs.LowView.{plain_lcommand}
use Rattle.homeo_meaning.specs.Context.{Spot}
use Rattle.homeo_meaning.specs.LForm.{lift}
use Rattle.homeo_desugar.specs.inner.Key.{definitions}
use Rattle.homeo_context.specs.Slots.{plain_slot, plain_spot}
use Rattle.homeo_context.specs.Contexts.{plain_context}
use Rattle.homeo_desugar.proofs.Forms.{field_formed}
use Rattle.homeo_desugar.proofs.Places.{field_within}
use Rattle.homeo_desugar.proofs.forming.write_field.Goals as goal

pub cell-requires-clause-within : goal.cell-requires-clause-within
cell-requires-clause-within c = field_within c.args.slot.fields.now c.args.name c.find_field-field.result.place (ap (λ (s : Spot). s.place) c.find_field-field.ensures)

pub returns : goal.returns
unfolding definitions
returns c =
    IfOk-weaker c.write_to.result _ _
    (λ r h. field_formed (plain_slot c.args.slot) c.args.name c.cell.result _ (plain_spot c.find_field-field.result) (lift (plain_context c.args.context.now) (plain_expr c.args.value.now) c.args.next.now) (plain_lcommand r) c.find_field-field.ensures c.cell.ensures h)
    c.write_to.ensures
