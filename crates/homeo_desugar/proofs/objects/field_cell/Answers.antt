-- The field of the name is one of the slot's, or the place behind them.
use Rattle.std.proofs.Common.{ap, ◌∙◌}
use Rattle.homeo_meaning.specs.Key.{definitions}
use Rattle.homeo_meaning.specs.Context.{Spot, cell}
use Rattle.homeo_context.specs.Slots.{plain_slot}
use Rattle.homeo_desugar.proofs.Places.{field_within}
use Rattle.homeo_desugar.proofs.objects.field_cell.Goals as goal

pub cell-requires-clause-within : goal.cell-requires-clause-within
cell-requires-clause-within c = field_within c.args.slot.fields.now c.args.name c.find_field.result.place (ap (λ (s : Spot). s.place) c.find_field.ensures)

pub returns : goal.returns
unfolding definitions
returns c = c.cell.ensures ∙ ap (cell (plain_slot c.args.slot)) c.find_field.ensures
