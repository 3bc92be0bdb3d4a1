use Rattle.std.proofs.Common.{w64, length, ap, ◌∙◌}
use Rattle.std.proofs.lemmas.Int.{to_z-of_z}
use Rattle.homeo_meaning.specs.Key.{definitions}
use Rattle.homeo_meaning.specs.Context.{Slot, spot}
use Rattle.homeo_context.specs.Contexts.{plain_context}
use Rattle.homeo_eval.specs.inner.States.{state_of}
use Rattle.homeo_eval.proofs.FieldWrites.{own_zero, own_written}
use Rattle.homeo_eval.proofs.changes.set_row.Goals as goal

pub write_field-requires : goal.write_field-requires
unfolding definitions
write_field-requires c =
    let x = plain_context c.args.context.now in
    let field = c.find_field.ensures ∙ ap (λ (r : Slot). spot r.fields c.args.field) c.row-slot.ensures in
    own_zero x.schema c.row-slot.result c.find_field.result c.args.field (length c.args.state.now.database.items) (x.rows c.args.row) c.row-slot.ensures field (c.requires.rows c.args.row c.args.field) c.requires.places

pub returns-clause-set : goal.returns-clause-set
unfolding definitions
returns-clause-set c =
    let x = plain_context c.args.context.now in
    let field = c.find_field.ensures ∙ ap (λ (r : Slot). spot r.fields c.args.field) c.row-slot.ensures in
    c.write_field.ensures.set ∙ own_written c.row-slot.result c.find_field.result c.args.field (x.rows c.args.row) (state_of c.args.state.now) c.args.v _ c.row-slot.ensures field (to_z-of_z w64 c.args.v c.ranges.v)
