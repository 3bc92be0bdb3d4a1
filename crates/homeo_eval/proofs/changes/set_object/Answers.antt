use Rattle.std.proofs.Common.{w64, length, ◌∙◌}
use Rattle.std.proofs.lemmas.Int.{to_z-of_z}
use Rattle.homeo_meaning.specs.Key.{definitions}
use Rattle.homeo_context.specs.Contexts.{plain_context}
use Rattle.homeo_eval.specs.inner.States.{state_of}
use Rattle.homeo_eval.proofs.FieldWrites.{object_zero, object_written}
use Rattle.homeo_eval.proofs.changes.set_object.Goals as goal

pub write-requires : goal.write-requires
unfolding definitions
write-requires c =
    object_zero (plain_context c.args.context.now) c.args.name (length c.args.state.now.database.items) c.object.result c.object.ensures c.requires.places

pub returns-clause-set : goal.returns-clause-set
returns-clause-set c =
    c.write.ensures.set ∙ object_written (plain_context c.args.context.now) c.args.name c.object.result (state_of c.args.state.now) c.args.v _ c.object.ensures (to_z-of_z w64 c.args.v c.ranges.v)
