use Rattle.std.proofs.Common.{pos, map, refl, sym, ap, ◌∙◌, ◌++◌, ◌∷◌}
use Rattle.std.proofs.lemmas.List.{append-nil}
use Rattle.homeo_meaning.specs.Key.{definitions}
use Rattle.homeo_meaning.specs.Schema.{declared_range}
use Rattle.homeo_meaning.specs.Initial.{nearest_zero, slot_starts}
use Rattle.homeo_eval.proofs.StartLists.{slot_next}
use Rattle.homeo_eval.proofs.start.start_relation.Goals as goal

pub loop-init : goal.loop-init
unfolding definitions
loop-init c = sym (append-nil c.args.database.now.items)

pub loop-preserved : goal.loop-preserved
unfolding definitions
loop-preserved c =
    let ds = map declared_range c.args.relation.now.fields.items in
    slot_next (pos 0) nearest_zero slot_starts (λ ds. refl) (λ n ds. refl) c.args.database.now.items c.loop.database.items c.start_slot.new.database.items c.loop.counter ds c.loop.invariant
    (c.in_ok-start_slot.ensures ∙ ap (λ l. c.loop.database.items ++ pos 0 ∷ map nearest_zero (map declared_range l)) c.as_slice.ensures)
