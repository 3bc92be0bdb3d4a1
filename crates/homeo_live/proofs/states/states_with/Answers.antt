use Rattle.std.proofs.Common.{map, ◌++◌, ◌∷◌, [], take, Some, sym, ap, ◌∙◌, slice_set}
use Rattle.std.proofs.lemmas.List.{map-append}
use Rattle.homeo_lemmas.proofs.Lists.{take_set_more}
use Rattle.homeo_carry.specs.CarryView.{plain_said}
use Rattle.homeo_live.specs.LiveView.{plain_state}
use Rattle.homeo_live.proofs.states.states_with.Goals as goal

pub loop-i-preserved : goal.loop-i-preserved
loop-i-preserved c =
    ap (map plain_state) c.in_ok-push.ensures.items
    ∙ map-append plain_state c.loop-i.copies.items (c.in_ok-copy.copy ∷ [])
    ∙ ap (λ xs. xs ++ plain_state c.in_ok-copy.copy ∷ []) c.loop-i.invariant
    ∙ ap (λ x. take c.loop-i.i (slice_set (map plain_state c.args.states.now) c.args.site (Some (plain_said c.args.said.now))) ++ x ∷ []) c.in_ok-copy.ensures
    ∙ sym (take_set_more plain_state c.args.states.now c.args.site c.loop-i.i (Some (plain_said c.args.said.now)) c.index-states-i.result c.loop-i-test.true c.index-states-i.is)
