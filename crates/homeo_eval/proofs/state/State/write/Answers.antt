use Rattle.std.proofs.Common.{w64, sym, ap, ◌∙◌}
use Rattle.std.proofs.lemmas.Int.{to_z-of_z}
use Rattle.homeo_meaning.specs.Key.{definitions}
use Rattle.homeo_meaning.specs.Meaning.{is_within}
use Rattle.homeo_context.specs.Slots.{plain_spot}
use Rattle.homeo_eval.proofs.States.{written, refused}
use Rattle.homeo_eval.proofs.state.State.write.Goals as goal

pub set-requires : goal.set-requires
unfolding definitions
set-requires c h =
    let v = to_z-of_z w64 c.args.v c.ranges.v in
    v ∙ c.requires h c.args.v (ap (is_within (plain_spot c.args.object)) (sym v) ∙ sym c.admits.ensures ∙ c.if-admits.true)

pub returns-then-admits-clause-set : goal.returns-then-admits-clause-set
unfolding definitions
returns-then-admits-clause-set c =
    written _ _ (plain_spot c.args.object) _ c.args.v _ _ (to_z-of_z w64 c.args.v c.ranges.v) c.admits.ensures c.if-admits.true c.set.ensures.set

pub returns-else-admits-clause-set : goal.returns-else-admits-clause-set
unfolding definitions
returns-else-admits-clause-set c =
    refused _ (plain_spot c.args.object) _ c.args.v _ _ (to_z-of_z w64 c.args.v c.ranges.v) c.admits.ensures c.if-admits.false
