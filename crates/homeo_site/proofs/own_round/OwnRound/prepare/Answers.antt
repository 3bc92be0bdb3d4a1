-- What is kept behind the call is right, as all that was kept before.
use Rattle.homeo_site.specs.SiteView.{StartValue}
use Rattle.homeo_site.proofs.own_round.OwnRound.prepare.Goals as goal

pub invariant_of-self-then-branch-2 : goal.invariant_of-self-then-branch-2
invariant_of-self-then-branch-2 c =
    let in' = c.self.inside in
    let v : StartValue =
    record { work = in'.compiled.value; number = in'.site; round = in'.round; base = in'.plan.value.base.items } in
    record {
      round = c.self.invariant.round;
      effects = c.keep.ensures v (c.is_due.ensures v c.self.invariant.effects) c.in_ok-effect.ensures;
    }
