-- The object is reached, and set.
use Rattle.std.proofs.Common.{arith, refl}
use Rattle.homeo_build.proofs.FrozenSteps.{set_next}
use Rattle.homeo_build.proofs.frozen.FrozenObjects.set.Goals as goal

pub returns : goal.returns
returns c =
    let there = c.in_ok-reach.ensures.there in
    set_next c.args.self.now.objects.items c.reach.new.self.objects.items _ c.args.object c.args.frozen (omega (arith, there)) c.in_ok-reach.ensures.same refl
