-- The gain of one more object.
use Rattle.std.proofs.Common.{arith}
use Rattle.homeo_follow.specs.Key.{definitions}
use Rattle.homeo_meaning.specs.LowMeaning.{BaseAt}
use Rattle.homeo_form.specs.Standing.{forms_of}
use Rattle.homeo_linear.proofs.Gaining.{gains_end, gains_place}
use Rattle.homeo_linear.proofs.course.gained.Goals as goal

pub loop-place-init : goal.loop-place-init
loop-place-init c = record {
  within = omega arith;
  needed = λ b. gains_end b (forms_of c.args.standing.now) c.args.written.now c.new-needed.result.items c.new-needed.ensures.items;
}

pub push_gain-requires : goal.push_gain-requires
unfolding definitions
push_gain-requires c = c.requires (BaseAt _)

pub loop-place-preserved : goal.loop-place-preserved
loop-place-preserved c = record {
  within = omega (arith, c.loop-place.invariant.within);
  needed = λ b. gains_place b (forms_of c.args.standing.now) c.args.written.now c.loop-place.needed.items _ c.loop-place.place
      _ c.loop-place-test.true c.loop-place.invariant.within (c.in_ok-push_gain.ensures (b _)) (c.loop-place.invariant.needed b);
}
