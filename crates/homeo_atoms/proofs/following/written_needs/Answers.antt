-- What one more delta needs.
use Rattle.std.proofs.Common.{arith}
use Rattle.homeo_form.specs.Standing.{forms_of}
use Rattle.homeo_atoms.proofs.Needing.{needed_end, needed_place}
use Rattle.homeo_atoms.proofs.following.written_needs.Goals as goal

pub loop-place-init : goal.loop-place-init
loop-place-init c = record {
  within = omega arith;
  needed = needed_end c.args.site (forms_of c.args.standing.now) c.args.written.now c.new-needed.result.items c.new-needed.ensures.items;
}

pub loop-place-preserved : goal.loop-place-preserved
loop-place-preserved c = record {
  within = omega (arith, c.loop-place.invariant.within);
  needed = needed_place c.args.site (forms_of c.args.standing.now) c.args.written.now c.loop-place.needed.items c.extend_from_slice.new.self.items _ _ c.loop-place.place
      _ _ _ c.loop-place-test.true c.loop-place.invariant.within c.place_of_delta.ensures c.in_ok-form.ensures c.in_ok-deltas.ensures c.as_slice.ensures.value
      c.in_ok-extend_from_slice.ensures.items c.loop-place.invariant.needed;
}
