-- What the forms so far bring; the follower stays at the base.
use Rattle.std.proofs.Common.{◌≡◌, map, take}
use Rattle.homeo_meaning.specs.Serial.{values_of}
use Rattle.homeo_build.proofs.Following.{shared_part, lent_brought}
use Rattle.homeo_build.proofs.parts.parts_at.Given as goal

abbrev pub invariant-loop-form : goal.invariant-loop-form
invariant-loop-form l = record {
  follower : l.follower.base.now ≡ l.base.items;
  parts : map shared_part l.parts.items ≡ map (lent_brought (values_of l.base.items)) (take l.form-index l.form-items);
}
