-- What the forms so far bring, and that it is rebased, where it is known to be. The follower stays at the base.
use Rattle.std.proofs.Common.{◌≡◌, IsTrue, map, take}
use Rattle.homeo_meaning.specs.Serial.{values_of}
use Rattle.homeo_build.proofs.Following.{shared_part, shared_moved, lent_brought}
use Rattle.homeo_build.proofs.parts.parts_after.Given as goal

abbrev pub invariant-loop-i : goal.invariant-loop-i
invariant-loop-i l =
    record {
      follower : l.follower.base.now ≡ l.base.items;
      parts : map shared_part l.parts.items ≡ map (lent_brought (values_of l.base.items)) (take l.i l.form-items);
      rebased : IsTrue l.are_rebased → map shared_part l.parts.items ≡ map (shared_moved l.last.base.items l.base.items) (take l.i l.kept);
    }
