-- The calls of the clients so far, which are few.
use Rattle.std.proofs.Common.{◌≡◌, ◌≤◌, length, take}
use Rattle.homeo_wire.proofs.Driving.{calls_of}
use Rattle.homeo_wire.proofs.driver.count_calls.Given as goal

abbrev pub invariant-loop-client : goal.invariant-loop-client
invariant-loop-client l = record {
  counted : l.count ≡ length (calls_of (take l.client-index l.client-items));
  few : l.count ≤ 200;
}
