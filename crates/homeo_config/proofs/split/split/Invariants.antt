-- The loop of `split`.
use Rattle.std.proofs.Common.{◌≡◌, ◌++◌, ◌+◌, ◌-◌, ◌*◌, ◌/◌, ◌≤◌, sum, take, drop, length, vec_len}
use Rattle.std.specs.Prelude.{vec_capacity}
use Rattle.homeo_plan.specs.Config.{bounds_from}
use Rattle.homeo_config.proofs.split.split.Given as goal

abbrev pub invariant-loop-share : goal.invariant-loop-share
invariant-loop-share l = record {
  below : l.below ≡ sum (take l.share-index l.shares);
  given : l.given ≡ l.amount * l.below / l.all;
  bounds : l.bounds.items ++ bounds_from l.all l.amount l.below (drop l.share-index l.shares) ≡ bounds_from l.all l.amount 0 l.shares;
  room : vec_len l.bounds + (length l.shares - l.share-index) ≤ vec_capacity l.bounds;
}
