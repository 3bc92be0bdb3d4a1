use Rattle.std.proofs.Common.{◌≡◌, drop, map}
use Rattle.homeo_ground.specs.Sited.{sited}
use Rattle.homeo_rules.specs.inner.Order.{in_order}
use Rattle.homeo_rules.proofs.rules.sizes.are_in_order.Given as goal

abbrev pub invariant-loop-call : goal.invariant-loop-call
invariant-loop-call l = in_order l.last (map sited (drop l.call-index l.calls)) ≡ in_order 0 (map sited l.calls)
