-- With those of the sites that are left they are all calls.
use Rattle.std.proofs.Common.{◌≡◌, ◌++◌, map, drop}
use Rattle.homeo_nodes.specs.Nodes.{calls_from}
use Rattle.homeo_carry.specs.CarryView.{plain_said}
use Rattle.homeo_carry.specs.inner.Carrying.{plain_called}
use Rattle.homeo_carry.proofs.calls.push_calls.Given as goal

abbrev pub invariant-loop-site : goal.invariant-loop-site
invariant-loop-site l =
    map plain_called l.calls.items ++ calls_from l.u l.site (drop l.site (map plain_said l.states)) ≡ map plain_called l.fn.calls.items ++ calls_from l.u l.first (drop l.first (map plain_said l.states))
