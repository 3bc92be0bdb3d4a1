-- The calls so far are appended.
use Rattle.std.proofs.Common.{◌≡◌, ◌++◌, map, take}
use Rattle.homeo_nodes.specs.Nodes.{called}
use Rattle.homeo_carry.specs.inner.Carrying.{plain_called}
use Rattle.homeo_carry.proofs.calls.push_site.Given as goal

abbrev pub invariant-loop-call : goal.invariant-loop-call
invariant-loop-call l =
    map plain_called l.calls.items ≡ map plain_called l.fn.calls.items ++ map (called l.site) (take l.call-index l.said)
