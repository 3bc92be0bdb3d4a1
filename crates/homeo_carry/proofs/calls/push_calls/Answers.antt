use Rattle.std.proofs.Common.{map, ap, ◌∙◌, ◌++◌, drop}
use Rattle.homeo_nodes.specs.Nodes.{called, calls_from}
use Rattle.homeo_carry.specs.CarryView.{plain_said}
use Rattle.homeo_carry.specs.inner.Carrying.{plain_called}
use Rattle.homeo_carry.proofs.CarriedCalls.{site_next}
use Rattle.homeo_carry.proofs.calls.push_calls.Goals as goal

pub loop-site-preserved : goal.loop-site-preserved
loop-site-preserved c =
    site_next c.args.u c.args.states.now c.loop-site.site c.index-states-site.result (map plain_called c.loop-site.calls.items) (map plain_called c.push_site.new.calls.items) (map plain_called c.args.calls.now.items ++ calls_from c.args.u c.args.first (drop c.args.first (map plain_said c.args.states.now))) c.loop-site-test.true c.index-states-site.is (c.in_ok-push_site.ensures ∙ ap (λ said. map plain_called c.loop-site.calls.items ++ map (called c.loop-site.site) said) c.calls_at.ensures) c.loop-site.invariant
