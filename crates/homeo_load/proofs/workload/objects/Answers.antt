use Rattle.std.proofs.Common.{◌-◌}
use Rattle.homeo_load.specs.Load.{load_object}
use Rattle.homeo_load.proofs.Making.{item_more}
use Rattle.homeo_load.proofs.workload.objects.Goals as goal

pub loop-i-preserved : goal.loop-i-preserved
loop-i-preserved c =
    item_more load_object c.loop-i.list.items c.object.result c.push.new.self (c.loop-i.list.spare - 1) c.loop-i.i c.loop-i.invariant c.object.ensures c.in_ok-push.ensures.ok
