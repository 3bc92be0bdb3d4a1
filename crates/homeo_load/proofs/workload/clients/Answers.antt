use Rattle.std.proofs.Common.{◌-◌}
use Rattle.homeo_syntax.specs.SourceView.{plain_client}
use Rattle.homeo_load.specs.Additions.{additions}
use Rattle.homeo_load.specs.Load.{load_client}
use Rattle.homeo_load.proofs.Making.{place_more}
use Rattle.homeo_load.proofs.workload.clients.Goals as goal

pub loop-i-preserved : goal.loop-i-preserved
loop-i-preserved c =
    place_more plain_client (load_client (additions c.args.start c.args.calls)) c.loop-i.list.items c.in_ok-client.field-0 c.push.new.self (c.loop-i.list.spare - 1) c.loop-i.i c.loop-i.invariant c.in_ok-client.ensures c.in_ok-push.ensures.ok
