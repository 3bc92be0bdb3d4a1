use Rattle.std.proofs.Common.{rules}
use Rattle.homeo_ground.proofs.Calls.{sited-is}
use Rattle.homeo_ground.proofs.sited.SitedCall.of.Goals as goal

pub returns : goal.returns
returns c = sited-is c.args.client.now c.args.call.now c.as_slice.result.now _ c.as_slice.ensures (search rules)
