use Rattle.std.proofs.Common.{pos}
use Rattle.homeo_build.proofs.SiteShares.{weight_here, weight_past}
use Rattle.homeo_build.proofs.shares.weight_of.Goals as goal

pub returns-then-place-weights : goal.returns-then-place-weights
returns-then-place-weights c =
    weight_here c.args.weights.now c.args.site (record { value = pos 0; offset = 0 }) c.requires.natural c.requires.small c.if-place-weights.true

pub returns-else-place-weights : goal.returns-else-place-weights
returns-else-place-weights c = weight_past c.args.weights.now c.args.site c.if-place-weights.false
