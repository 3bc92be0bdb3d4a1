use Rattle.std.proofs.Common.{arith}
use Rattle.homeo_syntax.specs.SourceView.{plain_workload}
use Rattle.homeo_cluster.proofs.LinesCounted.{place_is}
use Rattle.homeo_cluster.proofs.lines.place_of.Goals as goal

pub returns-clause-place : goal.returns-clause-place
returns-clause-place c =
    let is = place_is (plain_workload c.args.w.now) c.site_of-home.result c.args.client c.site_of-home.ensures in
    let below = c.count_below.ensures.count in
    let before = c.count_before.ensures.count in
    omega (arith, is, below, before)
