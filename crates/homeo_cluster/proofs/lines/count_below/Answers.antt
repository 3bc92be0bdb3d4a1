use Rattle.std.proofs.Common.{◌≡◌, length, sym, ◌∙◌, arith}
use Rattle.homeo_syntax.specs.SourceView.{plain_workload}
use Rattle.homeo_cluster.proofs.LinesCounted.{below_none, below_more, below_same, below_whole}
use Rattle.homeo_cluster.proofs.lines.count_below.Goals as goal
use Rattle.homeo_cluster.proofs.lines.count_below.Goals.{then-site_of-site, else-site_of-site}

pub loop-client-init : goal.loop-client-init
loop-client-init c = record { count = sym (below_none (plain_workload c.args.w.now) c.args.site); few = omega arith }

pub loop-client-preserved : goal.loop-client-preserved
loop-client-preserved c =
    let w = plain_workload c.args.w.now in
    let few = c.loop-client.invariant.few in
    elim c.if-site_of-site.branch [
      | then-site_of-site b ↦ record {
        count = below_more w c.site_of.result c.args.site c.loop-client.client c.loop-client.count c.if-site_of-site.count c.site_of.ensures b.if-site_of-site.true c.loop-client.invariant.count b.count-is;
        few = let is = b.count-is in omega (arith, few, is);
      }
      | else-site_of-site b ↦ record {
        count = b.count-is ∙ below_same w c.site_of.result c.args.site c.loop-client.client c.loop-client.count c.site_of.ensures b.if-site_of-site.false c.loop-client.invariant.count;
        few = let is = b.count-is in omega (arith, few, is);
      }
    ]

pub returns-clause-count : goal.returns-clause-count
returns-clause-count c =
    let w = plain_workload c.args.w.now in
    let all : c.loop-client.client ≡ length w.clients = omega (arith, c.client_count-client-end.ensures.count) in
    below_whole w c.args.site c.loop-client.count c.loop-client.client all c.loop-client.invariant.count
