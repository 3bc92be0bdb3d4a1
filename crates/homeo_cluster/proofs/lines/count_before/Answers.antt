use Rattle.std.proofs.Common.{sym, ◌∙◌, arith}
use Rattle.homeo_syntax.specs.SourceView.{plain_workload}
use Rattle.homeo_cluster.proofs.LinesCounted.{before_none, before_more, before_same}
use Rattle.homeo_cluster.proofs.lines.count_before.Goals as goal
use Rattle.homeo_cluster.proofs.lines.count_before.Goals.{then-site_of-site, else-site_of-site}

pub loop-other-init : goal.loop-other-init
loop-other-init c = record { count = sym (before_none (plain_workload c.args.w.now) c.args.site); few = omega arith }

pub loop-other-preserved : goal.loop-other-preserved
loop-other-preserved c =
    let w = plain_workload c.args.w.now in
    let few = c.loop-other.invariant.few in
    elim c.if-site_of-site.branch [
      | then-site_of-site b ↦ record {
        count = before_more w c.site_of.result c.args.site c.loop-other.other c.loop-other.count c.if-site_of-site.count c.site_of.ensures b.if-site_of-site.true c.loop-other.invariant.count b.count-is;
        few = let is = b.count-is in omega (arith, few, is);
      }
      | else-site_of-site b ↦ record {
        count = b.count-is ∙ before_same w c.site_of.result c.args.site c.loop-other.other c.loop-other.count c.site_of.ensures b.if-site_of-site.false c.loop-other.invariant.count;
        few = let is = b.count-is in omega (arith, few, is);
      }
    ]
