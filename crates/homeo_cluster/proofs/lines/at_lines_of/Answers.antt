use Rattle.std.proofs.Common.{◌≡◌, ℕ, ◌+◌, ◌*◌, [], ◌∷◌, ◌++◌, arith}
use Rattle.homeo_syntax.specs.SourceView.{plain_workload}
use Rattle.homeo_cluster.specs.Places.{at_line}
use Rattle.homeo_cluster.proofs.LinesCounted.{at_is, one_line_more, longer_by_one}
use Rattle.homeo_cluster.proofs.lines.at_lines_of.Goals as goal

pub loop-site-preserved : goal.loop-site-preserved
loop-site-preserved c =
    let w = plain_workload c.args.w.now in
    let lines = c.loop-site.lines.items in
    let line : ℕ = 2 * c.client_count-clients.result + 2 * c.count_below.result + c.loop-site.site in
    let more : c.push.new.self.items ≡ lines ++ line ∷ [] = c.in_ok-push.ensures.items in
    let count = c.loop-site.invariant.count in
    let at = at_is w c.loop-site.site (c.loop-site.site + 1) (omega arith) in
    let clients = c.client_count-clients.ensures.count in
    let below = c.count_below.ensures.count in
    let is : line ≡ at_line w c.loop-site.site = omega (arith, at, clients, below) in
    record {
      count = longer_by_one lines c.push.new.self.items line c.loop-site.site more count;
      lines = one_line_more (at_line w) lines c.push.new.self.items line c.loop-site.site more count c.loop-site.invariant.lines is;
    }
