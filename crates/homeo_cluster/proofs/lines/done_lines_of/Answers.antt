use Rattle.std.proofs.Common.{◌≡◌, ℕ, ◌+◌, ◌*◌, ◌<◌, ◌≤◌, [], ◌∷◌, ◌++◌, arith}
use Rattle.homeo_syntax.specs.SourceView.{plain_workload}
use Rattle.homeo_plan.specs.Planned.{sites_of}
use Rattle.homeo_site.proofs.Limits.{few_sites}
use Rattle.homeo_assembly.proofs.ClientsAtSites.{client_below}
use Rattle.homeo_cluster.specs.Places.{done_line}
use Rattle.homeo_cluster.proofs.LinesCounted.{done_is, one_line_more, longer_by_one}
use Rattle.homeo_cluster.proofs.lines.done_lines_of.Goals as goal

pub overflow_add-line-in-loop-client : goal.overflow_add-line-in-loop-client
overflow_add-line-in-loop-client c =
    let w = plain_workload c.args.w.now in
    let accepted = c.client_count-clients.ensures.accepted in
    let sites : sites_of w ≤ 16 = few_sites w accepted in
    let home : c.site_of.result < sites_of w = client_below w c.site_of.result c.loop-client.client accepted c.site_of.ensures in
    let clients = c.client_count-clients.ensures.few in
    let place = c.place_of.ensures.few in
    omega (arith, sites, home, clients, place)

pub loop-client-preserved : goal.loop-client-preserved
loop-client-preserved c =
    let w = plain_workload c.args.w.now in
    let lines = c.loop-client.lines.items in
    let line : ℕ = 2 * c.client_count-clients.result + 2 * c.place_of.result + c.site_of.result in
    let more : c.push.new.self.items ≡ lines ++ line ∷ [] = c.in_ok-push.ensures.items in
    let count = c.loop-client.invariant.count in
    let done = done_is w c.site_of.result c.loop-client.client c.site_of.ensures in
    let clients = c.client_count-clients.ensures.count in
    let place = c.place_of.ensures.place in
    let is : line ≡ done_line w c.loop-client.client = omega (arith, done, clients, place) in
    record {
      count = longer_by_one lines c.push.new.self.items line c.loop-client.client more count;
      lines = one_line_more (done_line w) lines c.push.new.self.items line c.loop-client.client more count c.loop-client.invariant.lines is;
    }
