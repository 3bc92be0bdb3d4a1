use Rattle.std.proofs.Common.{rules, ◌≡◌, ◌≤◌, ◌<◌, ◌+◌, ◌*◌, length, sym, ap, ◌∙◌, arith}
use Rattle.homeo_meaning.proofs.FewClients.{clients_few}
use Rattle.homeo_cluster.specs.Places.{at_line, bases_line}
use Rattle.homeo_cluster.proofs.LinesInOrder.{first_of_all, first_next, at_before_bases, bases_few}
use Rattle.homeo_cluster.proofs.frame.Frame.first_sites.Goals as goal

pub overflow_mul-first : goal.overflow_mul-first
overflow_mul-first g c =
    let w = g.N.ClusterNaming.workload in
    let few : length w.clients ≤ 64 = clients_few w c.accepted.ensures in
    let clients = c.clients-first.ensures in
    omega (arith, few, clients)

pub loop-site-init : goal.loop-site-init
loop-site-init g c =
    let w = g.N.ClusterNaming.workload in
    let clients : c.clients-first.result ≡ length w.clients = c.clients-first.ensures in
    record {
      rest = c.requires.rest;
      first = ap (λ n. 2 * n) clients ∙ sym (first_of_all w);
      count = search rules;
    }

pub overflow_add-first : goal.overflow_add-first
overflow_add-first g c =
    let w = g.N.ClusterNaming.workload in
    let sites = c.sites-site-end.ensures in
    let test = c.loop-site-test.true in
    let before : at_line w c.loop-site.site < bases_line w = at_before_bases w c.loop-site.site (omega (arith, sites, test)) in
    let few : bases_line w ≤ 272 = bases_few w c.accepted.ensures in
    let at = c.at-first.ensures in
    omega (arith, before, few, at)

pub loop-site-preserved : goal.loop-site-preserved
loop-site-preserved g c =
    let w = g.N.ClusterNaming.workload in
    let at : c.at-first.result ≡ at_line w c.loop-site.site = c.at-first.ensures in
    record {
      rest = search rules;
      first = ap (λ n. n + 1) at ∙ sym (first_next w c.loop-site.site);
      count = search rules;
    }
