use Rattle.std.proofs.Common.{arith, ◌≡◌, replicate, None, length, ap, sym, subst, ◌∙◌}
use Rattle.homeo_syntax.specs.SourceView.{plain_workload}
use Rattle.homeo_syntax.specs.declared.workload.Workload.{Workload}
use Rattle.homeo_site.specs.Key.{definitions as site_definitions}
use Rattle.homeo_nodes.specs.Key.{definitions}
use Rattle.homeo_nodes.specs.Nodes.{first_node}
use Rattle.homeo_nodes.specs.Small.{small}
use Rattle.homeo_desk.specs.DeskView.{calls_of}
use Rattle.homeo_desk.specs.inner.Keeping.{AreLast}
use Rattle.homeo_desk.proofs.Keeping.{begun_kept}
use Rattle.homeo_desk.proofs.desk.Desk.begin.Goals as goal

pub invariant_of-result : goal.invariant_of-result
unfolding definitions site_definitions
invariant_of-result c =
    let work = c.args.c.value in
    let clients : c.client_count-clients.result ≡ length (plain_workload work).clients = c.client_count-clients.ensures.count ∙ ap (λ (v : Workload). length (plain_workload v).clients) (c.workload.ensures ∙ c.deref.ensures) in
    let last = c.in_ok-callers.ensures.answered ∙ ap (λ k. replicate k None) clients in
    begun_kept c.in_ok-node.node work (small (first_node (plain_workload work) c.args.site)) c.in_ok-callers.callers.places c.in_ok-callers.callers.queue.items c.in_ok-callers.callers.answered
    c.in_ok-node.ensures (ap calls_of (c.in_ok-callers.ensures.queue ∙ c.new.ensures.items)) tt (subst (AreLast (plain_workload work) c.args.site) (sym last)) (let first = c.in_ok-callers.ensures.round in omega arith)
