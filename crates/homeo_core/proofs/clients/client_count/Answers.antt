use Rattle.homeo_syntax.specs.Key.{definitions as syntax_definitions}
use Rattle.std.proofs.Common.{◌≡◌, ◌≤◌, length, map, ap, ◌∙◌, arith}
use Rattle.homeo_lemmas.proofs.Lists.{length_map}
use Rattle.homeo_syntax.specs.SourceView.{plain_client, plain_workload}
use Rattle.homeo_syntax.specs.declared.workload.Workload.{Workload}
use Rattle.homeo_meaning.proofs.FewClients.{clients_few}
use Rattle.homeo_core.proofs.clients.client_count.Goals as goal

pub returns-clause-few : goal.returns-clause-few
unfolding syntax_definitions
returns-clause-few c =
    let few : length (plain_workload c.args.w.now).clients ≤ 64 = clients_few (plain_workload c.args.w.now) c.workload.ensures.accepted in
    let items : length c.as_slice.result.now ≡ length c.args.w.now.clients.items = ap length c.as_slice.ensures ∙ ap (λ (v : Workload). length v.clients.items) c.workload.ensures.value in
    let all : length (map plain_client c.args.w.now.clients.items) ≡ length c.args.w.now.clients.items = length_map plain_client c.args.w.now.clients.items in
    omega (arith, few, items, all)
