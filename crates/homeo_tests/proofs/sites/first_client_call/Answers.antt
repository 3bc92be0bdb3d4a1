use Rattle.std.proofs.Common.{◌≡◌, ◌≤◌, pos, length, ap, ◌∙◌, subst, rules}
use Rattle.homeo_syntax.specs.declared.workload.Workload.{Workload}
use Rattle.homeo_tests.proofs.FirstCalls.{first_call}
use Rattle.homeo_tests.proofs.sites.first_client_call.Goals as goal

pub returns-then-seq-count : goal.returns-then-seq-count
returns-then-seq-count c =
    let zero : c.client-item.result.site.value ≡ pos 0 = search rules in
    first_call c.args.w.now c.as_slice.result.now c.client-item.result c.args.seq
    (c.as_slice.ensures ∙ ap (λ (w : Workload). w.clients.items) c.workload.ensures.value) c.in-len1-up.len_at_least c.client-item.is
    zero c.if-seq-ge1.true
    (subst (λ l. c.args.seq ≤ length l) c.as_slice-count.ensures c.if-seq-count.true)
