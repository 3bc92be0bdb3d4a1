use Rattle.std.proofs.Common.{arith, ◌≡◌, replicate, None, length, ap, sym, subst, ◌∙◌}
use Rattle.homeo_lemmas.proofs.Options.{if_some}
use Rattle.homeo_syntax.specs.SourceView.{plain_workload}
use Rattle.homeo_syntax.specs.declared.workload.Workload.{Workload}
use Rattle.homeo_live.specs.LiveView.{LiveValue, plain_node}
use Rattle.homeo_desk.specs.DeskView.{calls_of}
use Rattle.homeo_desk.specs.declared.places.Places.{Places}
use Rattle.homeo_desk.specs.inner.Keeping.{AreLast}
use Rattle.homeo_desk.proofs.Keeping.{begun_kept}
use Rattle.homeo_desk.proofs.desk.Desk.begin_at.Goals as goal

pub invariant_of-result : goal.invariant_of-result
invariant_of-result c =
    let work = c.args.c.value in
    let state = c.args.state in
    let node = if_some _ c.in_ok-node.field-0 c.in-Some.node c.in_ok-node.ensures.state c.in-Some.is in
    let clients : c.client_count-clients.result ≡ length (plain_workload work).clients = c.client_count-clients.ensures.count ∙ ap (λ (v : Workload). length (plain_workload v).clients) (c.workload.ensures ∙ c.deref.ensures) in
    let last = c.in_ok-callers.ensures.answered ∙ ap (λ k. replicate k None) clients in
    begun_kept c.in-Some.node work (plain_node state.node) c.keep.new.self.places c.keep.new.self.queue.items c.keep.new.self.answered node
    (ap calls_of (c.keep.ensures.queue ∙ c.in_ok-callers.ensures.queue ∙ sym c.as_slice.ensures.value) ∙ c.are_of.ensures.yes c.if-not-are_of.false ∙ c.as_slice-2.ensures.value)
    (c.keeps_first.ensures.yes c.if-not-keeps_first.false)
    (λ none. subst (λ (v : LiveValue). AreLast (plain_workload v.work) v.node.number c.keep.new.self.answered) node
    (c.keep.ensures.last (subst (λ (v : LiveValue). AreLast (plain_workload v.work) v.node.number c.in_ok-callers.callers.answered) (sym node)
    (subst (AreLast (plain_workload work) state.node.site) (sym last) none))))
    (let round = ap (λ (p : Places). p.round) c.keep.ensures.places ∙ c.in_ok-callers.ensures.round in omega (arith, round))
