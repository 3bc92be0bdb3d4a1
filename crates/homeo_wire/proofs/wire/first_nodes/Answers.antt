use Rattle.homeo_wire.specs.Key.{definitions}
use Rattle.std.proofs.Common.{◌≡◌, ◌+◌, [], ◌∷◌, ◌++◌, length, map, sym, ap, subst, ◌∙◌, arith}
use Rattle.std.specs.Prelude.{All}
use Rattle.std.specs.List.{range_with_len}
use Rattle.std.proofs.lemmas.List.{map-append}
use Rattle.std.proofs.lemmas.List.Elements.{All-push, All-nil}
use Rattle.std.proofs.lemmas.List.FromFn.{map-range_with_len_more}
use Rattle.homeo_syntax.specs.SourceView.{plain_workload}
use Rattle.homeo_plan.specs.Planned.{sites_of}
use Rattle.homeo_meaning.specs.Initial.{initial}
use Rattle.homeo_wire.specs.inner.Standing.{IsNode}
use Rattle.homeo_wire.specs.Nodes as n
use Rattle.homeo_wire.specs.WireView.{plain_node}
use Rattle.homeo_wire.proofs.wire.first_nodes.Goals as goal

pub first_node-requires-clause-at : goal.first_node-requires-clause-at
first_node-requires-clause-at c =
    c.in_ok-plan.ensures.plan.base ∙ c.in_ok-base.ensures.value ∙ ap (λ v. initial (plain_workload v)) (c.workload-2.ensures ∙ c.deref-2.ensures)

pub first_node-requires-clause-base : goal.first_node-requires-clause-base
first_node-requires-clause-base c = c.in_ok-base.ensures.value ∙ ap (λ v. initial (plain_workload v)) (c.workload-2.ensures ∙ c.deref-2.ensures)

pub first_node-requires-clause-clients : goal.first_node-requires-clause-clients
first_node-requires-clause-clients c = c.client_count-clients.ensures.count ∙ ap (λ v. length (plain_workload v).clients) (c.workload.ensures ∙ c.deref.ensures)

pub loop-site-init : goal.loop-site-init
loop-site-init c = record {
  nodes = ap (map plain_node) c.new-nodes.ensures.items;
  each = subst (All (IsNode c.args.c.now.value)) (sym c.new-nodes.ensures.items) (All-nil (IsNode c.args.c.now.value));
}

pub loop-site-preserved : goal.loop-site-preserved
unfolding definitions
loop-site-preserved c =
    let w = plain_workload c.args.c.now.value in
    let site = c.loop-site.site in
    let before = c.loop-site.nodes.items in
    let more : c.push.new.self.items ≡ before ++ c.in_ok-node.node ∷ [] = c.in_ok-push.ensures.items in record {
      nodes =
          ap (map plain_node) more ∙ map-append plain_node before (c.in_ok-node.node ∷ [])
          ∙ (λ j. c.loop-site.invariant.nodes j ++ c.in_ok-node.ensures.node j ∷ [])
          ∙ sym (map-range_with_len_more (λ k. n.in_round w (n.first_journal w k)) 0 site site (let h : 0 + site ≡ site = omega arith in h));
      each = subst (All (IsNode c.args.c.now.value)) (sym more) (All-push (IsNode c.args.c.now.value) before c.in_ok-node.node c.loop-site.invariant.each c.in_ok-node.ensures.is);
    }

pub returns-clause-nodes : goal.returns-clause-nodes
unfolding definitions
returns-clause-nodes c =
    let w = plain_workload c.args.c.now.value in
    let count : c.site_count-site-end.result ≡ sites_of w = c.site_count-site-end.ensures.count ∙ ap (λ v. sites_of (plain_workload v)) (c.workload-3.ensures ∙ c.deref-4.ensures) in
    let end : c.loop-site.site ≡ sites_of w = omega (arith, c.loop-site-test.false, c.loop-site.auto.site-end, count) in
    c.loop-site.invariant.nodes ∙ ap (λ k. map (λ site. n.in_round w (n.first_journal w site)) (range_with_len 0 k)) end
