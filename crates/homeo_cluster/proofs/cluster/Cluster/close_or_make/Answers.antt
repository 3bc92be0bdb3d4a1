use Rattle.std.proofs.Common.{rules, ◌≡◌, suc, ◌+◌, ◌<◌, ◌≤◌, List, Some, slice_get, slice_set, length, vec_len, sym, ap, subst, ◌∙◌, arith}
use mathlib.Core.Logic.{⊎_elim}
use Rattle.homeo_plan.specs.Planned.{sites_of}
use Rattle.homeo_history.specs.Legal.{IsClientAt, IsCallAt, call_count}
use Rattle.homeo_history.proofs.Exists.{is_call_at}
use Rattle.homeo_history.proofs.Lists.{get_set_same, set_cases}
use Rattle.homeo_site.specs.SiteState.{SiteState, step_finding}
use Rattle.homeo_cluster.specs.inner.Cells.{CellValue}
use Rattle.homeo_cluster.specs.Passes.{next_call}
use Rattle.homeo_cluster.specs.inner.Rows.{held_cells}
use Rattle.homeo_cluster.specs.inner.Tries.{IsTried}
use Rattle.homeo_cluster.specs.declared.local.Tried.TheVariants.{Breaks}
use Rattle.homeo_cluster.proofs.Rows.{held_at, held_set}
use Rattle.homeo_cluster.proofs.Settles.{states_get}
use Rattle.homeo_cluster.proofs.cluster.Cluster.close_or_make.Goals as goal
use Rattle.homeo_cluster.proofs.cluster.Cluster.close_or_make.Goals.{After-deref_mut}
use Rattle.homeo_cluster.proofs.cluster.Cluster.close_or_make.Given.{Over}

-- the client's site
stands : (g : Over) (c : After-deref_mut g) → slice_get (held_cells c.in_ok-cells.cells.items) c.args.home ≡ Some c.deref_mut.result.now
stands g c =
    let gs = c.in_ok-cells.cells.items in
    let long : length gs ≡ vec_len c.in_ok-cells.cells = search rules in
    let count : vec_len c.in_ok-cells.cells ≡ sites_of g.N.ClusterNaming.workload = c.in_ok-cells.ensures.count in
    let inside : c.args.home < sites_of g.N.ClusterNaming.workload = c.requires.inside in
    held_at gs c.args.home c.index_mut.result.now c.deref_mut.result.now (omega (arith, long, count, inside)) c.index_mut.ensures.value c.deref_mut.ensures.value

number : (g : Over) (c : After-deref_mut g) → c.deref_mut.result.now.site.state.number ≡ c.args.home
number g c = c.in_ok-cells.ensures.numbers c.args.home c.deref_mut.result.now (stands g c)

pub attempt-requires-clause-home : goal.attempt-requires-clause-home
attempt-requires-clause-home g c =
    let e = (goal.at.attempt-requires-clause-home g c).After-deref_mut in
    subst (λ n. IsClientAt g.N.ClusterNaming.workload n c.args.pass.now.client) (sym (number g e)) c.requires.home

pub close-requires-clause-numbers : goal.close-requires-clause-numbers
close-requires-clause-numbers g c i d here =
    let w = g.N.ClusterNaming.workload in
    let e = (goal.at.close-requires-clause-numbers g c).After-deref_mut in
    let vs : List CellValue = held_cells c.in_ok-cells.cells.items in
    let tried : IsTried w c.deref_mut.result.now c.attempt.new.cell c.args.pass.now c.attempt.new.pass (Breaks c.in-Breaks.broken) =
    subst (IsTried w c.deref_mut.result.now c.attempt.new.cell c.args.pass.now c.attempt.new.pass) c.in-Breaks.is c.in_ok-answer.ensures.tried in
    let now : slice_get (slice_set vs c.args.home c.attempt.new.cell) i ≡ Some d = ap (λ l. slice_get l i) (sym (held_set c.in_ok-cells.cells.items c.args.home _)) ∙ here in
    ⊎_elim
    (λ (x : (i ≡ c.args.home) × (c.attempt.new.cell ≡ d)). ap (λ (v : CellValue). v.site.state.number) (sym x.1) ∙ ap (λ (y : SiteState). y.number) tried.1 ∙ number g e ∙ sym x.0)
    (λ was. c.in_ok-cells.ensures.numbers i d was)
    (set_cases vs c.args.home i c.attempt.new.cell d now)

pub close-requires-clause-breaks : goal.close-requires-clause-breaks
close-requires-clause-breaks g c =
    let w = g.N.ClusterNaming.workload in
    let e = (goal.at.close-requires-clause-breaks g c).After-deref_mut in
    let vs : List CellValue = held_cells c.in_ok-cells.cells.items in
    let tried : IsTried w c.deref_mut.result.now c.attempt.new.cell c.args.pass.now c.attempt.new.pass (Breaks c.in-Breaks.broken) =
    subst (IsTried w c.deref_mut.result.now c.attempt.new.cell c.args.pass.now c.attempt.new.pass) c.in-Breaks.is c.in_ok-answer.ensures.tried in
    let call : next_call c.args.pass.now ≡ next_call c.attempt.new.pass = ap next_call (sym tried.0) in
    let all : length c.args.pass.now.log + c.args.pass.now.left ≡ call_count w c.args.pass.now.client = c.facts.ensures.logged.all in
    let some : 0 < c.args.pass.now.left = c.requires.left in
    let le : suc (length c.args.pass.now.log) ≤ call_count w c.args.pass.now.client = omega (arith, all, some) in
    let here : slice_get (held_cells (slice_set c.in_ok-cells.cells.items c.args.home _)) c.args.home ≡ Some c.attempt.new.cell =
    ap (λ l. slice_get l c.args.home) (held_set c.in_ok-cells.cells.items c.args.home _) ∙ get_set_same vs c.args.home c.deref_mut.result.now c.attempt.new.cell (stands g e) in
    record {
      site = c.attempt.new.cell.site.state;
      here = states_get _ c.args.home c.attempt.new.cell here;
      at_site = subst (IsCallAt w c.args.home) call (is_call_at w c.args.home (next_call c.args.pass.now) c.requires.home (omega arith) le);
      breaks = (λ i. step_finding w (tried.1 i) (sym call i)) ∙ tried.2;
    }
