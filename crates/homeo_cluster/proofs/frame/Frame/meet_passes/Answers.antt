use Rattle.std.proofs.Common.{rules, ◌≡◌, ◌<◌, List, Some, slice_get, length, length-set, refl, sym, subst, ◌∙◌, arith}
use Rattle.std.proofs.lemmas.Option.{slice_get_read}
use Rattle.homeo_lemmas.proofs.Places.{get_map}
use Rattle.homeo_plan.specs.Planned.{sites_of}
use Rattle.homeo_history.specs.Legal.{IsClientAt}
use Rattle.homeo_cluster.specs.inner.Cells.{CellValue, cell_of, cells_of}
use Rattle.homeo_cluster.specs.Passes.{PassValue, logs_of}
use Rattle.homeo_cluster.specs.inner.Meets.{MetDone}
use Rattle.homeo_cluster.proofs.MetMore.{cell_at, cells_set, done_more, logs_set, all_set}
use Rattle.homeo_cluster.proofs.frame.Frame.meet_passes.Goals as goal

pub meet_done-requires : goal.meet_done-requires
meet_done-requires g c =
    let w = g.N.ClusterNaming.workload in
    let n = c.loop-client.client in
    let cells : List CellValue = c.loop-client.cells.items in
    let passes : List PassValue = c.loop-client.passes.items in
    let v : CellValue = c.index_mut.result.now in
    let p : PassValue = c.index_mut-in-loop-client.result.now in
    let inv = c.loop-client.invariant in
    let bound : c.home-home.result < sites_of w = c.home-home.ensures.bound in
    let lt : c.home-home.result < length cells = omega (arith, bound, inv.long) in
    let few : n < length w.clients = search rules in
    let more : n < length passes = omega (arith, few, inv.all.count) in
    let at : slice_get cells c.home-home.result ≡ Some v = slice_get_read cells _ c.home-home.result v refl lt c.index_mut.ensures.value in
    let at_p : slice_get passes n ≡ Some p = slice_get_read passes _ n p refl more c.index_mut-in-loop-client.ensures.value in
    let number : v.site.state.number ≡ c.home-home.result = c.requires.numbers c.home-home.result (cell_of w v) (cell_at w cells _ c.home-home.result v inv.cells at) in
    let client : p.client ≡ n = inv.all.clients n p at_p in
    let own : IsClientAt w c.home-home.result n = c.home-home.ensures.at in
    record { home = subst (λ k. IsClientAt w v.site.state.number k) (sym client) (subst (λ k. IsClientAt w k n) (sym number) own) }

pub loop-client-preserved : goal.loop-client-preserved
loop-client-preserved g c =
    let w = g.N.ClusterNaming.workload in
    let inv = c.loop-client.invariant in
    let n = c.loop-client.client in
    let i = c.home-home.result in
    let cells : List CellValue = c.loop-client.cells.items in
    let passes : List PassValue = c.loop-client.passes.items in
    let v : CellValue = c.index_mut.result.now in
    let p : PassValue = c.index_mut-in-loop-client.result.now in
    let bound : i < sites_of w = c.home-home.ensures.bound in
    let lt : i < length cells = omega (arith, bound, inv.long) in
    let few : n < length w.clients = search rules in
    let more : n < length passes = omega (arith, few, inv.all.count) in
    let at : slice_get cells i ≡ Some v = slice_get_read cells _ i v refl lt c.index_mut.ensures.value in
    let at_p : slice_get passes n ≡ Some p = slice_get_read passes _ n p refl more c.index_mut-in-loop-client.ensures.value in
    let client : p.client ≡ n = inv.all.clients n p at_p in
    let own : IsClientAt w i n = c.home-home.ensures.at in
    let log : slice_get (logs_of c.args.passes.now.items) n ≡ Some p.log = subst (λ xs. slice_get xs n ≡ Some p.log) inv.logs (get_map (λ (k : PassValue). k.log) passes n p at_p) in
    record {
      long = length-set cells i c.meet_done.new.cell ∙ inv.long;
      cells = cells_set w cells _ i v c.meet_done.new.cell inv.cells c.index_mut.ensures.value c.meet_done.ensures.cell.cell;
      all = all_set w passes n p c.meet_done.new.pass at_p c.meet_done.ensures.pass.client inv.all;
      logs = logs_set passes _ n p c.meet_done.new.pass inv.logs c.index_mut-in-loop-client.ensures.value c.meet_done.ensures.pass.log;
      met = done_more w _ _ n i (cell_of w v) p.log inv.met own (cell_at w cells _ i v inv.cells at) log (subst (λ k. p.log ≡ (cell_of w v).lists.done k) client c.meet_done.ensures.met);
    }

pub returns-clause-met : goal.returns-clause-met
returns-clause-met g c =
    let w = g.N.ClusterNaming.workload in
    let all : c.loop-client.client ≡ length w.clients = omega (arith, c.loop-client-test.false, c.loop-client.auto.client-end) in
    subst (λ n. MetDone w n (cells_of w c.args.cells.now.items) (logs_of c.args.passes.now.items)) all c.loop-client.invariant.met
