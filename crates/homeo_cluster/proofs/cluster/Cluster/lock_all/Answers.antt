use Rattle.std.proofs.Common.{rules, ◌≡◌, ◌++◌, ◌∷◌, [], length, length-append, arith, ap, sym, ◌∙◌}
use Rattle.std.specs.Sync.Mutex.{mutex_guard_value}
use Rattle.homeo_cluster.specs.inner.Cells.{CellValue}
use Rattle.homeo_cluster.specs.inner.Rows.{held_cells}
use Rattle.homeo_cluster.proofs.MetMore.{numbered_push}
use Rattle.homeo_cluster.proofs.Rows.{held_push, held_long}
use Rattle.homeo_cluster.proofs.cluster.Cluster.lock_all.Goals as goal

pub loop-lock-preserved : goal.loop-lock-preserved
loop-lock-preserved g c =
    let gs = c.loop-lock.cells.items in
    let items : c.push.new.self.items ≡ gs ++ c.lock-cell.result ∷ [] = search rules in
    let states = ap held_cells items ∙ held_push gs c.lock-cell.result in
    let long = held_long gs in
    let read : c.number.result ≡ length gs = search rules in
    let place : (mutex_guard_value c.lock-cell.result).site.state.number ≡ length (held_cells gs) =
    ap (λ (k : CellValue). k.site.state.number) (sym c.deref.ensures) ∙ (sym c.number.ensures.number ∙ (read ∙ sym long)) in
    (numbered_push (held_cells gs) _ (mutex_guard_value c.lock-cell.result) states place c.loop-lock.invariant.0, omega (arith, ap length items, length-append gs (c.lock-cell.result ∷ []), c.loop-lock.invariant.1))
