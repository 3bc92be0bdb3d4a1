use Rattle.std.proofs.Common.{◌≡◌, ◌++◌, ◌∷◌, [], length, rules, arith, length-append, ap}
use Rattle.homeo_cluster.proofs.MetMore.{numbered_push}
use Rattle.homeo_cluster.proofs.finish.open_all.Goals as goal

pub loop-lock-preserved : goal.loop-lock-preserved
loop-lock-preserved g c =
    let items : c.push.new.self.items ≡ c.loop-lock.cells.items ++ c.into_inner-cell.result ∷ [] = search rules in
    let number : c.into_inner-cell.result.site.state.number ≡ length c.loop-lock.cells.items = search rules in
    (numbered_push c.loop-lock.cells.items _ c.into_inner-cell.result items number c.loop-lock.invariant.0, omega (arith, ap length items, length-append c.loop-lock.yielded (c.in-Some.lock ∷ []), length-append c.loop-lock.cells.items (c.into_inner-cell.result ∷ []), c.loop-lock.invariant.1))
