use Rattle.std.proofs.Common.{rules, ◌≡◌, ◌+◌, ◌<◌, ℤ, pos, ◌+ℤ◌, suc, sym, ap, subst, ◌∙◌, take, length, arith, slice_set, get_or, List, FitsSigned, to_z, of_z}
use Rattle.std.specs.Int.{w64}
use Rattle.std.proofs.lemmas.Int.{to_z-of_z}
use Rattle.homeo_round.specs.PlusDeltas.{plus_deltas}
use Rattle.homeo_round.proofs.Added.{plus_length, plus_next, fits_here}
use Rattle.homeo_round.proofs.gather.add_deltas.Goals as goal

pub loop-i-preserved : goal.loop-i-preserved
loop-i-preserved c =
    let i = c.loop-i.i in
    let ds = c.args.deltas.now in
    let vs = c.args.values.now in
    let v : ℤ = get_or c.loop-i.values i (pos 0) in
    let d : ℤ = get_or ds i (pos 0) in
    let lt : i < length ds = omega (arith, c.loop-i-test.true, c.min-count.ensures) in
    let inside : i < length (plus_deltas vs (take i ds)) = omega (arith, c.loop-i-test.true, c.min-count.ensures, plus_length vs (take i ds)) in
    let fits_v : FitsSigned w64 v = search rules in
    let fits_d : FitsSigned w64 d = search rules in
    let fits : FitsSigned w64 (v +ℤ d) = subst (λ (l : List ℤ). FitsSigned w64 (get_or l i (pos 0) +ℤ d)) (sym c.loop-i.invariant) (fits_here vs ds i c.requires lt inside) in
    let next : suc i ≡ i + 1 = omega arith in
    ap (λ (e : ℤ). slice_set c.loop-i.values i (to_z w64 (of_z w64 (e +ℤ to_z w64 (of_z w64 d))))) (to_z-of_z w64 v fits_v)
    ∙ ap (λ (e : ℤ). slice_set c.loop-i.values i (to_z w64 (of_z w64 (v +ℤ e)))) (to_z-of_z w64 d fits_d)
    ∙ ap (λ (e : ℤ). slice_set c.loop-i.values i e) (to_z-of_z w64 (v +ℤ d) fits)
    ∙ ap (λ (l : List ℤ). slice_set l i (get_or l i (pos 0) +ℤ d)) c.loop-i.invariant
    ∙ plus_next vs ds i lt
    ∙ ap (λ n. plus_deltas vs (take n ds)) next
