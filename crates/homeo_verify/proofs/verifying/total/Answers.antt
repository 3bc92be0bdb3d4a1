-- One more bound, or the first that is negative.
use Rattle.std.proofs.Common.{rules, arith, ◌≡◌, ◌+ℤ◌, get_or, pos, false, refl, w64, SFits, to_z, of_z, int_lt, sym, ap, ◌∙◌}
use Rattle.std.specs.Int.{w128}
use Rattle.std.proofs.lemmas.Int.{ints, to_z-of_z}
use Rattle.homeo_verify.proofs.Verdicts.{total_next, total_none, natural_next, natural_stops, natural_none}
use Rattle.homeo_verify.proofs.verifying.total.Goals as goal

pub returns-then-bound-lt0 : goal.returns-then-bound-lt0
returns-then-bound-lt0 c =
    let b = get_or c.args.bounds.now c.loop-bound.bound-index (pos 0) in
    let kept = to_z-of_z w64 b (search rules) in
    sym c.loop-bound.invariant.natural
    ∙ natural_stops c.args.bounds.now c.loop-bound.bound-index c.loop-bound-test.true (ap (λ z. int_lt z (pos 0)) (sym kept) ∙ c.if-bound-lt0.true)

pub loop-bound-preserved : goal.loop-bound-preserved
loop-bound-preserved c =
    let next = total_next c.args.bounds.now c.loop-bound.bound-index _ (pos 0) c.loop-bound-test.true refl in
    let b = get_or c.args.bounds.now c.loop-bound.bound-index (pos 0) in
    let s = to_z w128 c.loop-bound.sum-bits in
    let small : SFits w64 b = search rules in
    let kept : to_z w64 (of_z w64 b) ≡ b = to_z-of_z w64 b small in
    let natural : int_lt b (pos 0) ≡ false = ap (λ z. int_lt z (pos 0)) (sym kept) ∙ c.if-bound-lt0.false in
    let wide : SFits w128 b = grind (arith, ints, rules) in
    let fits : SFits w128 (s +ℤ b) = grind (arith, ints, rules) in
    let is : to_z w128 (of_z w128 (s +ℤ to_z w128 (of_z w128 (to_z w64 (of_z w64 b))))) ≡ s +ℤ b =
    ap (λ z. to_z w128 (of_z w128 (s +ℤ to_z w128 (of_z w128 z)))) kept ∙ ap (λ z. to_z w128 (of_z w128 (s +ℤ z))) (to_z-of_z w128 b wide) ∙ to_z-of_z w128 (s +ℤ b) fits in
    let so = c.loop-bound.invariant in
    record {
      sum = rw is (omega (arith, ints, next, so.sum));
      natural = sym (natural_next c.args.bounds.now c.loop-bound.bound-index c.loop-bound-test.true natural) ∙ so.natural;
      low = rw is (omega (arith, ints));
      high = rw is (omega (arith, ints));
    }

pub returns : goal.returns
returns c =
    let none = total_none c.args.bounds.now c.loop-bound.bound-index c.loop-bound-test.false in
    let so = c.loop-bound.invariant in
    (sym so.natural ∙ natural_none c.args.bounds.now c.loop-bound.bound-index c.loop-bound-test.false, omega (arith, ints, none, so.sum))
