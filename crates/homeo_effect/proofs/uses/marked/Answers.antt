-- One more mark.
use Rattle.std.proofs.Common.{◌+◌, ◌++◌, length, take, drop, List, ℕ, Vec, Global, ap, ap₂, ◌∙◌, length-set, arith}
use Rattle.homeo_effect.specs.inner.Uses.{marked_from}
use Rattle.homeo_effect.proofs.Marking.{number_fits, number_put, number_passed, no_more}
use Rattle.homeo_effect.proofs.uses.marked.Goals.{then-mark, else-mark}
use Rattle.homeo_effect.proofs.uses.marked.Goals as goal

pub index_mut-requires : goal.index_mut-requires
index_mut-requires c =
    let so_far = c.loop-number in
    let fits = number_fits c.args.marks.now so_far.number c.loop-number-test.true so_far.numbers.items so_far.place _ so_far.invariant.read c.if-mark.true so_far.invariant.place so_far.invariant.room in
    omega (arith, fits, so_far.numbers.ok.0)

pub loop-number-preserved : goal.loop-number-preserved
loop-number-preserved c =
    let so_far = c.loop-number in
    let marks = c.args.marks.now in
    let i = so_far.number in
    let later : List ℕ = marked_from (i + 1) (drop (i + 1) marks) in
    elim c.if-mark.branch [
      | then-mark w ↦
          let fits = number_fits marks i c.loop-number-test.true so_far.numbers.items so_far.place _ so_far.invariant.read w.if-mark.true so_far.invariant.place so_far.invariant.room in
          let put = number_put marks i c.loop-number-test.true so_far.numbers.items so_far.place _ so_far.invariant.read w.if-mark.true fits in
          let count = ap (λ (v : Vec ℕ Global). length v.items) w.numbers-is ∙ length-set so_far.numbers.items so_far.place i in
          record {
            read = ap₂ (λ (k : ℕ) (v : Vec ℕ Global). take k v.items ++ later) w.place-is w.numbers-is ∙ put;
            place = omega (arith, w.place-is, count, fits);
            room = omega (arith, count, so_far.invariant.room);
          }
      | else-mark w ↦
          let passed = number_passed marks i c.loop-number-test.true so_far.numbers.items so_far.place _ so_far.invariant.read w.if-mark.false in
          let count = ap (λ (v : Vec ℕ Global). length v.items) w.numbers-is in
          record {
            read = ap₂ (λ (k : ℕ) (v : Vec ℕ Global). take k v.items ++ later) w.place-is w.numbers-is ∙ passed;
            place = omega (arith, w.place-is, count, so_far.invariant.place);
            room = omega (arith, count, so_far.invariant.room);
          }
    ]

pub returns : goal.returns
returns c =
    c.truncate.ensures.items
    ∙ no_more c.args.marks.now c.loop-number.number _ _ c.loop-number-test.false c.loop-number.invariant.read
