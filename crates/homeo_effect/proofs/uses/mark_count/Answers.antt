-- One more number, and all of them.
use Rattle.std.proofs.Common.{ℕ, ◌<◌, List, subst, arith}
use Rattle.std.specs.List.{All}
use Rattle.std.proofs.lemmas.List.Elements.{All-more, All-weaker}
use Rattle.homeo_lemmas.proofs.Lists.{take_past}
use Rattle.homeo_effect.proofs.uses.mark_count.Goals as goal

pub loop-number-preserved : goal.loop-number-preserved
loop-number-preserved c =
    let numbers = c.args.numbers.now in
    let so_far = c.loop-number in
    record {
      above =
          All-more (λ n. n < c.max-count.result) numbers so_far.number-index 0 c.loop-number-test.true
          (All-weaker (λ n. n < so_far.count) (λ n. n < c.max-count.result) (λ n below. omega (arith, below, c.max-count.ensures)) _ so_far.invariant.above)
          (omega (arith, c.max-count.ensures));
      small = omega (arith, so_far.invariant.small, c.type_inv.numbers so_far.number-index, c.max-count.ensures);
    }

pub returns-clause-above : goal.returns-clause-above
returns-clause-above c =
    subst (λ (ns : List ℕ). All (λ n. n < c.loop-number.count) ns)
    (take_past c.args.numbers.now c.loop-number.number-index c.loop-number-test.false) c.loop-number.invariant.above
