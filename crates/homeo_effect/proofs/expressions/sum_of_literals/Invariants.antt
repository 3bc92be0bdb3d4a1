-- What is left of the terms, from the sum so far.
use Rattle.std.proofs.Common.{◌≡◌, pos, map, drop}
use Rattle.homeo_syntax.specs.LowView.{low_exprs, plain_lexpr}
use Rattle.homeo_effect.specs.Localized.{literal_sum}
use Rattle.homeo_effect.specs.inner.Alone.{SumFits}
use Rattle.homeo_effect.proofs.expressions.sum_of_literals.Given as goal

abbrev pub invariant-loop-term : goal.invariant-loop-term
invariant-loop-term l =
    let rest = low_exprs (map plain_lexpr (drop l.term-index l.terms)) in
    record {
      fits : SumFits l.sum rest;
      left : literal_sum l.sum rest ≡ literal_sum (pos 0) (low_exprs (map plain_lexpr l.terms));
    }
