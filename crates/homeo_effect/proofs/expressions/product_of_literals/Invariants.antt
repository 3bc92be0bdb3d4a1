-- What is left of the factors, from the product so far.
use Rattle.std.proofs.Common.{◌≡◌, pos, map, drop}
use Rattle.homeo_syntax.specs.LowView.{low_exprs, plain_lexpr}
use Rattle.homeo_effect.specs.Localized.{literal_product}
use Rattle.homeo_effect.specs.inner.Alone.{ProductFits}
use Rattle.homeo_effect.proofs.expressions.product_of_literals.Given as goal

abbrev pub invariant-loop-factor : goal.invariant-loop-factor
invariant-loop-factor l =
    let rest = low_exprs (map plain_lexpr (drop l.factor-index l.factors)) in
    record {
      fits : ProductFits l.product rest;
      left : literal_product l.product rest ≡ literal_product (pos 1) (low_exprs (map plain_lexpr l.factors));
    }
