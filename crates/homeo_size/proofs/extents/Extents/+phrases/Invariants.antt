-- What is left, after what has been measured, is as large as the whole.
use Rattle.std.proofs.Common.{◌≡◌, map, drop}
use Rattle.homeo_syntax.specs.LowView.{low_exprs, plain_lexpr}
use Rattle.homeo_size.specs.inner.Parts.{nothing, no_factor}
use Rattle.homeo_size.specs.inner.Sizing.{sum_sized, product_sized}
use Rattle.homeo_size.specs.inner.Tables.{sizes_in}
use Rattle.homeo_size.proofs.extents.Extents.+phrases.Given as goal

abbrev pub invariant-sum-loop-e : goal.invariant-sum-loop-e
invariant-sum-loop-e l =
    sum_sized (low_exprs (map plain_lexpr (drop l.e-index l.es))) (sizes_in l.self) l.all ≡ sum_sized (low_exprs (map plain_lexpr l.es)) (sizes_in l.self) nothing

abbrev pub invariant-product-loop-e : goal.invariant-product-loop-e
invariant-product-loop-e l =
    product_sized (low_exprs (map plain_lexpr (drop l.e-index l.es))) (sizes_in l.self) l.all ≡ product_sized (low_exprs (map plain_lexpr l.es)) (sizes_in l.self) no_factor
