-- What is left of a sum or product, from the number so far.
use Rattle.std.proofs.Common.{◌≡◌, true, pos, map, drop}
use Rattle.homeo_syntax.specs.LowView.{low_exprs, plain_lexpr}
use Rattle.homeo_split.specs.CanExec.{run_limit, sum_fits, product_fits}
use Rattle.homeo_meaning.specs.LowMeaning.{sum_value, product_value}
use Rattle.homeo_split.proofs.phrases.+values.Given as goal

abbrev pub invariant-sum-loop-e : goal.invariant-sum-loop-e
invariant-sum-loop-e g l =
    let s = g.S.Reads.values l.state in
    let rest = low_exprs (map plain_lexpr (drop l.e-index l.es)) in
    record {
      fits : sum_fits run_limit l.total rest s ≡ true;
      left : sum_value l.total rest s ≡ sum_value (pos 0) (low_exprs (map plain_lexpr l.es)) s;
    }

abbrev pub invariant-product-loop-e : goal.invariant-product-loop-e
invariant-product-loop-e g l =
    let s = g.S.Reads.values l.state in
    let rest = low_exprs (map plain_lexpr (drop l.e-index l.es)) in
    record {
      fits : product_fits run_limit l.total rest s ≡ true;
      left : product_value l.total rest s ≡ product_value (pos 1) (low_exprs (map plain_lexpr l.es)) s;
    }
