-- What is left of a sum or product, from the form so far.
use Rattle.std.proofs.Common.{◌≡◌, pos, map, drop}
use Rattle.homeo_syntax.specs.LowView.{low_exprs, plain_lexpr}
use Rattle.homeo_meaning.specs.Small.{IsSmall}
use Rattle.homeo_plan.specs.FormSizes.{CanSum, CanProduct}
use Rattle.homeo_plan.specs.Linear.{constant_form, sum_form, product_form}
use Rattle.homeo_plan.specs.Limit.{form_limit}
use Rattle.homeo_form.specs.Standing.{forms_of}
use Rattle.homeo_form.proofs.expressions.+expressions.Given as goal

abbrev pub invariant-sum-loop-e : goal.invariant-sum-loop-e
invariant-sum-loop-e l =
    let f = forms_of l.standing in
    let rest = low_exprs (map plain_lexpr (drop l.e-index l.es)) in
    record {
      small : CanSum (IsSmall form_limit) f l.total rest;
      left : sum_form f l.total rest ≡ sum_form f (constant_form (pos 0)) (low_exprs (map plain_lexpr l.es));
    }

abbrev pub invariant-product-loop-e : goal.invariant-product-loop-e
invariant-product-loop-e l =
    let f = forms_of l.standing in
    let rest = low_exprs (map plain_lexpr (drop l.e-index l.es)) in
    record {
      small : CanProduct (IsSmall form_limit) f l.total rest;
      left : product_form f l.total rest ≡ product_form f (constant_form (pos 1)) (low_exprs (map plain_lexpr l.es));
    }
