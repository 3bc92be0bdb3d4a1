-- What is left of a sum or product, from the constant so far.
use Rattle.homeo_form.specs.Standing.{forms_of}
use Rattle.homeo_form.proofs.Folds.{sums, products, ConstantSoFar}
use Rattle.homeo_form.proofs.constants.+constants.Given as goal

abbrev pub invariant-constant_of_sum-loop-e : goal.invariant-constant_of_sum-loop-e
invariant-constant_of_sum-loop-e l = ConstantSoFar (sums (forms_of l.standing)) l.es l.e-index l.total

abbrev pub invariant-constant_of_product-loop-e : goal.invariant-constant_of_product-loop-e
invariant-constant_of_product-loop-e l = ConstantSoFar (products (forms_of l.standing)) l.es l.e-index l.total
