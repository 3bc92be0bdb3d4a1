-- What is left of a sum or product, from the form so far.
use Rattle.homeo_form.specs.Standing.{forms_of}
use Rattle.homeo_form.proofs.Folds.{sums, products, SoFar}
use Rattle.homeo_form.proofs.checked.+checked.Given as goal

abbrev pub invariant-checked_product-loop-e : goal.invariant-checked_product-loop-e
invariant-checked_product-loop-e l = SoFar (products (forms_of l.standing)) l.es l.e-index l.total

abbrev pub invariant-checked_sum-loop-e : goal.invariant-checked_sum-loop-e
invariant-checked_sum-loop-e l = SoFar (sums (forms_of l.standing)) l.es l.e-index l.total
