-- The test by which code tells terms apart is that of the definitions.
use Rattle.homeo_plan.specs.Key.{definitions}
use Rattle.std.proofs.Common.{◌≡◌, Bool, ◌&&◌, ◌==◌, List, [], ◌∷◌, refl, ap}
use Rattle.std.specs.Ordering.{int_eq}
use Rattle.std.specs.Cmp.Lexicographic.{pointwise}
use Rattle.homeo_plan.specs.declared.forms.Term.{Term}
use Rattle.homeo_plan.specs.Template.{same_terms}

abbrev pub term_test : Term → Term → Bool
term_test a b = ((a.delta.object == b.delta.object) && (a.delta.site == b.delta.site)) && int_eq a.factor b.factor

pub same-terms : (xs ys : List Term) → pointwise term_test xs ys ≡ same_terms xs ys
unfolding definitions
same-terms [] [] = refl
same-terms [] (y ∷ ys) = refl
same-terms (x ∷ xs) [] = refl
same-terms (x ∷ xs) (y ∷ ys) = ap (λ b. term_test x y && b) (same-terms xs ys)
