-- Numbers that are too large, among others.
use Rattle.std.proofs.Common.{◌≡◌, Bool, true, false, cond, ◌&&◌, List, [], ◌∷◌, ◌++◌, ℤ, refl, sym, ap, ◌∙◌, subst}
use Rattle.std.specs.List.{list_all}
use Rattle.std.proofs.lemmas.List.Folds.{list_all-append}
use Rattle.homeo_syntax.specs.Low.{Expr}
use Rattle.homeo_meaning.specs.Small.{IsSmall, is_small}
use Rattle.homeo_plan.specs.FormSizes.{Numbers, CanForm}
use Rattle.homeo_plan.specs.Limit.{form_limit}
use Rattle.homeo_plan.specs.Linear.{Linear, Forms}
use Rattle.homeo_certificate.specs.Key.{definitions}
use Rattle.homeo_certificate.specs.declared.fault.Fault.TheVariants.{TooLarge}
use Rattle.homeo_verify.specs.declared.stop.Stop.{Stop}
use Rattle.homeo_verify.specs.declared.stop.Stop.TheVariants as stop
use Rattle.homeo_certificate.specs.Met.{numbers, met}
use Rattle.homeo_certificate.specs.Followed.{too_large}
use Rattle.homeo_verify.specs.inner.Stops.{StopsAt}
use Rattle.homeo_certificate.proofs.FaultLists.{is_true_if}
use Rattle.homeo_verify.proofs.MetSmall.{numbers_are, can_if_small}

abbrev all_small : List ℤ → Bool
all_small ns = list_all (is_small form_limit) ns

pub large_behind : (xs ys : List ℤ) → too_large xs ≡ [] → too_large (xs ++ ys) ≡ too_large ys
unfolding definitions
large_behind xs ys h =
    ap (λ v. cond v [] (TooLarge ∷ [])) (list_all-append (is_small form_limit) xs ys ∙ ap (λ v. v && all_small ys) (is_true_if (all_small xs) TooLarge h))

pub none_large : (xs ys : List ℤ) → too_large xs ≡ [] → too_large ys ≡ [] → too_large (xs ++ ys) ≡ []
none_large xs ys h k = large_behind xs ys h ∙ k

pub large_in_front : (xs ys : List ℤ) (e : Stop) → StopsAt (too_large xs) e → StopsAt (too_large (xs ++ ys)) e
unfolding definitions
large_in_front xs ys e h =
    subst (λ w. StopsAt (cond w [] (TooLarge ∷ [])) e) (sym (list_all-append (is_small form_limit) xs ys)) (go (all_small xs) e h)
  where
    go : (v : Bool) (e : Stop) → StopsAt (cond v [] (TooLarge ∷ [])) e → StopsAt (cond (v && all_small ys) [] (TooLarge ∷ [])) e
    go true (stop.Fault f) h = absurd (let q = h.1 in cc)
    go true stop.Memory h = tt
    go false e h = h

large_if : (ns : List ℤ) → (all_small ns ≡ true → ⊥) → StopsAt (too_large ns) (stop.Fault TooLarge)
unfolding definitions
large_if ns h = go (all_small ns) refl
  where
    go : (v : Bool) → all_small ns ≡ v → StopsAt (cond v [] (TooLarge ∷ [])) (stop.Fault TooLarge)
    go true e = absurd (h e)
    go false e = ([], refl)

pub form_is_large : (f : Forms) (e : Expr) → (CanForm (IsSmall form_limit) f e → ⊥) → StopsAt (too_large (met f e)) (stop.Fault TooLarge)
form_is_large f e h = large_if (met f e) (λ k. h (can_if_small f e k))

pub numbers_are_large : (a : Linear) → (Numbers (IsSmall form_limit) a → ⊥) → StopsAt (too_large (numbers a)) (stop.Fault TooLarge)
numbers_are_large a h = large_if (numbers a) (λ k. h (numbers_are a k))
