-- Deltas that are frozen one after another, and clauses that keep a form.
use Rattle.std.proofs.Common.{◌≡◌, ℕ, suc, ◌+◌, ◌<◌, ◌≤◌, Bool, true, false, cond, List, [], ◌∷◌, ◌++◌, drop, get_or, length, pos, arith, refl, sym, ap, ◌∙◌, add-one, drop_of_length-le}
use Rattle.std.specs.List.{list_any}
use Rattle.std.proofs.Math.Seq.{drop-cons}
use Rattle.homeo_meaning.specs.Key.{definitions as meaning_definitions}
use Rattle.homeo_meaning.specs.Small.{IsSmall}
use Rattle.homeo_plan.specs.Key.{definitions as plan_definitions}
use Rattle.homeo_plan.specs.declared.forms.Delta.{Delta}
use Rattle.homeo_plan.specs.declared.forms.Term.{Term}
use Rattle.homeo_plan.specs.Limit.{form_limit}
use Rattle.homeo_plan.specs.Linear.{same_delta, Linear, is_empty}
use Rattle.homeo_certificate.specs.Key.{definitions}
use Rattle.homeo_certificate.specs.declared.fault.Fault.TheVariants.{NotFrozen, NoClause}
use Rattle.homeo_verify.specs.declared.stop.Stop.TheVariants as stop
use Rattle.homeo_certificate.specs.Followed.{Rules, not_frozen, keeps, no_clause}
use Rattle.homeo_verify.specs.inner.Stops.{StopsAt}

module _ (r : Rules) (ds : List Delta) (i : ℕ) where
  module _ (d z : Delta) (l : i < length ds) (e : d ≡ get_or ds i z) (so : not_frozen r (drop i ds) ≡ not_frozen r ds) (v : Bool) (is : v ≡ list_any (same_delta d) r.freezes) where
    front : drop i ds ≡ d ∷ drop (i + 1) ds
    front = rw add-one (drop-cons ds i z l ∙ ap (λ y. y ∷ drop (suc i) ds) (sym e))

    split : cond v [] (NotFrozen d ∷ []) ++ not_frozen r (drop (i + 1) ds) ≡ not_frozen r ds
    unfolding definitions
    split = ap (λ w. cond w [] (NotFrozen d ∷ []) ++ not_frozen r (drop (i + 1) ds)) is ∙ sym (ap (not_frozen r) front) ∙ so

    pub freeze_stops : v ≡ false → StopsAt (not_frozen r ds) (stop.Fault (NotFrozen d))
    freeze_stops h = (not_frozen r (drop (i + 1) ds), sym (ap (λ w. cond w [] (NotFrozen d ∷ []) ++ not_frozen r (drop (i + 1) ds)) (sym h) ∙ split))

    pub freeze_goes_on : v ≡ true → not_frozen r (drop (i + 1) ds) ≡ not_frozen r ds
    freeze_goes_on h = ap (λ w. cond w [] (NotFrozen d ∷ []) ++ not_frozen r (drop (i + 1) ds)) (sym h) ∙ split

  pub freeze_ends : length ds ≤ i → not_frozen r (drop i ds) ≡ not_frozen r ds → not_frozen r ds ≡ []
  unfolding definitions
  freeze_ends l so = sym so ∙ ap (not_frozen r) (drop_of_length-le ds l)

-- ---- the clause of a form
no_terms : (ts : List Term) → length ts ≡ 0 → is_empty ts ≡ true
unfolding plan_definitions
no_terms [] h = refl
no_terms (t ∷ ts) h = absurd (omega (arith, h))

some_terms : (ts : List Term) → (length ts ≡ 0 → ⊥) → is_empty ts ≡ false
unfolding plan_definitions
some_terms [] h = absurd (h refl)
some_terms (t ∷ ts) h = refl

module _ (r : Rules) (a : Linear) where
  pub without_terms : length a.terms ≡ 0 → no_clause r a ≡ []
  unfolding definitions
  without_terms h = ap (λ e. cond e [] (cond (list_any (keeps a) r.clauses) [] (NoClause ∷ []))) (no_terms a.terms h)

  module _ (v : Bool) (is : v ≡ list_any (keeps a) r.clauses) where
    pub has_its_clause : v ≡ true → no_clause r a ≡ []
    unfolding definitions
    has_its_clause h = go (is_empty a.terms)
      where
        go : (e : Bool) → cond e [] (cond (list_any (keeps a) r.clauses) [] (NoClause ∷ [])) ≡ []
        go true = refl
        go false = ap (λ w. cond w [] (NoClause ∷ [])) (sym is ∙ h)

    pub lacks_its_clause : (length a.terms ≡ 0 → ⊥) → v ≡ false → StopsAt (no_clause r a) (stop.Fault NoClause)
    unfolding definitions
    lacks_its_clause some h =
        ([], ap (λ e. cond e [] (cond (list_any (keeps a) r.clauses) [] (NoClause ∷ []))) (some_terms a.terms some) ∙ ap (λ w. cond w [] (NoClause ∷ [])) (sym is ∙ h))

pub one_is_small : IsSmall form_limit (pos 1)
unfolding meaning_definitions
one_is_small = omega arith
