-- A term over whole objects stands for a delta at each site, so all terms of a clause are on those of a site.
use Rattle.std.proofs.Common.{◌≡◌, ℕ, zero, suc, ◌==◌, ◌+◌, ◌<◌, ◌≤◌, Bool, true, false, cond, List, [], ◌∷◌, ◌++◌, map, ℤ, refl, ap, ap₂, ◌∙◌, arith}
use Rattle.std.proofs.lemmas.Bool.Decides.{nat_tests}
use Rattle.homeo_plan.specs.Key.{definitions as plan_definitions}
use Rattle.homeo_plan.specs.declared.forms.Term.{Term}
use Rattle.homeo_follow.specs.Key.{definitions as follow_definitions}
use Rattle.homeo_follow.specs.Expanded.{terms_from, expanded_terms}
use Rattle.homeo_site.specs.Key.{definitions}
use Rattle.homeo_site.specs.OwnTreaty.{own_term, OwnTerm, own_terms}

own_append : (i : ℕ) (ts us : List Term) → own_terms i (ts ++ us) ≡ own_terms i ts ++ own_terms i us
unfolding definitions
own_append i [] us = refl
own_append i (t ∷ ts) us = go (t.delta.site == i) (own_append i ts us)
  where
    one : OwnTerm
    one = record { object = t.delta.object; factor = t.factor }

    go :
        (v : Bool) → own_terms i (ts ++ us) ≡ own_terms i ts ++ own_terms i us →
        cond v (one ∷ own_terms i (ts ++ us)) (own_terms i (ts ++ us)) ≡ cond v (one ∷ own_terms i ts) (own_terms i ts) ++ own_terms i us
    go true ih = ap (λ os. one ∷ os) ih
    go false ih = ih

-- ---- one object
module _ (i x : ℕ) (f : ℤ) where
  abbrev one : OwnTerm
  one = record { object = x; factor = f }

  -- none of its deltas at n sites past site i is the site's
  past : (j n : ℕ) → i < j → own_terms i (terms_from j n x f) ≡ []
  unfolding definitions plan_definitions follow_definitions
  past j zero h = refl
  past j (suc n) h =
      let apart : (j == i) ≡ false = grind (arith, nat_tests, h) in
      let rest : List OwnTerm = own_terms i (terms_from (suc j) n x f) in
      ap (λ v. cond v (one ∷ rest) rest) apart ∙ past (suc j) n (omega (arith, h))

  -- and one at n sites that it is among
  here : (j n : ℕ) → j ≤ i → i < j + n → own_terms i (terms_from j n x f) ≡ one ∷ []
  unfolding definitions plan_definitions follow_definitions
  here j zero h l = absurd (omega (arith, h, l))
  here j (suc n) h l = go (j == i) refl (λ (less : suc j ≤ i). here (suc j) n less (omega (arith, l)))
    where
      rest : List OwnTerm
      rest = own_terms i (terms_from (suc j) n x f)

      go : (v : Bool) → (j == i) ≡ v → (suc j ≤ i → rest ≡ one ∷ []) → cond v (one ∷ rest) rest ≡ one ∷ []
      go true q ih =
          let same : j ≡ i = grind (arith, nat_tests, q) in
          ap (λ os. one ∷ os) (past (suc j) n (omega (arith, same)))
      go false q ih = ih (grind (arith, nat_tests, q, h))

-- ---- one object after another
pub own_all : (k i : ℕ) → i < k → (ts : List Term) → own_terms i (expanded_terms k ts) ≡ map own_term ts
unfolding definitions follow_definitions
own_all k i lt [] = refl
own_all k i lt (t ∷ ts) =
    own_append i (terms_from 0 k t.delta.object t.factor) (expanded_terms k ts)
    ∙ ap₂ ◌++◌ (here i t.delta.object t.factor 0 k (omega arith) (omega (arith, lt))) (own_all k i lt ts)
