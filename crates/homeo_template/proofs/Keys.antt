-- Keys tell clauses apart as the definition does, and the set of them stays beside the clauses.
use Rattle.homeo_plan.specs.Key.{definitions}
use Rattle.std.proofs.Common.{◌≡◌, ℤ, Bool, true, false, cond, ◌&&◌, ◌==◌, List, [], ◌∷◌, ◌++◌, map, length, refl, ap, ◌∙◌, arith}
use Rattle.std.specs.Prelude.{neg_ℤ, ◌||◌, if◌then◌else◌}
use Rattle.std.specs.Ordering.{int_eq}
use Rattle.std.specs.List.{list_any}
use Rattle.std.specs.Cmp.Lexicographic.{pointwise}
use Rattle.std.proofs.lemmas.Bool.Decides.{nat_tests}
use Rattle.std.proofs.lemmas.List.{map_push}
use Rattle.homeo_plan.specs.declared.forms.Term.{Term}
use Rattle.homeo_plan.specs.declared.forms.Linear as forms
use Rattle.homeo_plan.specs.PlanView.{plain_linear}
use Rattle.homeo_plan.specs.Linear.{Linear, is_empty}
use Rattle.homeo_plan.specs.Template as template
use Rattle.homeo_plan.specs.Template.{clause_of, same_clause, with_clause}
use Rattle.homeo_follow.proofs.TermTests.{term_test, same-terms}
use Rattle.homeo_template.specs.declared.key.Key.{Key}
use Rattle.homeo_template.specs.inner.Keys.{clause_at}

-- the tests of the code
abbrev pub same_key : Key → Key → Bool
same_key a b = pointwise term_test a.terms.now b.terms.now && int_eq a.slack b.slack

same-key : (a b : Key) → same_key a b ≡ same_clause (clause_at a) (clause_at b)
unfolding definitions
same-key a b = ap (λ c. c && int_eq a.slack b.slack) (same-terms a.terms.now b.terms.now)

any-keys : (k : Key) (ks : List Key) → list_any (same_key k) ks ≡ list_any (same_clause (clause_at k)) (map clause_at ks)
any-keys k [] = refl
any-keys k (j ∷ ks) = λ i. same-key k j i || any-keys k ks i

-- a clause behind the others, unless it is there
abbrev pub after : template.Clause → List template.Clause → List template.Clause
after c cs = if list_any (same_clause c) cs then cs else cs ++ c ∷ []

pub key_put : (ks : List Key) (k : Key) → map clause_at (if list_any (same_key k) ks then ks else ks ++ k ∷ []) ≡ after (clause_at k) (map clause_at ks)
key_put ks k =
    go (list_any (same_key k) ks)
    ∙ ap (λ (b : Bool). if b then map clause_at ks else map clause_at ks ++ clause_at k ∷ []) (any-keys k ks)
  where
    go : (b : Bool) → map clause_at (if b then ks else ks ++ k ∷ []) ≡ (if b then map clause_at ks else map clause_at ks ++ clause_at k ∷ [])
    go true = refl
    go false = map_push clause_at ks k

-- ---- an atom's clause
pub no_clause : (cs : List template.Clause) (a : Linear) → (length a.terms == 0) ≡ true → cs ≡ with_clause cs a
unfolding definitions
no_clause cs a e = go a.terms e
  where
    go : (ts : List Term) → (length ts == 0) ≡ true → cs ≡ cond (is_empty ts) cs (after (clause_of a) cs)
    go [] e = refl
    go (t ∷ ts) e = absurd (grind (arith, nat_tests))

pub one_clause : (cs : List template.Clause) (a : Linear) → (length a.terms == 0) ≡ false → after (clause_of a) cs ≡ with_clause cs a
unfolding definitions
one_clause cs a e = go a.terms e
  where
    go : (ts : List Term) → (length ts == 0) ≡ false → after (clause_of a) cs ≡ cond (is_empty ts) cs (after (clause_of a) cs)
    go [] e = absurd (cc)
    go (t ∷ ts) e = refl

pub made_key :
    (form : forms.Linear) (terms : List Term) (negated : ℤ) → terms ≡ form.terms.items → negated ≡ neg_ℤ form.constant →
    let c : template.Clause = record { terms = terms; slack = negated } in c ≡ clause_of (plain_linear form)
unfolding definitions
made_key form terms negated e f = λ i. let c : template.Clause = record { terms = e i; slack = f i } in c
