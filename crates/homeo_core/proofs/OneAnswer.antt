-- Answers to one client: of one answer, and of one entry more.
use Rattle.homeo_history.specs.Key.{definitions as history_definitions}
use Rattle.homeo_core.specs.Key.{definitions}
use Rattle.std.proofs.Common.{◌≡◌, ℕ, zero, suc, List, [], ◌∷◌, ◌++◌, map, eqb, false, Some, refl, sym, ap, subst, ◌∙◌, arith}
use Rattle.std.specs.Prelude.{slice_get, slice_set}
use Rattle.std.proofs.lemmas.List.{map-append}
use Rattle.std.proofs.lemmas.Bool.Decides.{nat_tests}
use Rattle.homeo_history.specs.Answers.{Answer, local_answer, local_answers, answers_of, answers_to}
use Rattle.homeo_history.specs.History.{Entry, Round}
use Rattle.homeo_history.specs.Legal.{calls_of, numbers_of}
use Rattle.homeo_history.proofs.AnswerLists.{answers_to_more, called_all, numbers_called}
use Rattle.homeo_history.proofs.ClientAnswers.{none_to}
use Rattle.homeo_history.proofs.Lists.{all_from_get}
use Rattle.homeo_site.specs.SiteState.{SiteState}
use Rattle.homeo_core.specs.Joined.{segments_of}

pub not_same : (m n : ℕ) → m ≡ n → eqb m n ≡ false → ⊥
not_same m n h f = grind (arith, nat_tests)

-- an answer to another client
pub not_to : (client : ℕ) (a : Answer) → (a.client ≡ client → ⊥) → answers_to client (a ∷ []) ≡ []
not_to client a other = none_to client (a ∷ []) (all_from_get (λ (x : Answer). x.client ≡ client → ⊥) (a ∷ []) one)
  where
    one : (i : ℕ) (x : Answer) → slice_get (a ∷ []) i ≡ Some x → x.client ≡ client → ⊥
    one zero x e = let same : a ≡ x = cc in subst (λ (y : Answer). y.client ≡ client → ⊥) same other
    one (suc i) x e = absurd (cc)

-- the client's answers stay where one site's segment changes and has no other answers to the client
pub others_stay : (client round k home : ℕ) (sites : List SiteState) (x y : SiteState) → slice_get sites home ≡ Some x → ((site : ℕ) → answers_to client (map (local_answer round site) y.segment) ≡ answers_to client (map (local_answer round site) x.segment)) → answers_to client (local_answers round k (segments_of (slice_set sites home y))) ≡ answers_to client (local_answers round k (segments_of sites))
unfolding definitions history_definitions
others_stay client round k home [] x y e same = refl
others_stay client round k zero (z ∷ sites) x y e same =
    let is : x ≡ z = cc in
    answers_to_more client (map (local_answer round k) y.segment) (local_answers round (suc k) (segments_of sites))
    ∙ ap (λ xs. xs ++ answers_to client (local_answers round (suc k) (segments_of sites))) (same k ∙ ap (λ (v : SiteState). answers_to client (map (local_answer round k) v.segment)) is)
    ∙ sym (answers_to_more client (map (local_answer round k) z.segment) (local_answers round (suc k) (segments_of sites)))
others_stay client round k (suc home) (z ∷ sites) x y e same =
    answers_to_more client (map (local_answer round k) z.segment) (local_answers round (suc k) (segments_of (slice_set sites home y)))
    ∙ ap (λ xs. answers_to client (map (local_answer round k) z.segment) ++ xs) (others_stay client round (suc k) home sites x y e same)
    ∙ sym (answers_to_more client (map (local_answer round k) z.segment) (local_answers round (suc k) (segments_of sites)))

pub one_more_entry : (client round site : ℕ) (es : List Entry) (e : Entry) → answers_to client (map (local_answer round site) (es ++ e ∷ [])) ≡ answers_to client (map (local_answer round site) es) ++ answers_to client (local_answer round site e ∷ [])
unfolding history_definitions
one_more_entry client round site es e =
    ap (answers_to client) (map-append (local_answer round site) es (e ∷ []))
    ∙ answers_to_more client (map (local_answer round site) es) (local_answer round site e ∷ [])

pub numbers_are : (client : ℕ) (rounds : List Round) → numbers_of client (calls_of rounds) ≡ map (λ a. a.seq) (answers_to client (answers_of 0 rounds))
numbers_are client rounds =
    ap (numbers_of client) (sym (called_all 0 rounds)) ∙ numbers_called client (answers_of 0 rounds)
