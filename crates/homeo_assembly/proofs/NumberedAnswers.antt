-- Answers to a client that are numbered 1, 2 and so on, and one more.
use Rattle.homeo_history.specs.Key.{definitions as history_definitions}
use Rattle.homeo_assembly.specs.Key.{definitions}
use Rattle.std.proofs.Common.{◌≡◌, ℕ, suc, ◌+◌, List, [], ◌∷◌, ◌++◌, map, length, Bool, true, false, cond, eqb, refl, sym, ap, subst, ◌∙◌, arith}
use Rattle.std.specs.List.{range_with_len}
use Rattle.std.proofs.lemmas.List.{append-nil, map-append, length_push}
use Rattle.std.proofs.lemmas.Bool.{eqb-true}
use Rattle.homeo_lemmas.proofs.Lists.{range_more}
use Rattle.homeo_syntax.specs.Source as s
use Rattle.homeo_history.specs.Answers.{Answer, answers_to}
use Rattle.homeo_history.specs.Legal.{IsClientAt}
use Rattle.homeo_assembly.specs.Events.{IsNext}

abbrev pub AreNumbered : List Answer → Type 0
AreNumbered answers = map (λ a. a.seq) answers ≡ range_with_len 1 (length answers)

-- where the answer is one of these
numbered_if :
    (a : Answer) (done : List Answer) (b : Bool) → (b ≡ true → a.seq ≡ suc (length done)) → AreNumbered done →
    AreNumbered (done ++ cond b (a ∷ []) [])
numbered_if a done true next e =
    let seq : a.seq ≡ suc (length done) = next refl in
    let number : a.seq ≡ 1 + length done = omega (arith, seq) in
    let long : length (done ++ a ∷ []) ≡ length done + 1 = length_push done a in
    let many : suc (length done) ≡ length (done ++ a ∷ []) = omega (arith, long) in
    map-append (λ (x : Answer). x.seq) done (a ∷ [])
    ∙ ap (λ ns. ns ++ a.seq ∷ []) e
    ∙ ap (λ n. range_with_len 1 (length done) ++ n ∷ []) number
    ∙ sym (range_more 1 (length done))
    ∙ ap (range_with_len 1) many
numbered_if a done false next e = subst AreNumbered (sym (append-nil done)) e

pub numbered_more :
    (w : s.Workload) (site client : ℕ) (a : Answer) (done : ℕ → List Answer) (new : List Answer) → IsClientAt w site client →
    IsNext w site a done → new ≡ done client ++ answers_to client (a ∷ []) → AreNumbered (done client) → AreNumbered new
unfolding definitions history_definitions
numbered_more w site client a done new own next more e =
    subst AreNumbered (sym more) (numbered_if a (done client) (eqb a.client client) seq e)
  where
    seq : eqb a.client client ≡ true → a.seq ≡ suc (length (done client))
    seq t =
        let same : a.client ≡ client = eqb-true a.client client t in
        next (subst (IsClientAt w site) (sym same) own) ∙ ap (λ c. suc (length (done c))) same
