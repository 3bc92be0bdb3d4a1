-- With one answer more, each client's calls stay in order.
use Rattle.homeo_history.specs.Key.{definitions as history_definitions}
use Rattle.homeo_core.specs.Key.{definitions}
use Rattle.std.proofs.Common.{◌≡◌, ℕ, suc, ◌+◌, ◌<◌, ◌≤◌, List, [], ◌∷◌, ◌++◌, map, length, Bool, true, false, cond, eqb, refl, sym, ap, subst, ◌∙◌, arith}
use Rattle.std.specs.Prelude.{slice_set, slice_index_or}
use Rattle.std.specs.List.{range_with_len}
use Rattle.std.proofs.lemmas.List.{append-nil, map-append}
use Rattle.std.proofs.lemmas.Bool.{eqb-true}
use Rattle.homeo_lemmas.proofs.Lists.{range_more}
use Rattle.homeo_syntax.specs.Source as s
use Rattle.homeo_history.specs.Answers.{Answer, answers_of, answers_to}
use Rattle.homeo_history.specs.History.{Round}
use Rattle.homeo_history.specs.Legal.{call_count, calls_of, numbers_of, IsInOrder}
use Rattle.homeo_history.proofs.Lists.{length_set, index_set_same, index_set_other}
use Rattle.homeo_core.specs.Events.{OneMore}
use Rattle.homeo_core.specs.Laws.{CoreOrder}
use Rattle.homeo_core.proofs.OneAnswer.{not_same, not_to, numbers_are}

order_more : (w : s.Workload) (counts : List ℕ) (a : Answer) (old new : List Round) → IsInOrder w counts (calls_of old) → OneMore a old new → a.client < length counts → a.seq ≡ suc (slice_index_or counts a.client 0) → (client : ℕ) (t : Bool) → eqb a.client client ≡ t → numbers_of client (calls_of new) ≡ range_with_len 1 (slice_index_or (slice_set counts a.client a.seq) client 0)
unfolding definitions history_definitions
order_more w counts a old new is more lt seq client true e =
    let same : a.client ≡ client = eqb-true a.client client e in
    let old_numbers : map (λ (x : Answer). x.seq) (answers_to client (answers_of 0 old)) ≡ range_with_len 1 (slice_index_or counts client 0) = sym (numbers_are client old) ∙ is.numbers client in
    let n : ℕ = slice_index_or counts client 0 in
    let seq_is : a.seq ≡ suc n = seq ∙ ap (λ c. suc (slice_index_or counts c 0)) same in
    let seq_number : a.seq ≡ 1 + n = omega (arith, seq_is) in
    let one : answers_to client (a ∷ []) ≡ a ∷ [] = ap (λ t. cond t (a ∷ []) []) e in
    numbers_are client new ∙ ap (map (λ (x : Answer). x.seq)) (more client ∙ ap (λ xs. answers_to client (answers_of 0 old) ++ xs) one)
    ∙ map-append (λ (x : Answer). x.seq) (answers_to client (answers_of 0 old)) (a ∷ [])
    ∙ ap (λ ns. ns ++ a.seq ∷ []) old_numbers
    ∙ ap (λ m. range_with_len 1 n ++ m ∷ []) seq_number
    ∙ sym (range_more 1 n)
    ∙ ap (range_with_len 1) (sym seq_is ∙ sym (index_set_same counts a.client a.seq 0 lt) ∙ ap (λ c. slice_index_or (slice_set counts a.client a.seq) c 0) same)
order_more w counts a old new is more lt seq client false e =
    let other : client ≡ a.client → ⊥ = λ h. not_same a.client client (sym h) e in
    numbers_are client new ∙ ap (map (λ (x : Answer). x.seq)) (more client ∙ ap (λ xs. answers_to client (answers_of 0 old) ++ xs) (not_to client a (λ h. other (sym h))) ∙ append-nil (answers_to client (answers_of 0 old)))
    ∙ sym (numbers_are client old) ∙ is.numbers client
    ∙ ap (range_with_len 1) (sym (index_set_other counts a.client client a.seq 0 other))

exist_more : (w : s.Workload) (counts : List ℕ) (c n : ℕ) → ((client : ℕ) → slice_index_or counts client 0 ≤ call_count w client) → c < length counts → n ≤ call_count w c → (client : ℕ) (t : Bool) → eqb c client ≡ t → slice_index_or (slice_set counts c n) client 0 ≤ call_count w client
exist_more w counts c n old lt bound client true e =
    let same : c ≡ client = eqb-true c client e in
    subst (λ k. slice_index_or (slice_set counts c n) k 0 ≤ call_count w k) same (subst (λ k. k ≤ call_count w c) (sym (index_set_same counts c n 0 lt)) bound)
exist_more w counts c n old lt bound client false e =
    subst (λ k. k ≤ call_count w client) (sym (index_set_other counts c client n 0 (λ h. not_same c client (sym h) e))) (old client)

pub core_order : CoreOrder
unfolding definitions
core_order w counts a old new is more lt seq bound = record {
  clients = length_set counts a.client a.seq ∙ is.clients;
  exist = λ client. exist_more w counts a.client a.seq is.exist lt bound client (eqb a.client client) refl;
  numbers = λ client. order_more w counts a old new is more lt seq client (eqb a.client client) refl;
}
