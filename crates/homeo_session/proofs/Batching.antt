-- A frame has one answer.
use Rattle.std.proofs.Common.{◌≡◌, ◌∙◌, ◌⊎◌, ◌++◌, ℕ, List, length, map, Option, Some, None, sym, ap, subst, arith, inl, inr}
use Rattle.homeo_syntax.specs.declared.workload.Refusal.{Refusal}
use Rattle.homeo_syntax.specs.Source as s
use Rattle.homeo_syntax.specs.Tokens.{Scanned}
use Rattle.homeo_meaning.specs.Key.{definitions as meaning_definitions}
use Rattle.homeo_meaning.specs.declared.call.Purpose.{Purpose}
use Rattle.homeo_meaning.specs.declared.call.Purpose.TheVariants.{Run, Steps}
use Rattle.homeo_meaning.specs.Faults.{IsRefusedBy}
use Rattle.homeo_meaning.specs.Initial.{initial}
use Rattle.homeo_meaning.specs.Verdict.{IsRefused}
use Rattle.homeo_history.specs.History.{History}
use Rattle.homeo_history.specs.Legal.{IsLegalFrom}
use Rattle.homeo_history.specs.Follows.{Follows}
use Rattle.homeo_history.proofs.OneHistories.{one_history}
use Rattle.homeo_reader.proofs.Unread.{one_reading, unread, one_refusal as one_unread, same_parts}
use Rattle.homeo_reader.specs.Stands.{EndsLexeme}
use Rattle.homeo_rules.proofs.OneDecides.{one_refusal as one_broken}
use Rattle.homeo_accept.specs.RefusalLine.{refusal_line}
use Rattle.homeo_accept.proofs.Decided.{accepted_not_refused}
use Rattle.homeo_order.specs.Order.{scheduled_calls}
use Rattle.homeo_report.specs.Report.{report}
use Rattle.homeo_frames.specs.LastLines.{without_last_line}
use Rattle.homeo_session.specs.Key.{definitions}
use Rattle.homeo_session.specs.Batches.{HeadValue, RefusesHead, TakesHead, IsBatch, BeginsWrong, IsServedBatch, AnswersBatch, IsAnswered}

-- a text is refused in one way
one_refused : (text : List ℕ) (purpose : Purpose) (r q : Refusal) → IsRefused text purpose r → IsRefused text purpose q → r ≡ q
unfolding meaning_definitions
one_refused text purpose r q (inl h) (inl k) = same_parts r q (h.code ∙ sym k.code) (h.offset ∙ sym k.offset)
one_refused text purpose r q (inl h) (inr (short, k)) = absurd (omega (arith, h.long, short))
one_refused text purpose r q (inr (short, h)) (inl k) = absurd (omega (arith, k.long, short))
one_refused text purpose r q (inr (s1, inl h)) (inr (s2, inl k)) = one_unread text r q h k
one_refused text purpose r q (inr (s1, inl h)) (inr (s2, inr k)) = absurd (unread text r k.workload h k.reads)
one_refused text purpose r q (inr (s1, inr h)) (inr (s2, inl k)) = absurd (unread text q h.workload k h.reads)
one_refused text purpose r q (inr (s1, inr h)) (inr (s2, inr k)) =
    let same : k.workload ≡ h.workload = one_reading text k.workload h.workload k.reads h.reads in
    one_broken purpose h.workload r q h.refused (subst (λ w. IsRefusedBy purpose w q) same k.refused)

-- ---- the head
pub one_taken : (frame : List ℕ) (x y : HeadValue) → TakesHead frame x → TakesHead frame y → x ≡ y
one_taken frame x y h k =
    let same : h.workload ≡ k.workload = one_reading frame h.workload k.workload h.accepted.reads k.accepted.reads in
    h.is ∙ ap (λ w. let z : HeadValue = record { text = without_last_line frame; database = initial w } in z) same ∙ sym k.is

pub one_refusal : (frame : List ℕ) (r q : Refusal) → RefusesHead frame r → RefusesHead frame q → r ≡ q
unfolding definitions
one_refusal frame r q h k = one_refused frame Run r q h k

pub taken_not_refused : (frame : List ℕ) (x : HeadValue) (r : Refusal) → TakesHead frame x → RefusesHead frame r → ⊥
unfolding definitions
taken_not_refused frame x r h k = accepted_not_refused frame Run h.workload r h.accepted k

-- ---- batches
same_first : (head : HeadValue) (frame : List ℕ) (v w : s.Workload) (f g : Scanned) → IsBatch head frame v f → IsBatch head frame w g → f ≡ g
same_first head frame v w f g h k = let p = h.begins in let q = k.begins in cc

abbrev Refuses : HeadValue → List ℕ → Refusal → Type 0
Refuses head frame r = IsRefused (head.text ++ frame) Steps r ⊎ BeginsWrong head frame r

one_line : (head : HeadValue) (frame : List ℕ) (r q : Refusal) → Refuses head frame r → Refuses head frame q → r ≡ q
one_line head frame r q (inl h) (inl k) = one_refused (head.text ++ frame) Steps r q h k
one_line head frame r q (inl h) (inr k) = absurd (accepted_not_refused (head.text ++ frame) Steps k.workload r k.batch.accepted h)
one_line head frame r q (inr h) (inl k) = absurd (accepted_not_refused (head.text ++ frame) Steps h.workload q h.batch.accepted k)
one_line head frame r q (inr h) (inr k) =
    h.is ∙ ap (λ (f : Scanned). let x : Refusal = record { code = 15; offset = f.offset } in x) (same_first head frame h.workload k.workload h.first k.first h.batch k.batch) ∙ sym k.is

refused_not_served : (head next : HeadValue) (frame answer : List ℕ) (r : Refusal) → Refuses head frame r → IsServedBatch head frame answer next → ⊥
refused_not_served head next frame answer r (inl h) k = accepted_not_refused (head.text ++ frame) Steps k.workload r k.batch.accepted h
refused_not_served head next frame answer r (inr h) k =
    h.other (subst (λ (f : Scanned). EndsLexeme f.lexeme) (same_first head frame k.workload h.workload k.first h.first k.batch h.batch) k.right)

one_served :
    (head next other : HeadValue) (frame answer answer' : List ℕ) → IsServedBatch head frame answer next → IsServedBatch head frame answer' other →
    (answer ≡ answer') × (next ≡ other)
one_served head next other frame answer answer' h k =
    let same : k.workload ≡ h.workload = one_reading (head.text ++ frame) k.workload h.workload k.batch.accepted.reads h.batch.accepted.reads in
    let legal = subst (λ (w : s.Workload). IsLegalFrom w head.database (map (λ client. length client.calls) w.clients) k.history) same k.legal in
    let follows = subst (λ (w : s.Workload). Follows w k.history (scheduled_calls w)) same k.follows in
    let histories : h.history ≡ k.history = one_history h.workload head.database _ h.history k.history (scheduled_calls h.workload) h.legal legal h.follows follows in (
      h.answer_is ∙ ap (report h.workload) histories ∙ ap (λ w. report w k.history) (sym same) ∙ sym k.answer_is,
      h.after ∙ ap (λ (x : History). let z : HeadValue = record { text = head.text; database = x.last } in z) histories ∙ sym k.after,
    )

pub one_batch :
    (head next other : HeadValue) (frame answer answer' : List ℕ) → AnswersBatch head frame answer next → AnswersBatch head frame answer' other →
    (answer ≡ answer') × (next ≡ other)
unfolding definitions
one_batch head next other frame answer answer' (inl h) (inl k) =
    (h.answer_is ∙ ap refusal_line (one_line head frame h.refusal k.refusal h.refused k.refused) ∙ sym k.answer_is, h.stays ∙ sym k.stays)
one_batch head next other frame answer answer' (inl h) (inr k) = absurd (refused_not_served head other frame answer' h.refusal h.refused k)
one_batch head next other frame answer answer' (inr h) (inl k) = absurd (refused_not_served head next frame answer k.refusal k.refused h)
one_batch head next other frame answer answer' (inr h) (inr k) = one_served head next other frame answer answer' h k

-- ---- frames
pub one_answer :
    (head : Option HeadValue) (frame answer answer' : List ℕ) (t u : Option HeadValue) → IsAnswered head frame answer t → IsAnswered head frame answer' u →
    (answer ≡ answer') × (t ≡ u)
one_answer None frame answer answer' t u (e, x, p, q) (f, y, r, z) = (e ∙ sym f, q ∙ ap Some (one_taken frame x y p r) ∙ sym z)
one_answer (Some head) frame answer answer' t u (x, p, q) (y, r, z) =
    let one = one_batch head x y frame answer answer' p r in
    (one.0, q ∙ ap Some one.1 ∙ sym z)

-- the head is there after a frame
pub head_there : (head : Option HeadValue) (frame answer : List ℕ) (t : Option HeadValue) → IsAnswered head frame answer t → (there : HeadValue) × (t ≡ Some there)
head_there None frame answer t (e, x, p, q) = (x, q)
head_there (Some head) frame answer t (x, p, q) = (x, q)

-- a head that is refused isn't answered
pub refused_answer : (head t : Option HeadValue) (frame answer : List ℕ) (r : Refusal) → head ≡ None → RefusesHead frame r → IsAnswered head frame answer t → ⊥
refused_answer None t frame answer r none refused (e, x, p, q) = taken_not_refused frame x r p refused
refused_answer (Some head) t frame answer r none refused h = absurd (cc)
