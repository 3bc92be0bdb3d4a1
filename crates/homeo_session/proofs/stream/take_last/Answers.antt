use Rattle.std.proofs.Common.{◌∙◌, ℕ, List, [], Result, Ok, Err, IfOk, refl, sym, ap, append-nil, length, ◌==◌, true≢false}
use Rattle.homeo_session.proofs.Taking.{last_batch, last_head}
use Rattle.homeo_session.proofs.stream.take_last.Goals as goal

-- what holds of an Ok result
ok_more : {A E : Type 0} (P Q : A → Type 0) (x : Result A E) → ((a : A) → P a → Q a) → IfOk x P → IfOk x Q
ok_more P Q (Ok a) f h = f a h
ok_more P Q (Err e) f h = h

pub returns-in_ok-answer-in-Some-clause-answered : goal.returns-in_ok-answer-in-Some-clause-answered
returns-in_ok-answer-in-Some-clause-answered c = λ none.
    let answer = c.in_ok-answer-in-Some.ensures in
    (answer.0, answer.1, last_batch c.args.head c.in-Some.before c.in_ok-answer-in-Some.field-0 c.args.rest.now answer.0 c.in-Some.is (λ e. true≢false (sym (ap (λ (l : List ℕ). length l == 0) e) ∙ sym c.is_empty.ensures ∙ c.if-not-is_empty.true)) answer.2)

pub returns-in-None-clause-answered : goal.returns-in-None-clause-answered
returns-in-None-clause-answered c =
    ok_more _ _ c.head_refusal.result (λ stop taken none. let head = taken none in ([], sym (append-nil _), last_head c.args.head head.0 c.args.rest.now c.in-None.is head.1)) c.head_refusal.ensures.taken

pub returns-in-None-clause-refused : goal.returns-in-None-clause-refused
returns-in-None-clause-refused c = λ r.
    ok_more _ _ c.head_refusal.result (λ stop refused some. (refl, c.in-None.is, refused some)) (c.head_refusal.ensures.refused r)
