use Rattle.std.proofs.Common.{◌≡◌, ◌∙◌, [], Err, None, refl, sym, ap, append-nil}
use Rattle.std.proofs.lemmas.Option.{same_Some}
use Rattle.homeo_session.proofs.Keeping.{taken_answer, head_refused}
use Rattle.homeo_session.proofs.stream.take_frame.Goals as goal

pub returns-in_ok-of-in-Ok-clause-answered : goal.returns-in_ok-of-in-Ok-clause-answered
returns-in_ok-of-in-Ok-clause-answered c = λ _.
    let none : c.args.head.now ≡ None = let taken = c.take.ensures.value in let is = c.in-None.is in cc in
    ([], sym (append-nil _), taken_answer c.args.head.now c.in_ok-of-in-Ok.field-0 c.args.frame.now none c.in_ok-of-in-Ok.ensures)

pub returns-in-Err-Refused-clause-refused : goal.returns-in-Err-Refused-clause-refused
returns-in-Err-Refused-clause-refused c = λ r some.
    let none : c.args.head.now ≡ None = let taken = c.take.ensures.value in let is = c.in-None.is in cc in (
      refl,
      none,
      head_refused c.args.frame.now c.in-Err-Refused.refusal r (c.in-Err-Refused.ensures.refused c.in-Err-Refused.refusal (ap Err c.in-Err-Refused.field-0-is)) (sym c.in-Err-Refused.refusal-is ∙ same_Some _ r some),
    )
