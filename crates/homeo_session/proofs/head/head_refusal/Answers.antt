use Rattle.std.proofs.Common.{Err, refl, ap}
use Rattle.std.proofs.lemmas.Option.{same_Some}
use Rattle.homeo_syntax.specs.SourceView.{plain_workload}
use Rattle.homeo_meaning.specs.Initial.{initial}
use Rattle.homeo_frames.specs.LastLines.{without_last_line}
use Rattle.homeo_session.proofs.Keeping.{head_taken, head_refused}
use Rattle.homeo_session.proofs.head.head_refusal.Goals as goal

pub returns-in-Ok-clause-taken : goal.returns-in-Ok-clause-taken
returns-in-Ok-clause-taken c = λ none.
    let w = plain_workload c.in-Ok.w in
    (record { text = without_last_line c.args.frame.now; database = initial w }, head_taken c.args.frame.now (without_last_line c.args.frame.now) (initial w) w c.in-Ok.ensures.accepted refl refl)

pub returns-in-Err-Refused-clause-refused : goal.returns-in-Err-Refused-clause-refused
returns-in-Err-Refused-clause-refused c = λ r some.
    head_refused c.args.frame.now c.in-Err-Refused.refusal r (c.in-Err-Refused.ensures.refused c.in-Err-Refused.refusal (ap Err c.in-Err-Refused.field-0-is)) (same_Some c.in-Err-Refused.refusal r some)
