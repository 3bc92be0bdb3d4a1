use Rattle.std.proofs.Common.{ap, Err}
use Rattle.homeo_commands.proofs.Decided.{refuses_long}
use Rattle.homeo_commands.proofs.output.text_of.Goals as goal

pub returns-in-Err-TooLong-clause-refused : goal.returns-in-Err-TooLong-clause-refused
returns-in-Err-TooLong-clause-refused g c = λ r is text told.
    let taken = c.in-Err-TooLong.ensures.too_long c.in-Err-TooLong.field-0-0 (ap Err c.in-Err-TooLong.field-0-is) in
    refuses_long _ _ text _ r told taken.1 cc
