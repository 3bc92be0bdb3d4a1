-- The law follows from what is known of each rule.
use Rattle.homeo_print_workload.proofs.ReadingBack.{printable, reads_back}
use Rattle.homeo_print_workload.proofs.laws.reading_back.Goals as goal

pub returns-clause-printable : goal.returns-clause-printable
returns-clause-printable c = printable

pub returns-clause-reads : goal.returns-clause-reads
returns-clause-reads c = reads_back
