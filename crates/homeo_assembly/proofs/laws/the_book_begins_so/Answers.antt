use Rattle.homeo_assembly.proofs.ClosingEvents.{book_start}
use Rattle.homeo_assembly.proofs.laws.the_book_begins_so.Goals as goal

pub returns : goal.returns
returns c = book_start
