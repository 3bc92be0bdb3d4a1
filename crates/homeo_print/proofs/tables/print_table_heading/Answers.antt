use Rattle.std.proofs.Common.{rules, append_assoc}
use Rattle.homeo_print.specs.Key.{definitions}
use Rattle.homeo_print.proofs.tables.print_table_heading.Goals as goal

pub returns : goal.returns
unfolding definitions
returns c = search (rules, append_assoc)
