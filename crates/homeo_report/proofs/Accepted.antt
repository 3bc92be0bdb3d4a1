-- Of an accepted workload a report tells the history.
use Rattle.homeo_syntax.specs.Source as s
use Rattle.homeo_meaning.specs.Key.{definitions as meaning_definitions}
use Rattle.homeo_meaning.specs.Acceptance.{IsAccepted}
use Rattle.homeo_meaning.specs.declared.call.Purpose.TheVariants.{Run}
use Rattle.homeo_meaning.proofs.FaultParts.{parts}
use Rattle.homeo_meaning.proofs.SoundRelations.{globals-apart}
use Rattle.homeo_report.specs.Laws.{OneReport}
use Rattle.homeo_report.proofs.CallsTold.{HasDistinctClients}
use Rattle.homeo_report.proofs.Names.{plain_names, distinct_clients}
use Rattle.homeo_report.proofs.OneReport.{one_report}

clients_apart : (w : s.Workload) → IsAccepted w → HasDistinctClients w
unfolding meaning_definitions
clients_apart w accepted =
    distinct_clients w accepted.well_formed (globals-apart w (parts Run w accepted.rules).text.names)

pub report_law : OneReport
report_law w h g accepted = one_report w (plain_names w accepted.well_formed) (clients_apart w accepted) h g
