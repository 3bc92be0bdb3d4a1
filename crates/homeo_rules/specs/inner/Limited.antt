-- What comes after as much as there may be.
use Rattle.std.specs.Prelude.{List, [], Option, Some, None}
use Rattle.homeo_syntax.specs.declared.workload.Transaction.{Transaction}
use Rattle.homeo_syntax.specs.declared.workload.Client.{Client}
use Rattle.homeo_meaning.specs.NameRules.{fault}
use Rattle.homeo_meaning.specs.declared.rules.Fault.{Fault}
use Rattle.homeo_meaning.specs.declared.rules.Phase.TheVariants.{Limits}
use Rattle.homeo_ground.specs.declared.sited.SitedCall.{SitedCall}

abbrev pub transaction_passing : Option Transaction → List Fault
transaction_passing None = []
transaction_passing (Some t) = fault Limits t.name

abbrev pub client_passing : Option Client → List Fault
client_passing None = []
client_passing (Some c) = fault Limits c.name

abbrev pub call_passing : Option SitedCall → List Fault
call_passing None = []
call_passing (Some c) = fault Limits c.name
