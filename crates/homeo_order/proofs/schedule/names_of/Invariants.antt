use Rattle.std.proofs.Common.{◌≡◌, map, take}
use Rattle.homeo_syntax.specs.SourceView.{plain_client}
use Rattle.homeo_order.proofs.schedule.names_of.Given as goal

abbrev pub invariant-loop-client : goal.invariant-loop-client
invariant-loop-client l = l.names.items ≡ map (λ c. c.name.name) (map plain_client (take l.client-index l.clients))
