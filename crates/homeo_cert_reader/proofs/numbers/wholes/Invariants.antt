-- The items so far are read.
use Rattle.serde_json.specs.View.{view}
use Rattle.homeo_certificate.specs.Json.{whole_data}
use Rattle.homeo_certificate.specs.Shape.{IsWord}
use Rattle.homeo_cert_reader.proofs.ReadLists.{Front}
use Rattle.homeo_cert_reader.proofs.numbers.wholes.Given as goal

abbrev pub invariant-loop-item : goal.invariant-loop-item
invariant-loop-item l = Front IsWord whole_data view l.items l.item-index l.numbers.items
