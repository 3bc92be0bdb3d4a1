use Rattle.std.proofs.Common.{map}
use Rattle.serde_json.specs.View.{view}
use Rattle.homeo_plan.specs.Each.{Each}
use Rattle.homeo_certificate.specs.Json.{list_data}
use Rattle.homeo_certificate.specs.Shape.{DeltaInShape}
use Rattle.homeo_certificate.specs.Text.{delta_data}
use Rattle.homeo_cert_reader.proofs.FreezesRead.{freezes_read}
use Rattle.homeo_cert_reader.proofs.ReadLists.{read_some}
use Rattle.homeo_cert_reader.proofs.deltas.read_freezes.Goals as goal

pub returns-in-Some : goal.returns-in-Some
returns-in-Some c =
    let n = c.args.extents.objects in
    let k = c.args.extents.sites in
    let got = read_some (Each (DeltaInShape n k)) (λ ds. list_data (map delta_data ds)) (view c.args.value.now) _ c.in_ok-deltas.field-0 c.in-Some.deltas c.in-Some.is c.in_ok-deltas.ensures in
    freezes_read n k (view c.args.value.now) c.in-Some.deltas.items got.0 got.1 c.of.result c.of.ensures
