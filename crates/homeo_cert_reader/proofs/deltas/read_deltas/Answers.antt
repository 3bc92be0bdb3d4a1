use Rattle.std.proofs.Common.{rules}
use Rattle.std.proofs.lemmas.Result.{IfOk-weaker}
use Rattle.serde_json.specs.View.{view}
use Rattle.homeo_certificate.specs.Shape.{DeltaInShape}
use Rattle.homeo_certificate.specs.Text.{delta_data}
use Rattle.homeo_cert_reader.proofs.ReadLists.{plain, list_gave}
use Rattle.homeo_cert_reader.proofs.deltas.read_deltas.Goals as goal

pub returns : goal.returns
returns c =
    IfOk-weaker c.read_list.result _ _ (λ o h. list_gave (DeltaInShape c.args.extents.objects c.args.extents.sites) delta_data plain view _ (λ d x k. search rules) (λ d k. search rules) (λ l. l.items) _ o h)
    c.read_list.ensures
