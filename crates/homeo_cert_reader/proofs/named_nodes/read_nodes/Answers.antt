use Rattle.std.proofs.Common.{rules}
use Rattle.std.proofs.lemmas.Result.{IfOk-weaker}
use Rattle.serde_json.specs.View.{view}
use Rattle.homeo_certificate.specs.Json.{node_data}
use Rattle.homeo_certificate.specs.NodeShapes.{NodeInShape}
use Rattle.homeo_cert_reader.proofs.ReadLists.{plain, list_gave}
use Rattle.homeo_cert_reader.proofs.named_nodes.read_nodes.Goals as goal

pub returns : goal.returns
returns c =
    IfOk-weaker c.read_list.result _ _ (λ o h. list_gave (NodeInShape c.args.extents.objects c.args.extents.sites) node_data plain view _ (λ d x k. search rules) (λ d k. search rules) (λ l. l.items) _ o h)
    c.read_list.ensures
