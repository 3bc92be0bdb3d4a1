use Rattle.std.proofs.Common.{rules}
use Rattle.std.proofs.lemmas.Result.{IfOk-weaker}
use Rattle.serde_json.specs.View.{view}
use Rattle.homeo_certificate.specs.Json.{wholes_data}
use Rattle.homeo_certificate.specs.Shape.{BoundsInShape}
use Rattle.homeo_cert_reader.proofs.ReadLists.{row, each, list_gave}
use Rattle.homeo_cert_reader.proofs.clauses.read_all_bounds.Goals as goal

pub returns : goal.returns
returns c =
    IfOk-weaker c.read_list.result _ _ (λ o h. list_gave (BoundsInShape c.args.sites) wholes_data (each row) view _ (λ d x k. search rules) (λ d k. search rules) (λ l. l.items) _ o h)
    c.read_list.ensures
