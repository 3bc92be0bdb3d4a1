use Rattle.std.proofs.Common.{rules}
use Rattle.std.proofs.lemmas.Result.{IfOk-weaker}
use Rattle.serde_json.specs.View.{view}
use Rattle.homeo_plan.specs.PlanView.{plain_clause}
use Rattle.homeo_certificate.specs.Shape.{ClauseInShape}
use Rattle.homeo_certificate.specs.Text.{clause_data}
use Rattle.homeo_cert_reader.proofs.ReadLists.{each, list_gave}
use Rattle.homeo_cert_reader.proofs.clauses.read_clauses.Goals as goal

pub returns : goal.returns
returns c =
    IfOk-weaker c.read_list.result _ _ (λ o h. list_gave (ClauseInShape c.args.extents.objects c.args.extents.sites) clause_data (each plain_clause) view _ (λ d x k. search rules) (λ d k. search rules) (λ l. l.items) _ o h)
    c.read_list.ensures
