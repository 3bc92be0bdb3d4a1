use Rattle.std.proofs.Common.{rules, ◌≡◌, map, MatchOption, refl, subst}
use Rattle.serde_json.specs.View.{view}
use Rattle.homeo_meaning.proofs.Numbers.{kept_is}
use Rattle.homeo_plan.specs.Each.{Each}
use Rattle.homeo_plan.specs.Linear.{AreInOrder, deltas_of}
use Rattle.homeo_plan.specs.PlanView.{plain_clause}
use Rattle.homeo_certificate.specs.Json.{list_data}
use Rattle.homeo_certificate.specs.Shape.{TermInShape}
use Rattle.homeo_certificate.specs.Text.{term_data}
use Rattle.homeo_cert_reader.proofs.ClausesRead.{of_parts, clause_read}
use Rattle.homeo_cert_reader.proofs.ReadLists.{read_some}
use Rattle.homeo_cert_reader.proofs.clauses.read_clause.Goals as goal

pub returns-in-Some-2 : goal.returns-in-Some-2
returns-in-Some-2 c =
    let n = c.args.extents.objects in
    let k = c.args.extents.sites in
    let got = read_some (Each (TermInShape n k)) (λ ts. list_data (map term_data ts)) (view c.in-Some.list.now) _
    c.in_ok-terms.field-0 c.in-Some-2.terms c.in-Some-2.is c.in_ok-terms.ensures in
    let slack = c.in-Some-whole.slack in
    let ts = c.in-Some-2.terms.items in
    let rising = subst (λ z. MatchOption c.clause_in_order.result (AreInOrder (deltas_of ts) → ⊥) (λ x. AreInOrder (deltas_of ts) × (plain_clause x ≡ of_parts z ts)))
    (kept_is slack slack (search rules) refl) c.clause_in_order.ensures in
    clause_read n k (view c.args.value.now) (view c.in-Some.slack.now) (view c.in-Some.list.now) c.in-Some.ensures
    slack c.in-Some-whole.ensures.0 c.in-Some-whole.ensures.1 ts got.0 got.1 c.clause_in_order.result rising
