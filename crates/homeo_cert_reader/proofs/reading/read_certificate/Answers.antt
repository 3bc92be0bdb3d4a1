-- What depends on how many objects and sites there are.
use Rattle.std.proofs.Common.{map, arith, ◌∙◌}
use Rattle.std.proofs.lemmas.List.{length-map}
use Rattle.std.proofs.lemmas.Bool.Decides.{nat_tests}
use Rattle.std.proofs.lemmas.Option.{MatchOption-at_none}
use Rattle.serde_json.specs.View.{view}
use Rattle.homeo_plan.specs.Each.{Each}
use Rattle.homeo_plan.specs.PlanView.{plain_clause}
use Rattle.homeo_certificate.specs.Json.{list_data, wholes_data}
use Rattle.homeo_certificate.specs.Shape.{ClauseInShape, BoundsInShape}
use Rattle.homeo_certificate.specs.Text.{clause_data}
use Rattle.homeo_cert_reader.specs.inner.Reading.{IsBase}
use Rattle.homeo_cert_reader.proofs.CertificatesRead.{no_clauses, no_freezes, no_calls, no_rows}
use Rattle.homeo_cert_reader.proofs.ReadLists.{row, read_some, read_none}
use Rattle.homeo_cert_reader.proofs.reading.read_certificate.Goals as goal

pub returns-in_default-3 : goal.returns-in_default-3
returns-in_default-3 c =
    let base = read_some IsBase wholes_data (view c.in-Some.parts.base.now) _ c.in_ok-base.field-0 c.in-Some-2.base c.in-Some-2.is c.in_ok-base.ensures in
    no_clauses (view c.args.value.now) _ _ _ _ _ _ _ c.in-Some.ensures c.in-Some-read_sites.sites c.in-Some-read_sites.ensures.1 c.in-Some-2.base.items base.1 _ (c.len.ensures ∙ c.in-Some-2.base.ok.0)
    (read_none _ _ _ _ c.in_ok-clauses.field-0 c.in_default-3.is c.in_ok-clauses.ensures)

pub returns-then-len : goal.returns-then-len
returns-then-len c =
    let base = read_some IsBase wholes_data (view c.in-Some.parts.base.now) _ c.in_ok-base.field-0 c.in-Some-2.base c.in-Some-2.is c.in_ok-base.ensures in
    let a = c.len-2.ensures in
    let b = c.len-3.ensures in
    let clauses = read_some (Each (ClauseInShape _ _)) (λ cs. list_data (map clause_data cs)) (view c.in-Some.parts.clauses.now) _ c.in_ok-clauses.field-0 c.in-Some-3.clauses c.in-Some-3.is c.in_ok-clauses.ensures in
    let bounds = read_some (Each (BoundsInShape _)) (λ bs. list_data (map wholes_data bs)) (view c.in-Some.parts.bounds.now) _ c.in_ok-bounds.field-0 c.in-Some-4.bounds c.in-Some-4.is c.in_ok-bounds.ensures in
    no_rows (view c.args.value.now) _ _ _ _ _ _ _ c.in-Some.ensures c.in-Some-read_sites.sites c.in-Some-read_sites.ensures.1 c.in-Some-2.base.items base.1 _ (c.len.ensures ∙ c.in-Some-2.base.ok.0)
    (map plain_clause c.in-Some-3.clauses.items) clauses.1 (map row c.in-Some-4.bounds.items) bounds.1
    (λ e. absurd (grind (arith, nat_tests, e, a, b, length-map c.in-Some-3.clauses.items plain_clause, length-map c.in-Some-4.bounds.items row, c.in-Some-3.clauses.ok.0, c.in-Some-4.bounds.ok.0)))

pub returns-in_default-5 : goal.returns-in_default-5
returns-in_default-5 c =
    let base = read_some IsBase wholes_data (view c.in-Some.parts.base.now) _ c.in_ok-base.field-0 c.in-Some-2.base c.in-Some-2.is c.in_ok-base.ensures in
    no_freezes (view c.args.value.now) _ _ _ _ _ _ _ c.in-Some.ensures c.in-Some-read_sites.sites c.in-Some-read_sites.ensures.1 c.in-Some-2.base.items base.1 _ (c.len.ensures ∙ c.in-Some-2.base.ok.0)
    (MatchOption-at_none _ _ c.in_default-5.is c.in_ok-freezes.ensures)

pub returns-in_default-6 : goal.returns-in_default-6
returns-in_default-6 c =
    let base = read_some IsBase wholes_data (view c.in-Some.parts.base.now) _ c.in_ok-base.field-0 c.in-Some-2.base c.in-Some-2.is c.in_ok-base.ensures in
    no_calls (view c.args.value.now) _ _ _ _ _ _ _ c.in-Some.ensures c.in-Some-read_sites.sites c.in-Some-read_sites.ensures.1 c.in-Some-2.base.items base.1 _ (c.len.ensures ∙ c.in-Some-2.base.ok.0)
    (read_none _ _ _ _ c.in_ok-calls.field-0 c.in_default-6.is c.in_ok-calls.ensures)
