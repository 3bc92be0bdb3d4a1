use Rattle.std.proofs.Common.{◌≡◌, ℕ, List, map, ℤ, pos, codes, Some, subst}
use Rattle.std.proofs.lemmas.Result.{on_ok_weaker}
use Rattle.serde.specs.Event.{Log, Logs, map_begins, map_ends}
use Rattle.serde_json.specs.Data.{Data}
use Rattle.serde_json.specs.Events.{SendsValue}
use Rattle.homeo_syntax.specs.Listed.{Listed}
use Rattle.homeo_syntax.specs.Source as s
use Rattle.homeo_syntax.specs.SourceView.{plain_workload}
use Rattle.homeo_plan.specs.declared.round.RoundPlan.{RoundPlan}
use Rattle.homeo_plan.specs.declared.templates.Clause.{Clause}
use Rattle.homeo_plan.specs.PlanView.{plain_clause}
use Rattle.homeo_certificate.specs.Json.{whole_data, list_data, wholes_data}
use Rattle.homeo_certificate.specs.Text.{clause_data, delta_data}
use Rattle.homeo_cert.specs.inner.Sections.{calls_data, sections}
use Rattle.homeo_cert.specs.inner.Sends.{SendsMember}
use Rattle.homeo_cert.proofs.writing.SectionsSerialize.serialize.Goals as goal

-- a member of the items of a list that was lent
of_lent :
    {A : Type 0} (f : A → Data) (key : List ℕ) (lent items : List A) (old new : Log) → lent ≡ items →
    SendsMember key (list_data (map f lent)) old new → SendsMember key (list_data (map f items)) old new
of_lent f key lent items old new same sent = subst (λ l. SendsMember key (list_data (map f l)) old new) same sent

-- begun, each member in its turn, and ended
members_sent :
    (w : s.Workload) (p : RoundPlan) (old begun base bounds calls clauses freezes sites version new : Log) →
    Logs old begun (map_begins (Some 7)) →
    SendsMember (codes "base") (wholes_data p.base.items) begun base →
    SendsMember (codes "bounds") (list_data (map (λ b. wholes_data b.items) p.config.bounds.items)) base bounds →
    SendsMember (codes "calls") (calls_data w) bounds calls →
    SendsMember (codes "clauses") (list_data (map (λ c. clause_data (plain_clause c)) p.template.clauses.items)) calls clauses →
    SendsMember (codes "freezes") (list_data (map delta_data p.template.freezes.items)) clauses freezes →
    SendsMember (codes "sites") (whole_data (pos p.template.sites)) freezes sites →
    SendsMember (codes "version") (whole_data (pos 1)) sites version →
    Logs version new map_ends → SendsValue (sections w p) old new
members_sent w p old begun base bounds calls clauses freezes sites version new b m1 m2 m3 m4 m5 m6 m7 e = (
  begun,
  b,
  (
    m1.0,
    base,
    m1.1,
    m1.2,
    (
      m2.0,
      bounds,
      m2.1,
      m2.2,
      (
        m3.0,
        calls,
        m3.1,
        m3.2,
        (m4.0, clauses, m4.1, m4.2, (m5.0, freezes, m5.1, m5.2, (m6.0, sites, m6.1, m6.2, (m7.0, version, m7.1, m7.2, e)))),
      ),
    ),
  ),
)

pub returns : goal.returns
returns g c =
    let w = plain_workload c.args.self.now.calls.compiled.now in
    let p = c.args.self.now.plan.now in
    let begun = g.S.Serializer.written c.begin_map.new.self in
    let base = g.S.Serializer.written c.write_member.new.out in
    let bounds = g.S.Serializer.written c.write_member-2.new.out in
    let calls = g.S.Serializer.written c.write_member-3.new.out in
    let clauses = g.S.Serializer.written c.write_member-4.new.out in
    let freezes = g.S.Serializer.written c.write_member-5.new.out in
    let sites = g.S.Serializer.written c.write_member-6.new.out in
    let version = g.S.Serializer.written c.write_member-7.new.out in
    on_ok_weaker c.end_map.result
    (members_sent w p (g.S.Serializer.written c.args.out.now) begun base bounds calls clauses freezes sites version (g.S.Serializer.written c.end_map.new.self)
    c.in_ok-begin_map.ensures
    (of_lent whole_data (codes "base") c.as_slice.result.now p.base.items begun base c.as_slice.ensures c.in_ok-write_member.ensures)
    (of_lent (λ (b : Listed ℤ). wholes_data b.items) (codes "bounds") c.as_slice-2.result.now p.config.bounds.items base bounds c.as_slice-2.ensures c.in_ok-write_member-2.ensures)
    c.in_ok-write_member-3.ensures
    (of_lent (λ (c : Clause). clause_data (plain_clause c)) (codes "clauses") c.as_slice-3.result.now p.template.clauses.items calls clauses c.as_slice-3.ensures c.in_ok-write_member-4.ensures)
    (of_lent delta_data (codes "freezes") c.as_slice-4.result.now p.template.freezes.items clauses freezes c.as_slice-4.ensures c.in_ok-write_member-5.ensures)
    c.in_ok-write_member-6.ensures
    c.in_ok-write_member-7.ensures)
    c.end_map.ensures
