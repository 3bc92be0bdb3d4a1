-- Clauses, read from the parts of a JSON object.
use Rattle.std.proofs.Common.{◌≡◌, ℕ, List, map, ℤ, Option, Some, None, option_map, MatchOption, sym, ap, ap₂, ◌∙◌, subst}
use Rattle.std.specs.Prelude.{codes}
use Rattle.serde_json.specs.Data.{Data, object, member, no_members}
use Rattle.homeo_plan.specs.declared.forms.Term.{Term}
use Rattle.homeo_plan.specs.declared.templates.Clause as code
use Rattle.homeo_plan.specs.Each.{Each}
use Rattle.homeo_plan.specs.Linear.{AreInOrder, deltas_of}
use Rattle.homeo_plan.specs.PlanView.{plain_clause}
use Rattle.homeo_plan.specs.Template.{Clause}
use Rattle.homeo_certificate.specs.Json.{whole_data, list_data}
use Rattle.homeo_certificate.specs.Shape.{IsWord, TermInShape, ClauseInShape}
use Rattle.homeo_certificate.specs.Text.{term_data, clause_data}
use Rattle.homeo_cert_reader.specs.Read.{IsRead}
use Rattle.homeo_certificate.proofs.OneCertificate.{value_at, same_terms}

abbrev clause_object : Data → Data → Data
clause_object s t = object (member (codes "slack") s (member (codes "terms") t no_members))

abbrev pub of_parts : ℤ → List Term → Clause
of_parts slack ts = record { terms = ts; slack = slack }

module _
    (n k : ℕ) (d s t : Data) (is : clause_object s t ≡ d) (slack : ℤ) (word : IsWord slack) (slack_is : whole_data slack ≡ s)
    (ts : List Term) (each : Each (TermInShape n k) ts) (terms : list_data (map term_data ts) ≡ t) where
  pub clause_read :
      (r : Option code.Clause) → MatchOption r (AreInOrder (deltas_of ts) → ⊥) (λ c. AreInOrder (deltas_of ts) × (plain_clause c ≡ of_parts slack ts)) →
      IsRead (ClauseInShape n k) clause_data d (option_map plain_clause r)
  clause_read None h = λ x shape e.
      let same : x.terms ≡ ts = same_terms x.terms ts (ap (value_at 1) (e ∙ sym is) ∙ sym terms) in
      h (subst (λ l. AreInOrder (deltas_of l)) same shape.order)
  clause_read (Some c) h =
      let shape : ClauseInShape n k (of_parts slack ts) = record { slack = word; terms = each; order = h.0 } in
      subst (λ x. ClauseInShape n k x × (clause_data x ≡ d)) (sym h.1) (shape, ap₂ clause_object slack_is terms ∙ is)
