-- Certificates, read from the parts of a JSON object.
use Rattle.std.proofs.Common.{◌≡◌, ℕ, List, map, length, ℤ, pos, sym, ap, ◌∙◌, subst}
use Rattle.std.proofs.lemmas.List.{length-map}
use Rattle.serde_json.specs.Data.{Data}
use Rattle.homeo_plan.specs.declared.forms.Delta.{Delta}
use Rattle.homeo_plan.specs.Config.{Config}
use Rattle.homeo_plan.specs.Each.{Each}
use Rattle.homeo_plan.specs.Template.{Clause}
use Rattle.homeo_certificate.specs.Certificate.{Call, Certificate}
use Rattle.homeo_certificate.specs.Json.{whole_data, list_data, wholes_data}
use Rattle.homeo_certificate.specs.Shape.{DeltaInShape, ClauseInShape, CallInShape, InShape}
use Rattle.homeo_certificate.specs.Text.{delta_data, clause_data, call_data, certificate_data}
use Rattle.homeo_cert_reader.specs.inner.Reading.{AreFreezes, AreCalls, parts_data}
use Rattle.homeo_certificate.proofs.OneCertificate.{same_naturals, same_wholes, value_at}
use Rattle.homeo_cert_reader.proofs.ReadLists.{same_length}

module _ (d b s g c f k v : Data) (is : parts_data b s g c f k v ≡ d) (m : ℕ) (sites : whole_data (pos m) ≡ k) (ns : List ℤ) (base : wholes_data ns ≡ b) (n : ℕ) (count : n ≡ length ns) where
  part : (x : Certificate) → certificate_data x ≡ d → (i : ℕ) → value_at i (certificate_data x) ≡ value_at i (parts_data b s g c f k v)
  part x e i = ap (value_at i) (e ∙ sym is)

  same_sites : (x : Certificate) → certificate_data x ≡ d → x.sites ≡ m
  same_sites x e = same_naturals x.sites m (part x e 5 ∙ sym sites)

  same_objects : (x : Certificate) → certificate_data x ≡ d → length x.base ≡ n
  same_objects x e = ap length (same_wholes x.base ns (part x e 0 ∙ sym base)) ∙ sym count

  here : (P : ℕ → ℕ → Type 0) (x : Certificate) → certificate_data x ≡ d → P (length x.base) x.sites → P n m
  here P x e h = subst (P n) (same_sites x e) (subst (λ i. P i x.sites) (same_objects x e) h)

  pub no_clauses : ((cs : List Clause) → Each (ClauseInShape n m) cs → list_data (map clause_data cs) ≡ c → ⊥) → (x : Certificate) → InShape x → certificate_data x ≡ d → ⊥
  no_clauses h x p e = h x.clauses (here (λ i j. Each (ClauseInShape i j) x.clauses) x e p.clauses) (part x e 3)

  pub no_freezes : ((ds : List Delta) → AreFreezes n m ds → list_data (map delta_data ds) ≡ f → ⊥) → (x : Certificate) → InShape x → certificate_data x ≡ d → ⊥
  no_freezes h x p e =
      h x.freezes (record { in_shape = here (λ i j. Each (DeltaInShape i j) x.freezes) x e p.freezes; order = p.order }) (part x e 4)

  pub no_calls : ((gs : List Call) → AreCalls n m gs → list_data (map call_data gs) ≡ g → ⊥) → (x : Certificate) → InShape x → certificate_data x ≡ d → ⊥
  no_calls h x p e =
      h x.calls (record { few = p.few_calls; in_shape = here (λ i j. Each (CallInShape i j) x.calls) x e p.calls }) (part x e 2)

  -- as many rows of bounds as clauses
  pub no_rows :
      (cs : List Clause) → list_data (map clause_data cs) ≡ c → (bs : Config) → list_data (map wholes_data bs) ≡ s → (length bs ≡ length cs → ⊥) →
      (x : Certificate) → InShape x → certificate_data x ≡ d → ⊥
  no_rows cs clauses bs bounds h x p e =
      let some = same_length (map clause_data x.clauses) (map clause_data cs) c (part x e 3) clauses in
      let others = same_length (map wholes_data x.bounds) (map wholes_data bs) s (part x e 1) bounds in
      h (sym (length-map bs wholes_data) ∙ sym others ∙ length-map x.bounds wholes_data ∙ p.bounds_count
      ∙ sym (length-map x.clauses clause_data) ∙ some ∙ length-map cs clause_data)
