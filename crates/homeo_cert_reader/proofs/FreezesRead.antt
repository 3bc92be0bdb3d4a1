-- Freezes, read from a list of deltas.
use Rattle.std.proofs.Common.{◌≡◌, ℕ, List, map, Option, Some, None, MatchOption, sym, ◌∙◌, subst}
use Rattle.serde_json.specs.Data.{Data}
use Rattle.homeo_plan.specs.declared.forms.Delta.{Delta}
use Rattle.homeo_plan.specs.Each.{Each}
use Rattle.homeo_plan.specs.Linear.{AreInOrder}
use Rattle.homeo_certificate.specs.Json.{list_data}
use Rattle.homeo_certificate.specs.Shape.{DeltaInShape}
use Rattle.homeo_certificate.specs.Text.{delta_data}
use Rattle.homeo_cert_reader.specs.Read.{IsRead}
use Rattle.homeo_cert_reader.specs.inner.Reading.{AreFreezes}
use Rattle.homeo_certificate.proofs.OneCertificate.{same_deltas}

abbrev deltas_data : List Delta → Data
deltas_data ds = list_data (map delta_data ds)

pub freezes_read :
    (n k : ℕ) (d : Data) (ds : List Delta) → Each (DeltaInShape n k) ds → list_data (map delta_data ds) ≡ d →
    (r : Option (List Delta)) → MatchOption r (AreInOrder ds → ⊥) (λ f. AreInOrder ds × (f ≡ ds)) →
    IsRead (AreFreezes n k) (λ x. list_data (map delta_data x)) d r
freezes_read n k d ds each is None h = λ x are e. h (subst AreInOrder (same_deltas x ds (e ∙ sym is)) are.order)
freezes_read n k d ds each is (Some f) h =
    subst (λ x. AreFreezes n k x × (deltas_data x ≡ d)) (sym h.1) (record { in_shape = each; order = h.0 }, is)
