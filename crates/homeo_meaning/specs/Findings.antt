-- What acceptance finds of a workload on the way.
use Rattle.std.specs.Prelude.{◌≡◌, map}
use Rattle.homeo_syntax.specs.LowView.{plain_lcommand}
use Rattle.homeo_syntax.specs.Source as s
use Rattle.homeo_meaning.specs.CallPlaces.{call_places}
use Rattle.homeo_meaning.specs.Forms.{AreForms}
use Rattle.homeo_meaning.specs.declared.findings.Findings.{Findings}

-- the places of its calls among its ground calls, and the L forms of these
pub record AreFindings (w : s.Workload) (f : Findings) : Type 0 where
  pub calls : map (λ row. row.items) f.calls.items ≡ call_places w
  pub forms : AreForms w (map plain_lcommand f.forms.items) f.places.items
