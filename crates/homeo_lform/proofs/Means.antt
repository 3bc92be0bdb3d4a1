-- The L form of a ground call means the call.
use Rattle.std.proofs.Common.{◌≡◌, map, sym, ap, subst, ◌∙◌}
use Rattle.homeo_syntax.specs.Source as s
use Rattle.homeo_syntax.specs.Low as L
use Rattle.homeo_meaning.specs.Schema.{schema_of}
use Rattle.homeo_meaning.specs.Ground.{Ground}
use Rattle.homeo_meaning.specs.LForm.{l_form}
use Rattle.homeo_meaning.specs.LowMeaning.{exec, whole}
use Rattle.homeo_meaning.specs.Meaning.{run}
use Rattle.homeo_meaning.specs.Key.{definitions}
use Rattle.homeo_meaning.specs.CallForm.{body_form, ground_form}
use Rattle.homeo_meaning.specs.SameRun.{IsSameRun, MeansCall}
use Rattle.homeo_lform.proofs.FormLaw.{form_law}

pub means : (w : s.Workload) (g : Ground) (c : L.Command) → c ≡ ground_form w g → MeansCall w g c
unfolding definitions
means w g c e t database there =
    let is : l_form (schema_of w) (map (λ p. p.name.name) t.params) g.args t.body ≡ c = sym (e ∙ ap (λ o. body_form w o g.args) there) in
    subst (λ l. IsSameRun (exec l (whole database)) (run (schema_of w) (map (λ p. p.name.name) t.params) g.args t.body database)) is
    (form_law (schema_of w) (map (λ p. p.name.name) t.params) g.args t.body database)
