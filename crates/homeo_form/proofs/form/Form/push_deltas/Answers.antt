-- The mixed deltas are put there, and then those of the terms.
use Rattle.std.proofs.lemmas.Result.{on_ok_weaker}
use Rattle.homeo_form.proofs.FormParts.{pushed_is}
use Rattle.homeo_form.proofs.form.Form.push_deltas.Goals as goal

pub returns : goal.returns
returns c =
    on_ok_weaker c.push_deltas_of.result
    (λ h. pushed_is c.args.self.now _ c.self.inside.terms.items _ c.self.inside.mixed.items _ _ _ _ c.self.view_is c.in_ok-push_all.ensures
    c.as_slice.ensures.value h c.as_slice-2.ensures.value) c.push_deltas_of.ensures
