-- The form at the number is that of the ground call there, which is planned with it.
use Rattle.std.proofs.Common.{◌≡◌, ℕ, zero, suc, ◌<◌, List, [], ◌∷◌, map, length, get_or, Some, ap, ◌∙◌, arith}
use Rattle.std.specs.Prelude.{slice_get}
use Rattle.std.proofs.lemmas.List.{length-map}
use Rattle.homeo_lemmas.proofs.Places.{one_placed}
use Rattle.homeo_syntax.specs.LowView.{plain_lcommand}
use Rattle.homeo_syntax.specs.SourceView.{plain_workload}
use Rattle.homeo_meaning.specs.Ground.{Ground, grounds}
use Rattle.homeo_plan.specs.Key.{definitions as plan_definitions}
use Rattle.homeo_plan.specs.Planned.{planned_call}
use Rattle.homeo_plan.specs.Template.{PlannedCall}
use Rattle.homeo_build.proofs.FormsMade.{form_of_ground}
use Rattle.homeo_build.proofs.compiled.Compiled.form.Goals as goal

no_call : Ground
no_call = record { transaction = 0; args = []; site = 0 }

mapped_there : {X Y : Type 0} (f : X → Y) (xs : List X) (n : ℕ) (x : X) (y : Y) → n < length xs → slice_get (map f xs) n ≡ Some y → f (get_or xs n x) ≡ y
mapped_there f [] n x y lt h = absurd (omega (arith, lt))
mapped_there f (z ∷ xs) zero x y lt h = cc
mapped_there f (z ∷ xs) (suc n) x y lt h = mapped_there f xs n x y (omega (arith, lt)) h

pub form-requires-clause-within : goal.form-requires-clause-within
form-requires-clause-within c =
    (form_of_ground (plain_workload c.args.self.now) _ _ c.args.number no_call c.forms.ensures.forms c.requires).within

pub form-requires-clause-placed : goal.form-requires-clause-placed
form-requires-clause-placed c =
    let h = form_of_ground (plain_workload c.args.self.now) _ _ c.args.number no_call c.forms.ensures.forms c.requires in
    omega (arith, h.below, length-map c.forms.result.now.forms.items plain_lcommand)

pub returns : goal.returns
unfolding plan_definitions
returns c g there =
    let w = plain_workload c.args.self.now in
    let h = form_of_ground w _ _ c.args.number no_call c.forms.ensures.forms c.requires in
    one_placed (map plain_lcommand c.forms.result.now.forms.items) _ _ _ c.form.ensures h.at
    ∙ ap (λ (p : PlannedCall). p.command) (mapped_there (planned_call w) (grounds w) c.args.number no_call g c.requires there)
