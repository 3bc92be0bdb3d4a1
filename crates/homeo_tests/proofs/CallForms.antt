-- The L form of a ground call can be run on the whole database.
use Rattle.std.proofs.Common.{◌≡◌, ℕ, ◌^◌, ℤ, pos, true, List, [], map, Option, Some, None, refl, sym, ap, ◌∙◌, arith}
use Rattle.std.specs.Prelude.{slice_get}
use Rattle.homeo_syntax.specs.Source as s
use Rattle.homeo_syntax.specs.Low.{Command}
use Rattle.homeo_meaning.specs.Key.{definitions as meaning_definitions}
use Rattle.homeo_meaning.specs.Acceptance.{IsLightBody}
use Rattle.homeo_meaning.specs.Bounds.{IsWithin}
use Rattle.homeo_meaning.specs.Ground.{Ground}
use Rattle.homeo_meaning.specs.LForm.{l_form}
use Rattle.homeo_meaning.specs.LowMeaning.{Location, TempAt, BaseAt, DeltaAt, whole}
use Rattle.homeo_meaning.specs.Schema.{schema_of}
use Rattle.homeo_meaning.specs.Serial.{values_of}
use Rattle.homeo_lform.proofs.Light.{light_law}
use Rattle.homeo_meaning.proofs.Within.{all_within}
use Rattle.homeo_meaning.specs.CallForm.{body_form, ground_form}
use Rattle.homeo_ground.specs.Grounding.{IsCalled}
use Rattle.homeo_split.specs.Key.{definitions as split_definitions}
use Rattle.homeo_split.specs.CanExec.{run_limit, can_exec}
use Rattle.homeo_split.specs.States.{state_with}
use Rattle.homeo_split.proofs.SmallCommands.{small_law}

-- a split database without deltas is the whole one
whole_at : (database : List ℤ) (p : Location) → whole (values_of database) p ≡ state_with database [] (λ t. pos 0) p
unfolding meaning_definitions split_definitions
whole_at database (TempAt t) = refl
whole_at database (BaseAt n) = refl
whole_at database (DeltaAt n site) = refl

whole_is : (database : List ℤ) → whole (values_of database) ≡ state_with database [] (λ t. pos 0)
whole_is database = λ i p. whole_at database p i

body_runs : (w : s.Workload) (t : s.Transaction) (args database : List ℤ) → IsLightBody w (Some t) args → IsWithin (schema_of w) database → can_exec run_limit (l_form (schema_of w) (map (λ p. p.name.name) t.params) args t.body) (whole (values_of database)) ≡ true
unfolding meaning_definitions
body_runs w t args database light within =
    let x = schema_of w in
    let params : List ℕ = map (λ p. p.name.name) t.params in
    let small = light_law (10 ^ 18) x params args t.body (values_of database) (all_within x database within) light in
    small_law (10 ^ 18) (l_form x params args t.body) (whole (values_of database)) (omega arith) small.form

form_runs : (w : s.Workload) (g : Ground) (database : List ℤ) (o : Option s.Transaction) → IsLightBody w o g.args → IsWithin (schema_of w) database →
    can_exec run_limit (body_form w o g.args) (whole (values_of database)) ≡ true
unfolding meaning_definitions split_definitions
form_runs w g database None light within = refl
form_runs w g database (Some t) light within = body_runs w t g.args database light within

pub form_can_run : (w : s.Workload) (g : Ground) (c : Command) (database : List ℤ) → IsCalled w g → c ≡ ground_form w g → IsWithin (schema_of w) database →
    can_exec run_limit c (state_with database [] (λ t. pos 0)) ≡ true
unfolding meaning_definitions
form_can_run w g c database called is within =
    ap (can_exec run_limit c) (sym (whole_is database))
    ∙ ap (λ c. can_exec run_limit c (whole (values_of database))) is
    ∙ form_runs w g database (slice_get w.transactions g.transaction) called.light within
