-- A client's call does to a database within bounds what its ground call's command does to the values.
use Rattle.homeo_meaning.specs.Key.{definitions as meaning_definitions}
use Rattle.homeo_plan.specs.Key.{definitions as plan_definitions}
use Rattle.homeo_history.specs.Key.{definitions}
use Rattle.std.proofs.Common.{◌≡◌, ℕ, List, map, ℤ, Option, Some, None, refl, sym, ap, ◌∙◌, subst}
use Rattle.std.specs.Option.{option_and_then, option_map}
use Rattle.std.proofs.lemmas.Option.{same_Some}
use Rattle.homeo_syntax.specs.Source as s
use Rattle.homeo_meaning.specs.declared.call.CallId.{CallId}
use Rattle.homeo_meaning.specs.Bounds.{AllWithin, IsWithin}
use Rattle.homeo_meaning.specs.Calls.{CallExists}
use Rattle.homeo_meaning.specs.LowMeaning.{BaseAt, exec, whole}
use Rattle.homeo_meaning.specs.LForm.{l_form}
use Rattle.homeo_meaning.specs.Meaning.{run}
use Rattle.homeo_meaning.specs.SameRun.{IsSameRun}
use Rattle.homeo_meaning.specs.Schema.{schema_of, nat_of}
use Rattle.homeo_meaning.specs.Serial.{values_of, Outcome, outcome_at, outcome_of, call_of, call_outcome, transaction_named, arguments, numbered}
use Rattle.homeo_meaning.specs.CallForm.{body_form}
use Rattle.homeo_meaning.proofs.TransactionPlaces.{transaction_place}
use Rattle.homeo_lform.proofs.FormLaw.{form_law}
use Rattle.homeo_lform.proofs.Stays.{bounds_law}
use Rattle.homeo_meaning.proofs.Within.{all_within, list_in}
use Rattle.homeo_plan.specs.Template.{PlannedCall}
use Rattle.homeo_plan.specs.Planned.{planned_at}
use Rattle.homeo_plan.proofs.PlannedCalls.{KnownCall, known, planned_is}
use Rattle.homeo_history.specs.Legal.{site_of, IsCallAt}
use Rattle.homeo_meaning.proofs.ValueLists.{values_like}

-- ---- a transaction that may be there
record OutcomeRuns (w : s.Workload) (o : Option s.Transaction) (args db : List ℤ) : Type 0 where
  prints : (outcome_at w o args db).prints ≡ (exec (body_form w o args) (whole (values_of db))).prints
  within : IsWithin (schema_of w) (outcome_at w o args db).database
  values : values_of (outcome_at w o args db).database ≡ (λ n. (exec (body_form w o args) (whole (values_of db))).state (BaseAt n))

outcome_runs : (w : s.Workload) (o : Option s.Transaction) (args db : List ℤ) → IsWithin (schema_of w) db → OutcomeRuns w o args db
unfolding meaning_definitions
outcome_runs w None args db h = record { prints = refl; within = h; values = refl }
outcome_runs w (Some t) args db h =
    let params : List ℕ = map (λ p. p.name.name) t.params in
    let e : IsSameRun (exec (l_form (schema_of w) params args t.body) (whole (values_of db))) (run (schema_of w) params args t.body (values_of db)) = form_law (schema_of w) params args t.body (values_of db) in
    let after : ℕ → ℤ = (run (schema_of w) params args t.body (values_of db)).state.database in
    let all : AllWithin (schema_of w) after = bounds_law (schema_of w) params args t.body (values_of db) (all_within (schema_of w) db h) in
    record {
      prints = sym e.prints;
      within = list_in (schema_of w) db after h all;
      values = values_like (schema_of w) db after h all ∙ (λ i n. sym (e.database n) i);
    }

-- ---- a client's call
pub record CallRuns (w : s.Workload) (id : CallId) (db : List ℤ) : Type 0 where
  pub prints : (call_outcome w id db).prints ≡ (exec (planned_at w id).command (whole (values_of db))).prints
  pub within : IsWithin (schema_of w) (call_outcome w id db).database
  pub values : values_of (call_outcome w id db).database ≡ (λ n. (exec (planned_at w id).command (whole (values_of db))).state (BaseAt n))

made_is : (w : s.Workload) (id : CallId) (n : KnownCall w id) → call_of w id ≡ Some n.call
unfolding meaning_definitions
made_is w id n = ap (option_and_then (λ (client : s.Client). numbered id.seq client.calls)) n.found ∙ n.made

outcome_is : (w : s.Workload) (id : CallId) (n : KnownCall w id) (db : List ℤ) → call_outcome w id db ≡ outcome_at w (transaction_named w n.call.name.name) (arguments n.call) db
unfolding meaning_definitions
outcome_is w id n db = ap (λ o. outcome_of w o db) (made_is w id n)

command_is : (w : s.Workload) (id : CallId) (n : KnownCall w id) → (planned_at w id).command ≡ body_form w (transaction_named w n.call.name.name) (arguments n.call)
unfolding meaning_definitions plan_definitions
command_is w id n =
    ap (λ (g : PlannedCall). g.command) (planned_is w id n) ∙ ap (λ o. body_form w o (arguments n.call)) (transaction_place w n.call.name.name)

pub call_runs : (w : s.Workload) (id : CallId) (db : List ℤ) → CallExists w id → IsWithin (schema_of w) db → CallRuns w id db
unfolding meaning_definitions
call_runs w id db exists h =
    let n = known w id exists in
    let r = outcome_runs w (transaction_named w n.call.name.name) (arguments n.call) db h in
    let o = outcome_is w id n db in
    let c = command_is w id n in
    record {
      prints = ap (λ (z : Outcome). z.prints) o ∙ r.prints ∙ sym (ap (λ z. (exec z (whole (values_of db))).prints) c);
      within = subst (λ (z : Outcome). IsWithin (schema_of w) z.database) (sym o) r.within;
      values = ap (λ (z : Outcome). values_of z.database) o ∙ r.values ∙ sym (ap (λ z n. (exec z (whole (values_of db))).state (BaseAt n)) c);
    }

-- ---- its site
pub site_is : (w : s.Workload) (id : CallId) (i : ℕ) → IsCallAt w i id → (planned_at w id).site ≡ i
unfolding definitions meaning_definitions plan_definitions
site_is w id i c =
    let n = known w id c.exists in
    let here : site_of w id ≡ Some (nat_of n.client.site.value) = ap (option_map (λ (client : s.Client). nat_of client.site.value)) n.found in
    ap (λ (g : PlannedCall). g.site) (planned_is w id n) ∙ same_Some _ _ (sym here ∙ c.at_site)
