-- Where the forms bring at a base what they brought to a plan, rebased, its outline with rebased slacks gives the template there.
use Rattle.homeo_plan.specs.Key.{definitions as plan_definitions}
use Rattle.homeo_follow.specs.Key.{definitions as follow_definitions}
use Rattle.homeo_outline.specs.Key.{definitions as outline_definitions}
use Rattle.homeo_meaning.specs.Key.{definitions as meaning_definitions}
use Rattle.std.proofs.Common.{◌≡◌, ℕ, zero, suc, List, [], ◌∷◌, map, Some, ℤ, sym, ap, subst, ◌∙◌}
use Rattle.std.specs.Prelude.{slice_get}
use Rattle.std.proofs.lemmas.Simd.{map-map}
use Rattle.homeo_syntax.specs.Low.{Command}
use Rattle.homeo_syntax.specs.Source as s
use Rattle.homeo_meaning.specs.Acceptance.{IsAccepted}
use Rattle.homeo_meaning.specs.CallForm.{ground_form}
use Rattle.homeo_meaning.specs.Forms.{call_forms, HaveForms, AreForms}
use Rattle.homeo_meaning.specs.Ground.{Ground, grounds}
use Rattle.homeo_meaning.specs.Serial.{values_of}
use Rattle.homeo_plan.specs.Each.{Each}
use Rattle.homeo_plan.specs.Planned.{sites_of, planned_call, planned, template_at}
use Rattle.homeo_plan.specs.Template.{PlannedCall, Template}
use Rattle.homeo_follow.specs.Brought.{Brought, brought}
use Rattle.homeo_follow.specs.ObjectTemplate.{expanded_template}
use Rattle.homeo_follow.specs.Rebased.{rebased_clause, rebased, gains}
use Rattle.homeo_follow.proofs.Rebasing.{templates_stay}
use Rattle.homeo_outline.specs.ObjectPlan.{clauses_with, template_with}
use Rattle.homeo_outline.specs.Outlined.{Outlined}
use Rattle.homeo_build.proofs.ByObjects.{are_planned}
use Rattle.homeo_build.proofs.FewSites.{sites_few}

-- what is the same of all forms is so of the one at a place
same_there : {X : Type 0} (f h : Command → X) (fs : List Command) (n : ℕ) (c : Command) → map f fs ≡ map h fs → slice_get fs n ≡ Some c → f c ≡ h c
same_there f h [] n c e at = cc
same_there f h (d ∷ fs) zero c e at = let same : d ≡ c = cc in let head : f d ≡ h d = cc in subst (λ x. f x ≡ h x) same head
same_there f h (d ∷ fs) (suc n) c e at = let tail : map f fs ≡ map h fs = cc in same_there f h fs n c tail at

module _ (w : s.Workload) (fs : List Command) (places : List ℕ) (forms : AreForms w fs places) (accepted : IsAccepted w) (b d : List ℤ) where
  abbrev gain : ℕ → ℤ
  gain = gains (values_of b) (values_of d)

  abbrev Stays : PlannedCall → Type 0
  Stays p = brought (values_of d) p.command ≡ rebased gain (brought (values_of b) p.command)

  calls_stay :
      map (brought (values_of d)) fs ≡ map (λ c. rebased gain (brought (values_of b) c)) fs → (gs : List Ground) (ns : List ℕ) →
      HaveForms w fs gs ns → Each Stays (map (planned_call w) gs)
  unfolding meaning_definitions plan_definitions
  calls_stay e [] [] h = tt
  calls_stay e [] (n ∷ ns) h = absurd h
  calls_stay e (g ∷ gs) [] h = absurd h
  calls_stay e (g ∷ gs) (n ∷ ns) h =
      (same_there (brought (values_of d)) (λ c. rebased gain (brought (values_of b) c)) fs n (ground_form w g) e h.0, calls_stay e gs ns h.1)

  pub outline_rebased :
      {X : Type 0} (part : X → Brought) (old new : List X) → map part old ≡ map (brought (values_of b)) (call_forms w) →
      map part new ≡ map (brought (values_of d)) (call_forms w) → map part new ≡ map (rebased gain) (map part old) →
      (o : Outlined) (slacks more : List ℤ) → o.sites ≡ sites_of w → expanded_template o.sites (template_with o slacks) ≡ template_at w b →
      clauses_with o.terms more ≡ map (rebased_clause gain) (clauses_with o.terms slacks) →
      expanded_template o.sites (template_with o more) ≡ template_at w d
  unfolding plan_definitions follow_definitions outline_definitions
  outline_rebased part old new before after moved o slacks more sites is made =
      let forms_same : map (brought (values_of d)) fs ≡ map (λ c. rebased gain (brought (values_of b) c)) fs =
      subst (λ l. map (brought (values_of d)) l ≡ map (λ c. rebased gain (brought (values_of b) c)) l) (sym forms.are)
      (sym after ∙ moved ∙ ap (map (rebased gain)) before ∙ map-map (rebased gain) (brought (values_of b)) (call_forms w)) in
      (λ i. let u : Template = record { clauses = made i; freezes = o.freezes } in expanded_template (sites i) u)
      ∙ templates_stay (sites_of w) (values_of b) (values_of d) gain (sites_few w accepted).some (planned w) (are_planned w accepted)
      (calls_stay forms_same (grounds w) places forms.placed) (clauses_with o.terms slacks) o.freezes
      (ap (λ k. expanded_template k (template_with o slacks)) (sym sites) ∙ is)
