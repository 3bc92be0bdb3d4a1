-- The plan of an accepted workload has slacks that can be split, and as many lists of bounds as clauses.
use Rattle.std.proofs.Common.{◌≡◌, ℕ, suc, List, [], ◌∷◌, length, ℤ, pos, ◌≤ℤ◌, refl, sym, ap, ◌∙◌}
use Rattle.std.proofs.lemmas.List.{length-map}
use Rattle.homeo_syntax.specs.Source.{Workload}
use Rattle.homeo_meaning.specs.Acceptance.{IsAccepted}
use Rattle.homeo_meaning.specs.Small.{IsSmall}
use Rattle.homeo_plan.specs.Key.{definitions as plan_definitions}
use Rattle.homeo_plan.specs.Config.{split_by}
use Rattle.homeo_plan.specs.Limit.{form_limit}
use Rattle.homeo_plan.specs.Planned.{shares_of, template_at, policy}
use Rattle.homeo_plan.specs.Template.{Clause}
use Rattle.homeo_outline.specs.Key.{definitions as outline_definitions}
use Rattle.homeo_outline.specs.ObjectPlan.{template_with, config_in}
use Rattle.homeo_outline.specs.declared.plan.ObjectPlan.{ObjectPlan}
use Rattle.homeo_build.specs.Plan.{IsObjectPlan}
use Rattle.homeo_build.proofs.PlanParts.{has_object_slack, small_object_slacks}
use Rattle.homeo_print.specs.Plans.{HasBounds}
use Rattle.homeo_site.proofs.PlanClauses.{slack_at, template_count, given_config}

bounds_count : (shares : Clause → List ℕ) (clauses : List Clause) → length (split_by shares clauses) ≡ length clauses
unfolding plan_definitions
bounds_count shares [] = refl
bounds_count shares (c ∷ cs) = ap suc (bounds_count shares cs)

policy_count : (w : Workload) (base : List ℤ) → length (policy w base) ≡ length (template_at w base).clauses
unfolding plan_definitions
policy_count w base = bounds_count (shares_of w) (template_at w base).clauses

pub has_bounds : (w : Workload) (base : List ℤ) (p : ObjectPlan) → IsAccepted w → IsObjectPlan w base p → config_in p ≡ policy w base → HasBounds p
unfolding outline_definitions plan_definitions
has_bounds w base p accepted plan config =
    let k = p.outline.value.sites in
    let t = template_with p.outline.value p.slacks.items in
    record {
      not_negative = λ n lt. slack_at (λ z. pos 0 ≤ℤ z) p.outline.value.terms p.slacks.items n lt (has_object_slack w base k t plan.template);
      small = λ n lt. slack_at (λ z. IsSmall form_limit z) p.outline.value.terms p.slacks.items n lt (small_object_slacks w base k t plan.template accepted plan.within);
      given = λ c is.
          sym (length-map c.bounds.items (λ b. b.items)) ∙ ap length (given_config p c is ∙ config) ∙ policy_count w base
          ∙ sym (ap (λ t. length t.clauses) plan.template) ∙ template_count p;
    }
