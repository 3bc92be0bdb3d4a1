-- How many sites and objects an accepted workload has.
use Rattle.std.proofs.Common.{◌≡◌, ◌≤◌, Bool, true, false, ◌||◌, List, [], length, ℤ, pos, negsuc, int_lt, sym, refl, ◌∙◌, subst, arith}
use Rattle.std.proofs.lemmas.Int.{ints}
use Rattle.homeo_lemmas.proofs.Lists.{not_nil}
use Rattle.homeo_syntax.specs.Source as s
use Rattle.homeo_meaning.specs.Key.{definitions as meaning_definitions}
use Rattle.homeo_meaning.specs.declared.call.Purpose.TheVariants.{Run}
use Rattle.homeo_meaning.specs.declared.rules.Phase.TheVariants.{Limits}
use Rattle.homeo_meaning.specs.Acceptance.{IsAccepted}
use Rattle.homeo_meaning.specs.Bounds.{all_bounds, IsWithin}
use Rattle.homeo_meaning.specs.ListRules.{when, number_fault}
use Rattle.homeo_meaning.specs.Schema.{nat_of, schema_of}
use Rattle.homeo_meaning.proofs.FaultParts.{NoFault, parts, limit_parts}
use Rattle.homeo_meaning.proofs.SoundRelations.{objects-fit}
use Rattle.homeo_meaning.proofs.Within.{length_in}
use Rattle.homeo_lform.proofs.ObjectBounds.{bounds_count}
use Rattle.homeo_plan.specs.Key.{definitions as plan_definitions}
use Rattle.homeo_plan.specs.Planned.{sites_of}

at_most_16 : (z : ℤ) → int_lt (pos 16) z ≡ false → nat_of z ≤ 16
at_most_16 (pos n) q = omega (arith, ints, q)
at_most_16 (negsuc n) q = omega arith

pub few_sites : (w : s.Workload) → IsAccepted w → sites_of w ≤ 16
unfolding plan_definitions meaning_definitions
few_sites w accepted =
    let p : NoFault Run w = parts Run w accepted.rules in
    go (int_lt w.sites.value (pos 1)) (int_lt (pos 16) w.sites.value) refl (limit_parts w p.text.limits).sites
  where
    go : (a v : Bool) → int_lt (pos 16) w.sites.value ≡ v → when (a || v) (number_fault Limits w.sites) ≡ [] → nat_of w.sites.value ≤ 16
    go true v q e = absurd (not_nil _ _ e)
    go false true q e = absurd (not_nil _ _ e)
    go false false q e = at_most_16 w.sites.value q

-- a database within bounds has at most 1,024 values
pub few_values : (w : s.Workload) (base : List ℤ) → IsAccepted w → IsWithin (schema_of w) base → length base ≤ 1024
unfolding meaning_definitions
few_values w base accepted within =
    let p : NoFault Run w = parts Run w accepted.rules in
    subst (λ n. n ≤ 1024) (sym (length_in (all_bounds (schema_of w)) base within ∙ bounds_count (schema_of w)))
    (objects-fit w p.text.limits)
