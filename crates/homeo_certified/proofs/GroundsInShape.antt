-- The calls of an accepted workload's certificate are in shape, where they don't nest too deep.
use Rattle.std.proofs.Common.{suc, ◌<◌, ◌≤◌, ◌^◌, List, [], ◌∷◌, map, length, All, ℤ, sym, subst, arith}
use Rattle.homeo_syntax.specs.Key.{definitions as syntax_definitions}
use Rattle.homeo_syntax.specs.Source as s
use Rattle.homeo_syntax.specs.WellFormed.{Each as Every}
use Rattle.homeo_meaning.specs.Key.{definitions as meaning_definitions}
use Rattle.homeo_meaning.specs.Acceptance.{IsAccepted}
use Rattle.homeo_meaning.specs.Bounds.{IsWithin, all_bounds}
use Rattle.homeo_meaning.specs.CallForm.{body_form, ground_form}
use Rattle.homeo_meaning.specs.Ground.{Ground, ground_of_sited, grounds}
use Rattle.homeo_meaning.specs.GlobalNames.{SitedCall}
use Rattle.homeo_meaning.specs.LowMeaning.{Location, TempAt, BaseAt, DeltaAt}
use Rattle.homeo_meaning.specs.LowSizes.{call_extent, first_extents}
use Rattle.homeo_meaning.specs.LowWeights.{first_weights}
use Rattle.homeo_meaning.specs.NamesWithin.{NamesWithin}
use Rattle.homeo_meaning.specs.NumberRules.{ground_calls}
use Rattle.homeo_meaning.specs.Schema.{schema_of}
use Rattle.homeo_meaning.specs.Serial.{values_of}
use Rattle.homeo_meaning.specs.SizeRules.{extent_of}
use Rattle.homeo_meaning.proofs.LightCalls.{ground_call_light}
use Rattle.homeo_meaning.proofs.Sound.{sound}
use Rattle.homeo_meaning.proofs.Within.{length_in, all_within}
use Rattle.homeo_lform.proofs.Light.{covers_start}
use Rattle.homeo_lform.proofs.NamedWithin.{named_law}
use Rattle.homeo_lform.proofs.Wholes.{ground_in}
use Rattle.homeo_ground.specs.Grounding.{IsCalled}
use Rattle.homeo_ground.proofs.Called.{are_called}
use Rattle.homeo_ground.proofs.SizedCalls.{IsNamed, all_sized, all_named}
use Rattle.homeo_plan.specs.Key.{definitions as plan_definitions}
use Rattle.homeo_plan.specs.Each.{Each}
use Rattle.homeo_plan.specs.Planned.{sites_of, planned_call, planned}
use Rattle.homeo_plan.specs.Template.{PlannedCall}
use Rattle.homeo_plan.proofs.PlannedCalls.{all_sites_below}
use Rattle.homeo_certificate.specs.Key.{definitions}
use Rattle.homeo_certificate.specs.Certified.{certified_call}
use Rattle.homeo_certificate.specs.Nesting.{nesting}
use Rattle.homeo_certificate.specs.Shape.{CallInShape}
use Rattle.homeo_certified.proofs.ShiftInShape.{TempIn, WholeIn, command_in}
use Rattle.homeo_certified.proofs.ShiftNesting.{shifted_nests}

module _ (w : s.Workload) where
  module _ (accepted : IsAccepted w) where
    -- ---- ground calls
    abbrev pub IsSizedGround : Ground → Type 0
    IsSizedGround g = (call_extent (sites_of w) (ground_form w g)).size ≤ 200000

    one_ground : (c : SitedCall) → (extent_of w c).size ≤ 200000 → IsNamed w c → IsSizedGround (ground_of_sited w c)
    unfolding meaning_definitions plan_definitions
    one_ground c h e = subst (λ o. (call_extent (sites_of w) (body_form w o c.args)).size ≤ 200000) e h

    grounds_sized : (cs : List SitedCall) → Every (λ c. (extent_of w c).size ≤ 200000) cs → Every (IsNamed w) cs → Each IsSizedGround (map (ground_of_sited w) cs)
    unfolding meaning_definitions plan_definitions syntax_definitions
    grounds_sized [] h e = tt
    grounds_sized (c ∷ cs) h e = (one_ground c h.0 e.0, grounds_sized cs h.1 e.1)

    few_fresh : (g : Ground) → IsSizedGround g → WholeIn (ground_form w g)
    few_fresh g z = ground_in TempIn (2 ^ 32) (λ t. tt) (λ m l. l) (sites_of w) w g (omega (arith, z))

    module _ (base : List ℤ) (within : IsWithin (schema_of w) base) (few : sites_of w ≤ 16) (names : length w.names ≤ 2 ^ 32) where
      ones : (p : Location) → 1 ≤ first_weights (schema_of w) p
      ones = (covers_start (schema_of w) (values_of base) (all_within (schema_of w) base within)).one

      somes : (p : Location) → 1 ≤ (first_extents (sites_of w) p).size
      unfolding meaning_definitions
      somes (TempAt t) = omega arith
      somes (BaseAt x) = omega arith
      somes (DeltaAt x j) = omega arith

      abbrev pub IsFine : PlannedCall → Type 0
      IsFine g = nesting g.command ≤ 998

      one_call :
          (g : Ground) → IsCalled w g → IsSizedGround g → g.site < sites_of w → IsFine (planned_call w g) →
          CallInShape (length base) (sites_of w) (certified_call (sites_of w) (planned_call w g))
      unfolding definitions plan_definitions meaning_definitions
      one_call g h z l f =
          let objects = length_in (all_bounds (schema_of w)) base within in
          let named = named_law w g accepted in
          let nests = shifted_nests (sites_of w) g.site (ground_form w g) in
          record {
            site = l;
            command =
                command_in (length base) (sites_of w) (length w.names) few names g.site l (ground_form w g) (first_weights (schema_of w)) ones
                (first_extents (sites_of w)) somes (few_fresh g z) (subst (λ n. NamesWithin n (length w.names) (ground_form w g)) (sym objects) named)
                (ground_call_light w g.transaction g.args (sound w accepted) h.made) z;
            nesting = omega (arith, nests, f);
          }

      all_calls :
          (gs : List Ground) → All (IsCalled w) gs → Each IsSizedGround gs → Each (λ (g : PlannedCall). g.site < sites_of w) (map (planned_call w) gs) →
          Each IsFine (map (planned_call w) gs) →
          Each (CallInShape (length base) (sites_of w)) (map (certified_call (sites_of w)) (map (planned_call w) gs))
      unfolding plan_definitions
      all_calls [] h z l f = tt
      all_calls (g ∷ gs) h z l f =
          (one_call g (h 0 g (omega arith)) z.0 l.0 f.0, all_calls gs (λ i d b. h (suc i) d (omega (arith, b))) z.1 l.1 f.1)

      pub calls_in_shape : Each IsFine (planned w) → Each (CallInShape (length base) (sites_of w)) (map (certified_call (sites_of w)) (planned w))
      unfolding plan_definitions meaning_definitions
      calls_in_shape f =
          all_calls (grounds w) (are_called w accepted) (grounds_sized (ground_calls w) (all_sized w accepted).each (all_named w accepted)) (all_sites_below w accepted) f
