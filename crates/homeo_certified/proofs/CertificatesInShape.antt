-- The certificate of an accepted workload's round is in shape, where the commands of its calls are.
use Rattle.homeo_meaning.specs.Key.{definitions as meaning_definitions}
use Rattle.homeo_plan.specs.Key.{definitions as plan_definitions}
use Rattle.homeo_certificate.specs.Key.{definitions}
use Rattle.std.proofs.Common.{◌≡◌, ℕ, suc, ◌≤◌, Bool, true, false, ◌||◌, List, [], ◌∷◌, map, length, ℤ, pos, negsuc, int_lt, ◌≤ℤ◌, get_or, refl, sym, arith}
use Rattle.std.proofs.lemmas.Int.{ints}
use Rattle.std.specs.Int.RustNames.{unsigned_abs}
use Rattle.homeo_lemmas.proofs.Lists.{length_map}
use Rattle.homeo_syntax.specs.Source as s
use Rattle.homeo_syntax.specs.declared.phrase.Number.{Number}
use Rattle.homeo_meaning.specs.Acceptance.{IsAccepted}
use Rattle.homeo_meaning.specs.Bounds.{all_bounds, IsWithin}
use Rattle.homeo_meaning.specs.ListRules.{when, number_fault}
use Rattle.homeo_meaning.specs.NumberRules.{site_count_faults, ground_calls}
use Rattle.homeo_meaning.specs.Ground.{grounds, ground_of_sited}
use Rattle.homeo_meaning.specs.Schema.{schema_of, nat_of}
use Rattle.homeo_meaning.specs.Serial.{values_of}
use Rattle.homeo_meaning.specs.declared.call.Purpose.TheVariants.{Run}
use Rattle.homeo_meaning.specs.declared.rules.Phase.TheVariants.{Limits}
use Rattle.homeo_meaning.proofs.FaultParts.{NoFault, parts, limit_parts}
use Rattle.homeo_meaning.proofs.Sound.{sound}
use Rattle.homeo_meaning.proofs.Within.{length_in, all_within}
use Rattle.homeo_lform.proofs.ObjectBounds.{bounds_count as objects_count}
use Rattle.homeo_ground.proofs.Limits.{limited}
use Rattle.homeo_plan.specs.Config.{Config, Fits}
use Rattle.homeo_plan.specs.Each.{Each}
use Rattle.homeo_plan.specs.Planned.{sites_of, planned_call, planned, template_at}
use Rattle.homeo_plan.specs.Template.{PlannedCall}
use Rattle.homeo_plan.proofs.GroundNumbers.{values_small}
use Rattle.homeo_certificate.specs.declared.verdict.Verdict.{Verdict}
use Rattle.homeo_certificate.specs.declared.verdict.Verdict.TheVariants as verdict
use Rattle.homeo_certificate.specs.Certified.{certified_call, certificate_of}
use Rattle.homeo_certificate.specs.Shape.{IsWord, CallInShape, InShape}
use Rattle.homeo_certificate.specs.Text.{text_of}
use Rattle.homeo_certificate.specs.Verdict.{IsVerdictOn}
use Rattle.homeo_certified.proofs.CertifiedCalls.{CanCertify, can_certify, certified_is_valid}
use Rattle.homeo_certificate.proofs.OneVerdict.{one_verdict}
use Rattle.homeo_certified.proofs.TemplatesInShape.{IsReady, clauses_in_shape, freezes_in_shape, freezes_in_order, bounds_in_shape}
use Rattle.homeo_certificate.proofs.TextReads.{text_reads}

-- ---- how many sites, objects and calls
pub record IsFew (n : ℤ) : Type 0 where
  pub some : pos 1 ≤ℤ n
  pub few : n ≤ℤ pos 16

pub few_number : (n : Number) → site_count_faults n ≡ [] → IsFew n.value
unfolding meaning_definitions
few_number n none = go (int_lt n.value (pos 1)) (int_lt (pos 16) n.value) refl refl none
  where
    go :
        (a b : Bool) → int_lt n.value (pos 1) ≡ a → int_lt (pos 16) n.value ≡ b →
        when (a || b) (number_fault Limits n) ≡ [] → IsFew n.value
    go true b p q e = absurd cc
    go false true p q e = absurd cc
    go false false p q e = record { some = omega (arith, ints, p); few = omega (arith, ints, q) }

pub record CountsFew (n : ℤ) : Type 0 where
  pub some : 1 ≤ nat_of n
  pub few : nat_of n ≤ 16

pub count_few : (n : ℤ) → IsFew n → CountsFew n
unfolding meaning_definitions
count_few (pos n) h = record { some = omega (arith, ints, h.some); few = omega (arith, ints, h.few) }
count_few (negsuc n) h = absurd (omega (arith, ints, h.some))

-- ---- numbers of the base
pub word_if : (v : ℤ) → unsigned_abs v ≤ 1000000000000000000 → IsWord v
word_if v h = record { low = grind (arith, ints, h); high = grind (arith, ints, h) }

words_of : (vs : List ℤ) → ((n : ℕ) → unsigned_abs (get_or vs n (pos 0)) ≤ 1000000000000000000) → Each IsWord vs
unfolding plan_definitions
words_of [] h = tt
words_of (v ∷ vs) h = (word_if v (h 0), words_of vs (λ n. h (suc n)))

-- ---- the certificate
module _
    (w : s.Workload) (base : List ℤ) (config : Config) (accepted : IsAccepted w) (within : IsWithin (schema_of w) base)
    (fits : Fits (sites_of w) (template_at w base).clauses config)
    (calls : Each (CallInShape (length base) (sites_of w)) (certificate_of w base config).calls)
  where
    ready_of :
        (gs : List PlannedCall) → Each (CallInShape (length base) (sites_of w)) (map (certified_call (sites_of w)) gs) →
        Each (CanCertify w base accepted within) gs → Each (IsReady (length base) (sites_of w) (values_of base)) gs
    unfolding plan_definitions
    ready_of [] h k = tt
    ready_of (g ∷ gs) h k = (record { shape = h.0.command; small = k.0.small }, ready_of gs h.1 k.1)

    ready : Each (IsReady (length base) (sites_of w) (values_of base)) (planned w)
    ready = ready_of (planned w) calls (can_certify w base accepted within)

    base_words : Each IsWord base
    unfolding meaning_definitions
    base_words =
        let all = all_within (schema_of w) base within in
        words_of base (λ n. omega (arith, values_small w accepted (values_of base) all n))

    pub in_shape : InShape (certificate_of w base config)
    unfolding definitions plan_definitions meaning_definitions
    in_shape =
        let p : NoFault Run w = parts Run w accepted.rules in
        let sites = count_few w.sites.value (few_number w.sites (limit_parts w p.text.limits).sites) in
        let objects = length_in (all_bounds (schema_of w)) base within in
        let few = (sound w accepted).few in
        let clauses = clauses_in_shape (length base) (sites_of w) (values_of base) (planned w) ready in
        let bounds = bounds_in_shape (length base) (sites_of w) (template_at w base).clauses config fits clauses in
        let count = length_map (certified_call (sites_of w)) (planned w) in
        let count2 = length_map (planned_call w) (grounds w) in
        let count3 = length_map (ground_of_sited w) (ground_calls w) in
        let most_calls = (limited w accepted).grounds in
        record {
          one_site = sites.some;
          few_sites = sites.few;
          few_objects = omega (arith, objects, objects_count (schema_of w), few);
          base = base_words;
          clauses = clauses;
          bounds_count = bounds.1;
          bounds = bounds.0;
          freezes = freezes_in_shape (length base) (sites_of w) (values_of base) (planned w) ready;
          order = freezes_in_order (length base) (sites_of w) (values_of base) (planned w) ready;
          few_calls = omega (arith, count, count2, count3, most_calls);
          calls = calls;
        }

    pub is_valid : IsVerdictOn (text_of (certificate_of w base config)) verdict.Valid
    unfolding definitions
    is_valid =
        record {
          certificate = certificate_of w base config;
          shape = in_shape;
          json = text_reads (certificate_of w base config) in_shape;
          verdict = sym (certified_is_valid w base accepted within config fits);
        }

    -- no other verdict applies
    pub only_valid : (v : Verdict) → IsVerdictOn (text_of (certificate_of w base config)) v → v ≡ verdict.Valid
    only_valid v h = one_verdict (text_of (certificate_of w base config)) v verdict.Valid h is_valid
