-- The certificate of an accepted workload's round has no fault.
use Rattle.homeo_plan.specs.Key.{definitions as plan_definitions}
use Rattle.homeo_certificate.specs.Key.{definitions}
use Rattle.std.proofs.Common.{◌≡◌, ℕ, suc, ◌+◌, ◌*◌, ◌<◌, true, cond, List, [], ◌∷◌, map, ℤ, pos, int_le, ◌≤ℤ◌, All, refl, ap, ◌∙◌, inl, inr, arith}
use Rattle.std.proofs.lemmas.Int.{ints}
use Rattle.std.specs.List.{list_all}
use Rattle.std.specs.Ordering.{int_eq}
use Rattle.std.proofs.lemmas.Bool.{and_from}
use Rattle.homeo_lemmas.proofs.Integers.{int_same}
use Rattle.homeo_syntax.specs.Source as s
use Rattle.homeo_meaning.specs.Acceptance.{weight_limit, IsAccepted}
use Rattle.homeo_meaning.specs.Bounds.{IsWithin}
use Rattle.homeo_meaning.specs.Ground.{Ground, grounds}
use Rattle.homeo_meaning.specs.LowMeaning.{whole}
use Rattle.homeo_meaning.specs.Schema.{schema_of}
use Rattle.homeo_meaning.specs.Serial.{values_of}
use Rattle.homeo_meaning.specs.Whole.{IsWhole}
use Rattle.homeo_lform.proofs.Wholes.{ground_whole}
use Rattle.homeo_ground.specs.Grounding.{IsCalled}
use Rattle.homeo_ground.proofs.Called.{are_called}
use Rattle.homeo_plan.specs.Config.{Config, total, FitsOne, Fits}
use Rattle.homeo_plan.specs.Each.{Each, Member}
use Rattle.homeo_plan.specs.Limit.{form_limit}
use Rattle.homeo_plan.specs.Planned.{sites_of, planned_call, planned, template_at}
use Rattle.homeo_plan.specs.SmallForms.{HasSmallForms}
use Rattle.homeo_plan.specs.Table.{walk}
use Rattle.homeo_plan.specs.Template.{PlannedCall, shifted, Clause}
use Rattle.homeo_plan.proofs.AcceptedForms.{accepted_forms}
use Rattle.homeo_plan.proofs.Covering.{template_covers}
use Rattle.homeo_plan.proofs.PlannedCalls.{all_sites_below}
use Rattle.homeo_plan.proofs.Wider.{wider_forms}
use Rattle.homeo_certificate.specs.declared.verdict.Verdict.TheVariants as verdict
use Rattle.homeo_certificate.specs.Certificate.{Certificate}
use Rattle.homeo_certificate.specs.Certified.{certified_call, certificate_of}
use Rattle.homeo_certificate.specs.Followed.{call_faults}
use Rattle.homeo_certificate.specs.Verdict.{fits_slack, misfits, at_call, faults_from, first_of_all, verdict_of}
use Rattle.homeo_certified.proofs.NoFaults.{none_and, no_faults}

-- ---- bounds that fit
bounds_hold : (bounds : List ℤ) → Each (λ n. pos 0 ≤ℤ n) bounds → list_all (int_le (pos 0)) bounds ≡ true
unfolding plan_definitions
bounds_hold [] h = refl
bounds_hold (n ∷ ns) h =
    let p : int_le (pos 0) n ≡ true = grind (arith, ints, h.0) in
    and_from (int_le (pos 0) n) (list_all (int_le (pos 0)) ns) p (bounds_hold ns h.1)

fits_here : (k : ℕ) (c : Clause) (b : List ℤ) → FitsOne k c b → fits_slack c b ≡ true
unfolding definitions
fits_here k c b h = and_from (list_all (int_le (pos 0)) b) (int_eq (total b) c.slack) (bounds_hold b h.not_negative) (int_same (total b) c.slack h.sums)

no_misfits : (k n : ℕ) (cs : List Clause) (bs : Config) → Fits k cs bs → misfits n cs bs ≡ []
unfolding definitions plan_definitions
no_misfits k n [] bs h = refl
no_misfits k n (c ∷ cs) [] h = absurd h
no_misfits k n (c ∷ cs) (b ∷ bs) h =
    ap (λ v. cond v (misfits (suc n) cs bs) (verdict.Bounds n ∷ [])) (fits_here k c b h.0) ∙ no_misfits k (suc n) cs bs h.1

-- ---- ground calls
module _ (w : s.Workload) (base : List ℤ) (accepted : IsAccepted w) (within : IsWithin (schema_of w) base) where
  pub record CanCertify (g : PlannedCall) : Type 0 where
    pub is_whole : IsWhole g.command
    pub site : g.site < sites_of w
    pub small : HasSmallForms form_limit (values_of base) (walk (shifted (sites_of w) g) (whole (values_of base)))

  one : (g : Ground) → IsCalled w g → g.site < sites_of w → CanCertify (planned_call w g)
  unfolding plan_definitions
  one g h l =
      record {
        is_whole = ground_whole w g;
        site = l;
        small =
            wider_forms form_limit (2 * weight_limit + 1) (values_of base) _ (omega arith)
            (accepted_forms w g (sites_of w) g.site base accepted h.made within l);
      }

  all_of : (gs : List Ground) → All (IsCalled w) gs → Each (λ (g : PlannedCall). g.site < sites_of w) (map (planned_call w) gs) → Each CanCertify (map (planned_call w) gs)
  unfolding plan_definitions
  all_of [] h k = tt
  all_of (g ∷ gs) h k = (one g (h 0 g (omega arith)) k.0, all_of gs (λ i d l. h (suc i) d (omega (arith, l))) k.1)

  pub can_certify : Each CanCertify (planned w)
  unfolding plan_definitions
  can_certify = all_of (grounds w) (are_called w accepted) (all_sites_below w accepted)

  each_in : (xs ys : List PlannedCall) → ((x : PlannedCall) → Member x xs → Member x ys) → Each (λ x. Member x ys) xs
  unfolding plan_definitions
  each_in [] ys h = tt
  each_in (x ∷ xs) ys h = (h x (inl refl), each_in xs ys (λ y m. h y (inr m)))

  none_from :
      (c : Certificate) (n : ℕ) (gs : List PlannedCall) → Each (λ g. call_faults c (certified_call (sites_of w) g) ≡ []) gs →
      faults_from n c (map (certified_call (sites_of w)) gs) ≡ []
  unfolding definitions plan_definitions
  none_from c n [] h = refl
  none_from c n (g ∷ gs) h =
      none_and (map (at_call n) (call_faults c (certified_call (sites_of w) g))) (faults_from (suc n) c (map (certified_call (sites_of w)) gs))
      (ap (map (at_call n)) h.0) (none_from c (suc n) gs h.1)

  all_none_of :
      (config : Config) (gs : List PlannedCall) → Each CanCertify gs → Each (λ g. Member g (planned w)) gs →
      Each (λ g. call_faults (certificate_of w base config) (certified_call (sites_of w) g) ≡ []) gs
  unfolding definitions plan_definitions
  all_none_of config [] h m = tt
  all_none_of config (g ∷ gs) h m = (
    no_faults (sites_of w) (values_of base) (template_at w base) g (template_covers (sites_of w) (values_of base) (planned w) g m.0) h.0.is_whole h.0.small,
    all_none_of config gs h.1 m.1,
  )

  pub certified_is_valid : (config : Config) → Fits (sites_of w) (template_at w base).clauses config → verdict_of (certificate_of w base config) ≡ verdict.Valid
  unfolding definitions plan_definitions
  certified_is_valid config fits =
      let c = certificate_of w base config in
      let calls = none_from c 0 (planned w) (all_none_of config (planned w) can_certify (each_in (planned w) (planned w) (λ x m. m))) in
      ap first_of_all (none_and (misfits 0 c.clauses c.bounds) (faults_from 0 c c.calls) (no_misfits (sites_of w) 0 c.clauses c.bounds fits) calls)
