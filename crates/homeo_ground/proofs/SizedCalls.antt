-- The L forms of an accepted workload's calls are small, each and together, and what a call names is the transaction of its ground call.
use Rattle.std.proofs.Common.{◌≡◌, ℕ, ◌+◌, ◌≤◌, Bool, true, false, ◌||◌, List, [], ◌∷◌, ◌++◌, map, ℤ, refl, sym, ap, ◌∙◌, arith}
use Rattle.std.specs.Prelude.{slice_get, nat_lt}
use Rattle.std.specs.List.{flat_map, sum_by}
use Rattle.std.proofs.lemmas.Bool.Decides.{nat_tests}
use Rattle.std.proofs.lemmas.List.Sums.{sum_by-append, sum_by-cons}
use Rattle.homeo_syntax.specs.Key.{definitions as syntax_definitions}
use Rattle.homeo_syntax.specs.Source as s
use Rattle.homeo_syntax.specs.declared.phrase.Ident.{Ident}
use Rattle.homeo_syntax.specs.WellFormed.{Each as Every}
use Rattle.homeo_meaning.specs.Key.{definitions as meaning_definitions}
use Rattle.homeo_meaning.specs.declared.call.Purpose.TheVariants.{Run}
use Rattle.homeo_meaning.specs.declared.rules.Fault.{Fault}
use Rattle.homeo_meaning.specs.declared.rules.Phase.TheVariants.{Size}
use Rattle.homeo_meaning.specs.Acceptance.{IsAccepted}
use Rattle.homeo_meaning.specs.CallRules.{call_faults, client_faults}
use Rattle.homeo_meaning.specs.Declarations.{declarations, place_of}
use Rattle.homeo_meaning.specs.GlobalNames.{SitedCall, scope_of, transaction_at, called, sited_calls_of, sited_calls}
use Rattle.homeo_meaning.specs.ListRules.{when, fault, each_from}
use Rattle.homeo_meaning.specs.NumberRules.{site_faults, ground_calls}
use Rattle.homeo_meaning.specs.Serial.{arguments}
use Rattle.homeo_meaning.specs.SizeRules.{extent_of, too_large}
use Rattle.homeo_meaning.proofs.FaultParts.{NoFault, none_first, none_second, parts, declared_parts}
use Rattle.homeo_meaning.proofs.SoundRules.{names_one, named-is}
use Rattle.homeo_meaning.proofs.TransactionPlaces.{transaction_place}
use Rattle.homeo_ground.proofs.Limits.{each-append, distinct-each}

-- ---- calls without a fault of size
size_small :
    (n total : ℕ) (deep : Bool) (x : Ident) → when (nat_lt 200000 n || deep || nat_lt 2000000 total) (fault Size x) ≡ [] →
    (n ≤ 200000) × (total ≤ 2000000)
unfolding meaning_definitions
size_small n total deep x e = go (nat_lt 200000 n) deep (nat_lt 2000000 total) refl refl e
  where
    go :
        (u v t : Bool) → nat_lt 200000 n ≡ u → nat_lt 2000000 total ≡ t → when (u || v || t) (fault Size x) ≡ [] →
        (n ≤ 200000) × (total ≤ 2000000)
    go true v t p q e = absurd (cc)
    go false true t p q e = absurd (cc)
    go false false true p q e = absurd (cc)
    go false false false p q e = (grind (arith, nat_tests, p), grind (arith, nat_tests, q))

module _ (w : s.Workload) where
  -- each of these calls is small, and with those before they are
  pub record AreSized (before cs : List SitedCall) : Type 0 where
    pub each : Every (λ c. (extent_of w c).size ≤ 200000) cs
    pub together : sum_by (λ c. (extent_of w c).size) before + sum_by (λ c. (extent_of w c).size) cs ≤ 2000000

  sized_from :
      (before cs : List SitedCall) → each_from (too_large (extent_of w)) before cs ≡ [] →
      sum_by (λ c. (extent_of w c).size) before ≤ 2000000 → AreSized before cs
  unfolding meaning_definitions syntax_definitions
  sized_from before [] e h = record { each = tt; together = omega (arith, h) }
  sized_from before (c ∷ cs) e h =
      let first : List Fault = too_large (extent_of w) before c in
      let rest : List Fault = each_from (too_large (extent_of w)) (before ++ c ∷ []) cs in
      let here =
      size_small (extent_of w c).size (sum_by (λ d. (extent_of w d).size) before + (extent_of w c).size) (nat_lt 1000 (extent_of w c).depth)
      c.name (none_first first rest e) in
      let one = sum_by-append (λ d. (extent_of w d).size) before (c ∷ []) in
      let last = sum_by-cons (λ d. (extent_of w d).size) c [] in
      let more = sum_by-cons (λ d. (extent_of w d).size) c cs in
      let r = sized_from (before ++ c ∷ []) cs (none_second first rest e) (omega (arith, one, last, here.1)) in
      record { each = (here.0, r.each); together = omega (arith, one, last, more, r.together) }

  -- ---- what a call names is the transaction of the ground call
  abbrev pub IsNamed : SitedCall → Type 0
  IsNamed c = called w c.name ≡ slice_get w.transactions (place_of (declarations w).transactions c.name.name)

  one_named :
      (c : s.Call) → call_faults w.transactions ((scope_of w).item c.name.name) c ≡ [] →
      called w c.name ≡ slice_get w.transactions (place_of (declarations w).transactions c.name.name)
  unfolding meaning_definitions
  one_named c e =
      let k = names_one w c ((scope_of w).item c.name.name) e in
      ap (transaction_at w) k.1 ∙ sym (named-is w c.name.name k.0 k.1) ∙ sym (transaction_place w c.name.name)

  calls_named :
      (site : ℤ) (calls : List s.Call) →
      flat_map (λ (c : s.Call). call_faults w.transactions ((scope_of w).item c.name.name) c) calls ≡ [] →
      Every IsNamed (map (λ (c : s.Call). record { name = c.name; args = arguments c; site = site }) calls)
  unfolding meaning_definitions syntax_definitions
  calls_named site [] e = tt
  calls_named site (c ∷ calls) e =
      let first : List Fault = call_faults w.transactions ((scope_of w).item c.name.name) c in
      let rest : List Fault = flat_map (λ (c : s.Call). call_faults w.transactions ((scope_of w).item c.name.name) c) calls in
      (one_named c (none_first first rest e), calls_named site calls (none_second first rest e))

  clients_named :
      (cs : List s.Client) → flat_map (client_faults w.sites (scope_of w) w.transactions) cs ≡ [] →
      Every IsNamed (flat_map sited_calls_of cs)
  unfolding meaning_definitions syntax_definitions
  clients_named [] e = tt
  clients_named (c ∷ cs) e =
      let faults : List Fault = flat_map (λ (call : s.Call). call_faults w.transactions ((scope_of w).item call.name.name) call) c.calls in
      let sites : List Fault = site_faults w.sites c.site in
      let more : List Fault = flat_map (client_faults w.sites (scope_of w) w.transactions) cs in
      each-append IsNamed (sited_calls_of c) (flat_map sited_calls_of cs)
      (calls_named c.site.value c.calls (none_first faults sites (none_first (faults ++ sites) more e)))
      (clients_named cs (none_second (faults ++ sites) more e))

  -- ---- an accepted workload's calls
  module _ (accepted : IsAccepted w) where
    clean : NoFault Run w
    clean = parts Run w accepted.rules

    pub all_sized : AreSized [] (ground_calls w)
    unfolding meaning_definitions
    all_sized = sized_from [] (ground_calls w) clean.form.sizes (omega arith)

    pub all_named : Every IsNamed (ground_calls w)
    unfolding meaning_definitions syntax_definitions
    all_named = distinct-each IsNamed (sited_calls w) [] (clients_named w.clients (declared_parts w clean.text.declared).clients) tt
