-- The text of an accepted workload's certificate has no verdict but that it is valid.
use Rattle.std.proofs.Common.{◌≡◌, ℕ, zero, suc, ◌≤◌, ◌+◌, ◌-◌, ◌^◌, Bool, true, false, List, [], ◌∷◌, ◌++◌, map, length, length-append, ℤ, Option, Some, None, subst, arith}
use Rattle.std.specs.Prelude.{Result, Ok, Err, if◌then◌else◌}
use Rattle.std.specs.List.{list_any}
use Rattle.std.proofs.lemmas.List.{length-map}
use Rattle.std.specs.Result.{result_map_both}
use Rattle.std.specs.Str.{bytes_eq}
use Rattle.homeo_syntax.specs.declared.token.Version.{Version}
use Rattle.homeo_syntax.specs.Lexemes.{Lexeme, Name, Number, Fixed, is_space, lexeme_of}
use Rattle.homeo_syntax.specs.Reads.{Reads}
use Rattle.homeo_syntax.specs.Rules as rules
use Rattle.homeo_syntax.specs.Rules.{rule, limit, IsWorkload}
use Rattle.homeo_syntax.specs.Grammar.{Means}
use Rattle.homeo_syntax.specs.Source as s
use Rattle.homeo_syntax.specs.Tokens.{Scanned, version_of, scanned_in, in_version, in_front, found, scanned_from, with_lexeme, names_after, names_of}
use Rattle.homeo_meaning.specs.declared.call.Purpose.TheVariants.{Run}
use Rattle.homeo_meaning.specs.Acceptance.{IsAccepted}
use Rattle.homeo_meaning.specs.Bounds.{IsWithin}
use Rattle.homeo_meaning.specs.Ground.{Ground, grounds}
use Rattle.homeo_meaning.specs.Schema.{schema_of}
use Rattle.homeo_meaning.proofs.FaultParts.{NoFault, parts, limit_parts}
use Rattle.homeo_plan.specs.Key.{definitions as plan_definitions}
use Rattle.homeo_plan.specs.Config.{Config, Fits}
use Rattle.homeo_plan.specs.Each.{Each}
use Rattle.homeo_plan.specs.Planned.{sites_of, planned_call, template_at}
use Rattle.homeo_plan.specs.Template.{PlannedCall}
use Rattle.homeo_certificate.specs.declared.verdict.Verdict.{Verdict}
use Rattle.homeo_certificate.specs.declared.verdict.Verdict.TheVariants as verdict
use Rattle.homeo_certificate.specs.Certified.{certificate_of}
use Rattle.homeo_certificate.specs.Nesting.{nesting}
use Rattle.homeo_certificate.specs.Text.{text_of}
use Rattle.homeo_certificate.specs.Verdict.{IsVerdictOn}
use Rattle.homeo_reader.proofs.Keeps.{Sound, sound_as}
use Rattle.homeo_certified.proofs.CertificatesInShape.{few_number, count_few, only_valid}
use Rattle.homeo_certified.proofs.GroundsInShape.{calls_in_shape}
use Rattle.homeo_certified.proofs.TextNesting.{any, fine, ground_nests}

-- ---- a text has no more names than bytes
FewIf : ℕ → Result (List Scanned) ℕ → Type 0
FewIf n (Ok ts) = length ts ≤ n
FewIf n (Err at) = Unit {0}

wider : (n : ℕ) (r : Result (List Scanned) ℕ) → FewIf n r → FewIf (suc n) r
unfolding FewIf
wider n (Ok ts) h = omega (arith, h)
wider n (Err at) h = tt

front_few : (n : ℕ) (t : Scanned) (r : Result (List Scanned) ℕ) → FewIf n r → FewIf (suc n) (in_front t r)
unfolding FewIf
front_few n t (Ok ts) h = omega (arith, h)
front_few n t (Err at) h = tt

found_few :
    (n at : ℕ) (o : Option (Lexeme × ℕ)) (behind : ℕ → Result (List Scanned) ℕ) → ((m : ℕ) → FewIf n (behind m)) → FewIf (suc n) (found at o behind)
unfolding FewIf
found_few n at None behind k = tt
found_few n at (Some l) behind k = front_few n (record { lexeme = l.0; offset = at }) (behind (l.1 - 1)) (k (l.1 - 1))

few_scanned : (skip at : ℕ) (bytes : List ℕ) → FewIf (length bytes) (scanned_from skip at bytes)
unfolding scanned_from FewIf
few_scanned zero at [] = omega arith
few_scanned (suc skip) at [] = omega arith
few_scanned (suc skip) at (b ∷ bytes) = wider (length bytes) (scanned_from skip (at + 1) bytes) (few_scanned skip (at + 1) bytes)
few_scanned zero at (b ∷ bytes) = go (is_space b) (λ m. few_scanned m (at + 1) bytes)
  where
    go :
        (v : Bool) → ((m : ℕ) → FewIf (length bytes) (scanned_from m (at + 1) bytes)) →
        FewIf (suc (length bytes)) (if v then scanned_from 0 (at + 1) bytes else found at (lexeme_of (b ∷ bytes)) (λ more. scanned_from more (at + 1) bytes))
    go true k = wider (length bytes) (scanned_from 0 (at + 1) bytes) (k 0)
    go false k = found_few (length bytes) at (lexeme_of (b ∷ bytes)) (λ more. scanned_from more (at + 1) bytes) k

few_versioned : (n : ℕ) (r : Result (List Scanned) ℕ) → FewIf n r → FewIf n (result_map_both in_version (λ at. at) r)
unfolding FewIf
few_versioned n (Ok ts) h = let e = length-map ts (scanned_in (version_of ts)) in omega (arith, e, h)
few_versioned n (Err at) h = tt

one_more : (names : List (List ℕ)) (l : Lexeme) → length (with_lexeme names l) ≤ suc (length names)
one_more names (Name w) = go (list_any (bytes_eq w) names)
  where
    go : (v : Bool) → length (if v then names else names ++ w ∷ []) ≤ suc (length names)
    go true = omega arith
    go false = let e = length-append names (w ∷ []) in omega (arith, e)
one_more names (Number n) = omega arith
one_more names (Fixed m) = omega arith

names_few : (names : List (List ℕ)) (ts : List Scanned) → length (names_after names ts) ≤ length names + length ts
names_few names [] = omega arith
names_few names (t ∷ ts) =
    let h = one_more names t.lexeme in
    let k = names_few (with_lexeme names t.lexeme) ts in
    omega (arith, h, k)

own_names : (v : Version) (names : List (List ℕ)) → Sound (Means rule limit) (λ t. Unit {0}) (rules.workload v names) (λ w. length w.names ≤ length names)
own_names v names = sound_as _ _ _ _ (λ x. Unit {0}) (λ w. length w.names ≤ length names) (any _) (λ p h. omega arith)

pub text_names : (text : List ℕ) (w : s.Workload) → Reads text w → length w.names ≤ length text
unfolding IsWorkload FewIf
text_names text w r =
    let h : length w.names ≤ length (names_of r.scanned) = (own_names _ (names_of r.scanned)).of w _ r.spells (fine _) in
    let k : length r.scanned ≤ length text = subst (FewIf (length text)) r.lexemes (few_versioned (length text) (scanned_from 0 0 text) (few_scanned 0 0 text)) in
    let m = names_few [] r.scanned in
    omega (arith, h, k, m)

-- ---- certificates
module _ (text : List ℕ) (w : s.Workload) (base : List ℤ) (reads : Reads text w) (few : length w.names ≤ 2 ^ 32) (accepted : IsAccepted w) where
  all_nest : (gs : List Ground) → Each (λ (g : PlannedCall). nesting g.command ≤ 998) (map (planned_call w) gs)
  unfolding plan_definitions
  all_nest [] = tt
  all_nest (g ∷ gs) = let n = ground_nests text w g reads accepted in (omega (arith, n), all_nest gs)

  few_sites : sites_of w ≤ 16
  unfolding plan_definitions
  few_sites =
      let p : NoFault Run w = parts Run w accepted.rules in
      (count_few w.sites.value (few_number w.sites (limit_parts w p.text.limits).sites)).few

  pub certified_is_valid :
      (config : Config) → IsWithin (schema_of w) base → Fits (sites_of w) (template_at w base).clauses config →
      (v : Verdict) → IsVerdictOn (text_of (certificate_of w base config)) v → v ≡ verdict.Valid
  unfolding plan_definitions
  certified_is_valid config within fits =
      only_valid w base config accepted within fits (calls_in_shape w accepted base within few_sites few (all_nest (grounds w)))

pub certified_texts_are_valid :
    (text : List ℕ) (w : s.Workload) (base : List ℤ) (config : Config) → Reads text w → length w.names ≤ 2 ^ 32 → IsAccepted w →
    IsWithin (schema_of w) base → Fits (sites_of w) (template_at w base).clauses config →
    (v : Verdict) → IsVerdictOn (text_of (certificate_of w base config)) v → v ≡ verdict.Valid
certified_texts_are_valid text w base config reads few accepted within fits = certified_is_valid text w base reads few accepted config within fits
