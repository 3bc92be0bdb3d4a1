-- Bytes without a newline at their end, and bytes that are too many.
use Rattle.std.proofs.Common.{◌≡◌, ◌≢◌, ◌==◌, Bool, true, false, cond, ◌∙◌, ◌≤◌, ◌+◌, ◌++◌, ℕ, List, [], ◌∷◌, Some, None, codes, length, refl, sym, ap, arith}
use denote.Ref.{Bor}
use Rattle.std.proofs.lemmas.Bool.Decides.{Decides-eqb}
use Rattle.std.specs.Option.{MatchOption, unwrap_or}
use Rattle.std.specs.declared.option.Option.{Option}
use Rattle.homeo_io.specs.Moved.{Gave}
use Rattle.homeo_syntax.specs.declared.workload.Refusal.{Refusal}
use Rattle.homeo_commands.specs.Certified.{certificate_limit, unended, IsUnverified}
use Rattle.homeo_commands.proofs.Decided.{told_is_long}

-- a line without its end
pub unended_line : (bytes : List ℕ) → unended (bytes ++ codes "\n") ≡ bytes
unended_line [] = refl
unended_line (b ∷ []) = refl
unended_line (b ∷ d ∷ bytes) = ap (λ t. b ∷ t) (unended_line (d ∷ bytes))

-- bytes that don't end so stay
pub unended_other : (bytes : List ℕ) → ((front : List ℕ) → bytes ≢ front ++ codes "\n") → unended bytes ≡ bytes
unended_other [] apart = refl
unended_other (b ∷ []) apart = by (b == 10) refl
  where
    by : (v : Bool) → (b == 10) ≡ v → unended (b ∷ []) ≡ b ∷ []
    by true is = absurd (apart [] (ap (λ n. n ∷ []) ((Decides-eqb b 10).0 is)))
    by false is = ap (λ v. cond v [] (b ∷ [])) is
unended_other (b ∷ d ∷ bytes) apart = ap (λ t. b ∷ t) (unended_other (d ∷ bytes) (λ front is. apart (b ∷ front) (ap (λ t. b ∷ t) is)))

-- what is before the end, if there is one
pub unended_of :
    (bytes : Bor (List ℕ)) (front : Option (Bor (List ℕ))) → MatchOption front ((xs : List ℕ) → bytes.now ≢ xs ++ codes "\n") (λ x. bytes.now ≡ x.now ++ codes "\n")
    → (unwrap_or front bytes).now ≡ unended bytes.now
unended_of bytes None apart = sym (unended_other bytes.now apart)
unended_of bytes (Some x) is = sym (ap unended is ∙ unended_line x.now)

-- ---- bytes that are too many
unended_long : (bytes : List ℕ) → length bytes ≤ length (unended bytes) + 1
unended_long [] = omega arith
unended_long (b ∷ []) = omega arith
unended_long (b ∷ d ∷ bytes) = omega (arith, unended_long (d ∷ bytes))

pub refuses_many : (old new : Option (List ℕ)) (bytes : List ℕ) (r : Refusal) → old ≡ Some bytes → Gave old new (certificate_limit + 2)
    → r ≡ record { code = 2; offset = certificate_limit } → IsUnverified bytes r
refuses_many old new bytes r e g is = record { long = omega (arith, told_is_long old new bytes (certificate_limit + 2) e g, unended_long bytes); refusal = is }
