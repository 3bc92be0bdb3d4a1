-- What comes after as much as there may be is the one that the rule finds.
use Rattle.std.proofs.Common.{◌≡◌, ℕ, ℤ, zero, suc, ◌+◌, ◌<◌, true, false, ◌==◌, List, [], ◌∷◌, ◌++◌, map, Option, Some, None, length, refl, ap, ◌∙◌, arith, append_assoc}
use Rattle.std.specs.Prelude.{slice_get}
use Rattle.std.specs.List.{flat_map}
use Rattle.std.proofs.lemmas.Bool.Decides.{nat_tests}
use Rattle.std.proofs.lemmas.List.{length-append, map-append}
use Rattle.homeo_syntax.specs.Key.{definitions as syntax_definitions}
use Rattle.homeo_syntax.specs.Source as p
use Rattle.homeo_syntax.specs.SourceView.{plain_transaction, plain_client, plain_call}
use Rattle.homeo_syntax.specs.declared.phrase.Ident.{Ident}
use Rattle.homeo_syntax.specs.declared.phrase.Number.{Number}
use Rattle.homeo_syntax.specs.declared.workload.Call.{Call}
use Rattle.homeo_syntax.specs.declared.workload.Transaction.{Transaction}
use Rattle.homeo_syntax.specs.declared.workload.Client.{Client}
use Rattle.homeo_meaning.specs.Key.{definitions as meaning_definitions}
use Rattle.homeo_meaning.specs.NameRules.{when, fault}
use Rattle.homeo_meaning.specs.TransactionRules.{each, each_from}
use Rattle.homeo_meaning.specs.GlobalNames as g
use Rattle.homeo_meaning.specs.GlobalNames.{sited_calls_of}
use Rattle.homeo_meaning.specs.Serial.{arguments}
use Rattle.homeo_meaning.specs.NumberRules.{passes_limit}
use Rattle.homeo_meaning.specs.declared.rules.Fault.{Fault}
use Rattle.homeo_meaning.specs.declared.rules.Phase.TheVariants.{Limits}
use Rattle.homeo_rules.specs.inner.Limited.{transaction_passing, client_passing, call_passing}
use Rattle.homeo_ground.specs.Sited.{sited}
use Rattle.homeo_rules.specs.inner.Sited.{sited_at, sited_of}
use Rattle.homeo_ground.specs.declared.sited.SitedCall.{SitedCall}

abbrev pub passing : {A : Type 0} → (A → Ident) → Option A → List Fault
passing name None = []
passing name (Some x) = fault Limits (name x)

module _ {A : Type 0} (most : ℕ) (name : A → Ident) where
  longer : (before : List A) (x : A) → length (before ++ x ∷ []) ≡ length before + 1
  longer before x = length-append before (x ∷ [])

  past : (before xs : List A) → most < length before → each_from (passes_limit most name) before xs ≡ []
  unfolding meaning_definitions
  past before [] h = refl
  past before (x ∷ xs) h =
      let other : (length before == most) ≡ false = grind (arith, nat_tests) in
      let more : most < length (before ++ x ∷ []) = omega (arith, longer before x) in
      ap (λ b. when b (fault Limits (name x)) ++ each_from (passes_limit most name) (before ++ x ∷ []) xs) other ∙ past (before ++ x ∷ []) xs more

  finds : (before : List A) (k : ℕ) (xs : List A) → length before + k ≡ most → each_from (passes_limit most name) before xs ≡ passing name (slice_get xs k)
  unfolding meaning_definitions
  finds before k [] e = refl
  finds before zero (x ∷ xs) e =
      let same : (length before == most) ≡ true = grind (arith, nat_tests) in
      let more : most < length (before ++ x ∷ []) = omega (arith, longer before x) in
      ap (λ b. when b (fault Limits (name x)) ++ each_from (passes_limit most name) (before ++ x ∷ []) xs) same
      ∙ ap (λ fs. fault Limits (name x) ++ fs) (past (before ++ x ∷ []) xs more)
  finds before (suc k) (x ∷ xs) e =
      let other : (length before == most) ≡ false = grind (arith, nat_tests) in
      let next : length (before ++ x ∷ []) + k ≡ most = omega (arith, longer before x) in
      ap (λ b. when b (fault Limits (name x)) ++ each_from (passes_limit most name) (before ++ x ∷ []) xs) other
      ∙ finds (before ++ x ∷ []) k xs next

  pub limit-is : (xs : List A) → each (passes_limit most name) xs ≡ passing name (slice_get xs most)
  unfolding meaning_definitions
  limit-is xs = finds [] most xs (omega arith)

pub transaction-plain : (ts : List Transaction) (k : ℕ) → passing (λ (t : p.Transaction). t.name) (slice_get (map plain_transaction ts) k) ≡ transaction_passing (slice_get ts k)
unfolding syntax_definitions
transaction-plain [] k = refl
transaction-plain (t ∷ ts) zero = refl
transaction-plain (t ∷ ts) (suc k) = transaction-plain ts k

pub client-plain : (cs : List Client) (k : ℕ) → passing (λ (c : p.Client). c.name) (slice_get (map plain_client cs) k) ≡ client_passing (slice_get cs k)
unfolding syntax_definitions
client-plain [] k = refl
client-plain (c ∷ cs) zero = refl
client-plain (c ∷ cs) (suc k) = client-plain cs k

pub call-plain : (cs : List SitedCall) (k : ℕ) → passing (λ (c : g.SitedCall). c.name) (slice_get (map sited cs) k) ≡ call_passing (slice_get cs k)
call-plain [] k = refl
call-plain (c ∷ cs) zero = refl
call-plain (c ∷ cs) (suc k) = call-plain cs k

-- ---- calls with their sites
abbrev record_of : p.Call → ℤ → g.SitedCall
record_of call site = record { name = call.name; args = arguments call; site = site }

sited-at : (site : Number) (calls : List Call) → sited_at site.value calls ≡ map (λ (call : p.Call). record_of call site.value) (map plain_call calls)
unfolding syntax_definitions
sited-at site [] = refl
sited-at site (c ∷ calls) = ap (λ l. record_of (plain_call c) site.value ∷ l) (sited-at site calls)

pub sited-plain : (cs : List Client) → sited_of cs ≡ flat_map sited_calls_of (map plain_client cs)
unfolding meaning_definitions syntax_definitions
sited-plain [] = refl
sited-plain (c ∷ cs) =
    ap (λ l. l ++ sited_of cs) (sited-at c.site c.calls.items)
    ∙ ap (λ l. map (λ (call : p.Call). record_of call c.site.value) (map plain_call c.calls.items) ++ l) (sited-plain cs)

pub ruleset siting = (map-append, append_assoc)
