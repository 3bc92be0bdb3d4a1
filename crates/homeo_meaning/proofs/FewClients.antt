-- A list without faults of a limit is within it, and so an accepted workload has at most 64 clients.
use Rattle.homeo_meaning.specs.Key.{definitions as meaning_definitions}
use Rattle.std.proofs.Common.{◌≡◌, ℕ, ◌+◌, ◌≤◌, ◌==◌, List, [], ◌∷◌, ◌++◌, length, arith, length-append}
use Rattle.std.proofs.lemmas.Bool.{eqb-false}
use Rattle.homeo_syntax.specs.Source as s
use Rattle.homeo_syntax.specs.declared.phrase.Ident.{Ident}
use Rattle.homeo_meaning.specs.Acceptance.{IsAccepted}
use Rattle.homeo_meaning.specs.NumberRules.{passes_limit, limit_faults}
use Rattle.homeo_meaning.specs.TransactionRules.{each_from}
use Rattle.homeo_meaning.specs.declared.call.Purpose.TheVariants.{Run}
use Rattle.homeo_meaning.proofs.FaultParts.{none_first, none_second, parts, limit_parts}
use Rattle.homeo_meaning.proofs.SoundRelations.{when_none}

-- as many items as a limit allows
pub few_from : {A : Type 0} (limit : ℕ) (name : A → Ident) (before xs : List A) → length before ≤ limit → each_from (passes_limit limit name) before xs ≡ [] → length before + length xs ≤ limit
unfolding meaning_definitions
few_from limit name before [] most none = omega (arith, most)
few_from limit name before (x ∷ xs) most none =
    let here : length before ≡ limit → ⊥ = eqb-false (length before) limit (when_none (length before == limit) _ (none_first (passes_limit limit name before x) (each_from (passes_limit limit name) (before ++ x ∷ []) xs) none)) in
    let longer : length (before ++ x ∷ []) ≡ length before + 1 = length-append before (x ∷ []) in
    let next : length (before ++ x ∷ []) ≤ limit = omega (arith, most, here, longer) in
    let whole = few_from limit name (before ++ x ∷ []) xs next (none_second (passes_limit limit name before x) (each_from (passes_limit limit name) (before ++ x ∷ []) xs) none) in
    omega (arith, whole, longer)

pub few_clients : (w : s.Workload) → limit_faults w ≡ [] → length w.clients ≤ 64
unfolding meaning_definitions
few_clients w none =
    let many = few_from 64 (λ (c : s.Client). c.name) [] w.clients (omega arith) (limit_parts w none).clients in omega (arith, many)

pub clients_few : (w : s.Workload) → IsAccepted w → length w.clients ≤ 64
clients_few w accepted = few_clients w (parts Run w accepted.rules).text.limits
