-- Shares are one for each site, and not all of them 0; in an accepted workload none is above 1,000. Without weights each is 1.
use Rattle.homeo_meaning.specs.Key.{definitions as meaning_definitions}
use Rattle.homeo_plan.specs.Key.{definitions}
use Rattle.std.proofs.Common.{◌≡◌, ℕ, zero, suc, ◌<◌, ◌≤◌, Bool, true, false, List, [], ◌∷◌, map, length, sum, ℤ, pos, negsuc, int_lt, refl, ap, true≢false, arith, replicate}
use Rattle.std.specs.Prelude.{◌==◌, if◌then◌else◌}
use Rattle.std.specs.List.{range_with_len, flat_map}
use Rattle.std.proofs.lemmas.List.FromFn.{length-map-range_with_len}
use Rattle.std.proofs.lemmas.List.Sums.{sum_by-cons}
use Rattle.homeo_lemmas.proofs.Lists.{not_nil}
use Rattle.homeo_syntax.specs.Source as s
use Rattle.homeo_syntax.specs.declared.phrase.Number.{Number}
use Rattle.homeo_meaning.specs.declared.call.Purpose.TheVariants.{Run}
use Rattle.homeo_meaning.specs.declared.rules.Phase.TheVariants.{Bounds}
use Rattle.homeo_meaning.specs.Acceptance.{IsAccepted}
use Rattle.homeo_meaning.specs.ListRules.{when, number_fault}
use Rattle.homeo_meaning.specs.NumberRules.{largest_weight, too_heavy, weight_list_faults}
use Rattle.homeo_meaning.specs.Schema.{nat_of}
use Rattle.homeo_meaning.proofs.FaultParts.{none_first, none_second, parts, declared_parts}
use Rattle.homeo_plan.specs.Each.{Each}
use Rattle.homeo_plan.specs.Config.{AreShares}
use Rattle.homeo_plan.specs.Planned.{sites_of, planned, shares_of}
use Rattle.homeo_plan.specs.Shares.{weight_of, takes_part, own_share, or_even, shares}
use Rattle.homeo_plan.specs.Template.{PlannedCall, Clause}

-- ---- 1 for each site
unfoldable pub ones : ℕ → List ℕ
ones k = replicate k 1

pub ones_count : (n : ℕ) → length (ones n) ≡ n
unfolding ones
ones_count zero = refl
ones_count (suc n) = ap suc (ones_count n)

pub ones_sum : (n : ℕ) → sum (ones n) ≡ n
unfolding ones
ones_sum zero = refl
ones_sum (suc n) = omega (arith, sum_by-cons (λ x. x) 1 (ones n), ones_sum n)

pub one_each : (k : ℕ) → 0 < k → AreShares k (replicate k 1)
unfolding ones
one_each k lt = record { count = ones_count k; some = omega (arith, ones_sum k) }

-- ---- by weight
is_some : (n : ℕ) → (n == 0) ≡ false → 1 ≤ n
is_some zero e = absurd (true≢false e)
is_some (suc n) e = omega arith

or_even_shares : (k : ℕ) → 0 < k → (qs : List ℕ) → length qs ≡ k → AreShares k (or_even k qs)
unfolding definitions
or_even_shares k lt qs count = go (sum qs == 0) refl
  where
    go : (b : Bool) → (sum qs == 0) ≡ b → AreShares k (if b then replicate k 1 else qs)
    go true e = one_each k lt
    go false e = record { count = count; some = is_some (sum qs) e }

pub are_shares : (k : ℕ) → 0 < k → (ws : List Number) (gs : List PlannedCall) (c : Clause) → AreShares k (shares k ws gs c)
unfolding definitions
are_shares k lt ws gs c = or_even_shares k lt (map (own_share k ws gs c) (range_with_len 0 k)) (length-map-range_with_len (own_share k ws gs c) 0 k)

-- ---- without weights
either_way : (b : Bool) (n : ℕ) → (if b then n else n) ≡ n
either_way true n = refl
either_way false n = refl

none_own : (k : ℕ) (gs : List PlannedCall) (c : Clause) (is : List ℕ) → sum (map (own_share k [] gs c) is) ≡ 0
unfolding definitions
none_own k gs c [] = refl
none_own k gs c (i ∷ is) =
    omega (arith, sum_by-cons (λ x. x) (own_share k [] gs c i) (map (own_share k [] gs c) is), either_way (takes_part k gs c i) 0, none_own k gs c is)

pub even_without : (k : ℕ) (gs : List PlannedCall) (c : Clause) → shares k [] gs c ≡ replicate k 1
unfolding definitions
even_without k gs c =
    ap (λ (n : ℕ). if n == 0 then replicate k 1 else map (own_share k [] gs c) (range_with_len 0 k)) (none_own k gs c (range_with_len 0 k))

-- ---- none is above 1,000
abbrev most : ℕ
most = 1000

abbrev pub IsLight : Number → Type 0
IsLight n = nat_of n.value ≤ most

light_number : (z : ℤ) → int_lt (pos 1000) z ≡ false → nat_of z ≤ most
unfolding meaning_definitions
light_number (pos n) e = grind arith
light_number (negsuc n) e = omega arith

light_weight : (n : Number) → too_heavy n ≡ [] → IsLight n
unfolding meaning_definitions
light_weight n e = go (int_lt largest_weight n.value) refl e
  where
    go : (b : Bool) → int_lt largest_weight n.value ≡ b → when b (number_fault Bounds n) ≡ [] → nat_of n.value ≤ most
    go true is e = absurd (not_nil _ _ e)
    go false is e = light_number n.value is

light_weights : (ns : List Number) → flat_map too_heavy ns ≡ [] → Each IsLight ns
unfolding definitions
light_weights [] e = tt
light_weights (n ∷ ns) e =
    (light_weight n (none_first (too_heavy n) (flat_map too_heavy ns) e), light_weights ns (none_second (too_heavy n) (flat_map too_heavy ns) e))

light_at : (ns : List Number) → Each IsLight ns → (i : ℕ) → weight_of ns i ≤ most
unfolding definitions
light_at [] h i = omega arith
light_at (n ∷ ns) h zero = h.0
light_at (n ∷ ns) h (suc i) = light_at ns h.1 i

light_if : (b : Bool) (n : ℕ) → n ≤ most → (if b then n else 0) ≤ most
light_if true n h = h
light_if false n h = omega arith

pub light_own : (k : ℕ) (ws : List Number) (gs : List PlannedCall) (c : Clause) → Each IsLight ws → (is : List ℕ) → Each (λ q. q ≤ most) (map (own_share k ws gs c) is)
unfolding definitions
light_own k ws gs c h [] = tt
light_own k ws gs c h (i ∷ is) = (light_if (takes_part k gs c i) (weight_of ws i) (light_at ws h i), light_own k ws gs c h is)

light_ones : (k : ℕ) → Each (λ q. q ≤ most) (ones k)
unfolding definitions ones
light_ones zero = tt
light_ones (suc k) = (omega arith, light_ones k)

light_or : (k : ℕ) (qs : List ℕ) → Each (λ q. q ≤ most) qs → Each (λ q. q ≤ most) (or_even k qs)
unfolding definitions ones
light_or k qs h = go (sum qs == 0)
  where
    go : (b : Bool) → Each (λ q. q ≤ most) (if b then ones k else qs)
    go true = light_ones k
    go false = h

pub weights_light : (w : s.Workload) → IsAccepted w → Each IsLight w.weights
unfolding meaning_definitions
weights_light w accepted =
    light_weights w.weights
    (none_second (weight_list_faults w.sites w.weights) (flat_map too_heavy w.weights) (declared_parts w (parts Run w accepted.rules).text.declared).weights)

pub shares_small : (w : s.Workload) → IsAccepted w → (c : Clause) → Each (λ q. q ≤ 1000) (shares_of w c)
unfolding definitions
shares_small w accepted c =
    light_or (sites_of w) (map (own_share (sites_of w) w.weights (planned w) c) (range_with_len 0 (sites_of w)))
    (light_own (sites_of w) w.weights (planned w) c (weights_light w accepted) (range_with_len 0 (sites_of w)))
