-- Shares of sites as the code has them.
use Rattle.std.proofs.Common.{◌≡◌, ℕ, zero, suc, ◌+◌, ◌<◌, ◌≤◌, true, false, List, [], ◌∷◌, ◌++◌, map, length, take, sum, get_or, ℤ, pos, negsuc, ◌≤ℤ◌, to_z, of_z, w64, refl, sym, ap, ap₂, ◌∙◌, subst, arith, replicate}
use Rattle.std.specs.Prelude.{◌==◌, if◌then◌else◌}
use Rattle.std.specs.List.{range_with_len}
use Rattle.std.proofs.lemmas.Bool.{ne_eqb}
use Rattle.std.proofs.lemmas.Int.{ints}
use Rattle.std.proofs.lemmas.List.{take_more, take_all, map_push, length-map, get_or-map}
use Rattle.std.proofs.lemmas.List.FromFn.{map-range_with_len_more}
use Rattle.std.proofs.lemmas.List.Sums.{sum_by-cons, sum_by_more}
use Rattle.homeo_syntax.specs.Listed.{Listed}
use Rattle.homeo_syntax.specs.Source as s
use Rattle.homeo_syntax.specs.Key.{definitions as syntax_definitions}
use Rattle.homeo_syntax.specs.SourceView.{plain_workload}
use Rattle.homeo_syntax.specs.WellFormed as formed
use Rattle.homeo_syntax.specs.declared.phrase.Number.{Number}
use Rattle.homeo_syntax.specs.declared.workload.Workload.{Workload}
use Rattle.homeo_meaning.specs.Acceptance.{IsAccepted}
use Rattle.homeo_meaning.specs.Key.{definitions as meaning_definitions}
use Rattle.homeo_meaning.specs.Schema.{nat_of}
use Rattle.homeo_plan.specs.Key.{definitions as plan_definitions}
use Rattle.homeo_plan.specs.Config.{AreShares, CanShare, natural_list, even, split_each, split_by}
use Rattle.homeo_plan.specs.Each.{Each}
use Rattle.homeo_plan.specs.Planned.{sites_of, planned, shares_of}
use Rattle.homeo_plan.specs.Shares.{takes_part, weight_of, own_share, or_even, shares}
use Rattle.homeo_plan.specs.Template.{PlannedCall, Clause}
use Rattle.homeo_plan.specs.PlanView.{plain_clause}
use Rattle.homeo_plan.specs.declared.templates.Clause as declared
use Rattle.homeo_build.specs.inner.Sharing.{AreOrEven}
use Rattle.homeo_plan.proofs.Policy.{some_sites}
use Rattle.homeo_config.proofs.Weighted.{each_at, number_back, nat_small}
use Rattle.homeo_plan.proofs.Shares.{IsLight, are_shares, even_without, weights_light, light_own, shares_small}

-- ---- natural numbers as numbers of the code
pub back : (qs : List ℕ) → map nat_of (map pos qs) ≡ qs
unfolding meaning_definitions
back [] = refl
back (q ∷ qs) = ap (λ l. q ∷ l) (back qs)

each_natural : (qs : List ℕ) → Each (λ n. pos 0 ≤ℤ n) (map pos qs)
unfolding plan_definitions
each_natural [] = tt
each_natural (q ∷ qs) = (omega (arith, ints), each_natural qs)

each_small : (qs : List ℕ) → Each (λ q. q ≤ 1000) qs → Each (λ n. n ≤ℤ pos 1000) (map pos qs)
unfolding plan_definitions
each_small [] h = tt
each_small (q ∷ qs) h = let small = h.0 in (omega (arith, ints, small), each_small qs h.1)

pub can_share : (w : s.Workload) (c : Clause) → IsAccepted w → CanShare (sites_of w) (map pos (shares_of w c))
unfolding plan_definitions
can_share w c accepted = record {
  are = subst (AreShares (sites_of w)) (sym (back (shares_of w c))) (are_shares (sites_of w) (some_sites w accepted) w.weights (planned w) c);
  natural = each_natural (shares_of w c);
  small = each_small (shares_of w c) (shares_small w accepted c);
}

pub natural_back : (l : Listed ℤ) (qs : List ℕ) → l.items ≡ map pos qs → natural_list l ≡ qs
natural_back l qs e = ap (map nat_of) e ∙ back qs

-- ---- all of them 0
small_back : (shares : List ℤ) (qs : List ℕ) (i : ℕ) → shares ≡ map pos qs → Each (λ n. n ≤ℤ pos 1000) shares → i < length shares →
    to_z w64 (of_z w64 (get_or shares i (pos 0))) ≡ get_or shares i (pos 0)
small_back shares qs i same small h =
    number_back (get_or shares i (pos 0)) (each_at (λ n. pos 0 ≤ℤ n) shares i (pos 0) (subst (Each (λ n. pos 0 ≤ℤ n)) (sym same) (each_natural qs)) h)
    (each_at (λ n. n ≤ℤ pos 1000) shares i (pos 0) small h)

pub none_more :
    (shares : List ℤ) (qs : List ℕ) (i : ℕ) → shares ≡ map pos qs → Each (λ n. n ≤ℤ pos 1000) shares → i < length shares →
    of_z w64 (get_or shares i (pos 0)) ≡ 0 → sum (take i qs) ≡ 0 → sum (take (i + 1) qs) ≡ 0
none_more shares qs i same small h zero_here so_far =
    let below : i < length qs = omega (arith, h, ap length same, length-map qs pos) in
    let none : get_or shares i (pos 0) ≡ pos 0 = sym (small_back shares qs i same small h) ∙ ap (to_z w64) zero_here in
    let here : pos (get_or qs i 0) ≡ pos 0 = sym (get_or-map pos qs i 0 (pos 0) below) ∙ sym (ap (λ l. get_or l i (pos 0)) same) ∙ none in
    omega (arith, ints, so_far, here, sum_by_more (λ q. q) qs i 0 below)

some_sum : (qs : List ℕ) (i : ℕ) → i < length qs → (get_or qs i 0 ≡ 0 → ⊥) → 1 ≤ sum qs
some_sum [] i h ne = absurd (omega (arith, h))
some_sum (q ∷ qs) zero h ne = omega (arith, sum_by-cons (λ x. x) q qs, ne)
some_sum (q ∷ qs) (suc i) h ne = omega (arith, sum_by-cons (λ x. x) q qs, some_sum qs i (omega (arith, h)) ne)

not_zero : (n : ℕ) → 1 ≤ n → false ≡ (n == 0)
not_zero zero h = absurd (omega (arith, h))
not_zero (suc n) h = sym (ne_eqb (suc n) 0 (λ e. omega (arith, e)))

pub some_here : (shares : List ℤ) (qs : List ℕ) (i : ℕ) → shares ≡ map pos qs → i < length shares → (of_z w64 (get_or shares i (pos 0)) ≡ 0 → ⊥) → false ≡ (sum qs == 0)
some_here shares qs i same h ne =
    let below : i < length qs = omega (arith, h, ap length same, length-map qs pos) in
    let here : get_or shares i (pos 0) ≡ pos (get_or qs i 0) = ap (λ l. get_or l i (pos 0)) same ∙ get_or-map pos qs i 0 (pos 0) below in
    not_zero (sum qs) (some_sum qs i below (λ z. ne (ap (of_z w64) (here ∙ ap pos z))))

pub none_all : (shares : List ℤ) (qs : List ℕ) (i : ℕ) → shares ≡ map pos qs → length shares ≤ i → sum (take i qs) ≡ 0 → true ≡ (sum qs == 0)
none_all shares qs i same past so_far =
    let all : take i qs ≡ qs = take_all i qs (omega (arith, past, ap length same, length-map qs pos)) in
    ap (λ n. n == 0) (sym so_far ∙ ap sum all)

-- ---- or 1 for each
pub ones_are : (k : ℕ) → replicate k (pos 1) ≡ map pos (replicate k 1)
ones_are zero = refl
ones_are (suc k) = ap (λ l. pos 1 ∷ l) (ones_are k)

pub even_shares : (k : ℕ) (items : List ℤ) (qs : List ℕ) → items ≡ map pos (replicate k 1) → true ≡ (sum qs == 0) → items ≡ map pos (or_even k qs)
unfolding plan_definitions
even_shares k items qs e none = e ∙ ap (λ b. map pos (if b then replicate k 1 else qs)) none

pub own_shares : (k : ℕ) (items : List ℤ) (qs : List ℕ) → items ≡ map pos qs → false ≡ (sum qs == 0) → items ≡ map pos (or_even k qs)
unfolding plan_definitions
own_shares k items qs e some = e ∙ ap (λ b. map pos (if b then replicate k 1 else qs)) some

-- ---- one site after another
pub shares_more :
    (f : ℕ → ℕ) (before after : List ℤ) (own : ℤ) (n : ℕ) → before ≡ map pos (map f (range_with_len 0 n)) → own ≡ pos (f n) → after ≡ before ++ own ∷ [] →
    after ≡ map pos (map f (range_with_len 0 (n + 1)))
shares_more f before after own n so_far is pushed =
    pushed ∙ ap₂ (λ l z. l ++ z ∷ []) so_far is ∙ sym (map_push pos (map f (range_with_len 0 n)) (f n))
    ∙ ap (map pos) (sym (map-range_with_len_more f 0 n n (omega arith)))

own_small : (w : s.Workload) (c : Clause) → IsAccepted w → (is : List ℕ) → Each (λ q. q ≤ 1000) (map (own_share (sites_of w) w.weights (planned w) c) is)
own_small w c accepted is = light_own (sites_of w) w.weights (planned w) c (weights_light w accepted) is

pub shares_light :
    (w : s.Workload) (c : Clause) (items : List ℤ) (n : ℕ) → IsAccepted w →
    items ≡ map pos (map (own_share (sites_of w) w.weights (planned w) c) (range_with_len 0 n)) → Each (λ n. n ≤ℤ pos 1000) items
shares_light w c items n accepted e = subst (Each (λ n. n ≤ℤ pos 1000)) (sym e) (each_small (map (own_share (sites_of w) w.weights (planned w) c) (range_with_len 0 n)) (own_small w c accepted (range_with_len 0 n)))

-- ---- weights
natural_value : (z : ℤ) → pos 0 ≤ℤ z → z ≡ pos (nat_of z)
unfolding meaning_definitions
natural_value (pos n) h = refl
natural_value (negsuc n) h = absurd (omega (arith, ints, h))

pub weight_here :
    (ns : List Number) (i : ℕ) (d : Number) → Each (λ n. pos 0 ≤ℤ n.value) ns → Each (λ n. n.value ≤ℤ pos 1000) ns → i < length ns →
    to_z w64 (of_z w64 (get_or ns i d).value) ≡ pos (weight_of ns i)
unfolding plan_definitions
weight_here ns i d natural small h =
    let low = each_at (λ (n : Number). pos 0 ≤ℤ n.value) ns i d natural h in
    let high = each_at (λ (n : Number). n.value ≤ℤ pos 1000) ns i d small h in
    number_back (get_or ns i d).value low high ∙ natural_value (get_or ns i d).value low ∙ ap pos (sym (weight_at ns i d h))
  where
    weight_at : (ns : List Number) (i : ℕ) (d : Number) → i < length ns → weight_of ns i ≡ nat_of (get_or ns i d).value
    weight_at [] i d h = absurd (omega (arith, h))
    weight_at (n ∷ ns) zero d h = refl
    weight_at (n ∷ ns) (suc i) d h = weight_at ns i d (omega (arith, h))

pub weight_past : (ns : List Number) (i : ℕ) → length ns ≤ i → pos 0 ≡ pos (weight_of ns i)
unfolding plan_definitions
weight_past [] i h = refl
weight_past (n ∷ ns) zero h = absurd (omega (arith, h))
weight_past (n ∷ ns) (suc i) h = weight_past ns i (omega (arith, h))

weight_low : (ns : List Number) (i : ℕ) → Each (λ n. n.value ≤ℤ pos 1000) ns → weight_of ns i ≤ 1000
unfolding plan_definitions meaning_definitions
weight_low [] i h = omega arith
weight_low (n ∷ ns) zero h = nat_small n.value h.0
weight_low (n ∷ ns) (suc i) h = weight_low ns i h.1

pub weight_back : (ns : List Number) (i : ℕ) (z : ℤ) → Each (λ n. n.value ≤ℤ pos 1000) ns → z ≡ pos (weight_of ns i) → to_z w64 (of_z w64 z) ≡ z
weight_back ns i z small is =
    let low = weight_low ns i small in
    number_back z (omega (arith, ints, is)) (omega (arith, ints, is, low))

natural_weights : (ns : List Number) → formed.Each (λ (n : Number). pos 0 ≤ℤ n.value) ns → Each (λ n. pos 0 ≤ℤ n.value) ns
unfolding plan_definitions syntax_definitions
natural_weights [] h = tt
natural_weights (n ∷ ns) h = (h.0, natural_weights ns h.1)

small_weights : (ns : List Number) → Each (λ n. pos 0 ≤ℤ n.value) ns → Each IsLight ns → Each (λ n. n.value ≤ℤ pos 1000) ns
unfolding plan_definitions meaning_definitions
small_weights [] h l = tt
small_weights (n ∷ ns) h l = (below n.value h.0 l.0, small_weights ns h.1 l.1)
  where
    below : (z : ℤ) → pos 0 ≤ℤ z → nat_of z ≤ 1000 → z ≤ℤ pos 1000
    below (pos n) h l = omega (arith, ints, l)
    below (negsuc n) h l = omega (arith, ints)

-- the weights of an accepted workload, as the code has them
module _ (w lent : Workload) (accepted : IsAccepted (plain_workload w)) (same : lent ≡ w) (ns : List Number) (are : ns ≡ lent.weights.items) where
  weights_are : ns ≡ (plain_workload w).weights
  unfolding syntax_definitions
  weights_are = are ∙ ap (λ (v : Workload). v.weights.items) same

  pub weights_natural : Each (λ n. pos 0 ≤ℤ n.value) ns
  weights_natural = subst (Each (λ (n : Number). pos 0 ≤ℤ n.value)) (sym weights_are) (natural_weights (plain_workload w).weights accepted.well_formed.natural)

  pub weights_small : Each (λ n. n.value ≤ℤ pos 1000) ns
  weights_small =
      small_weights ns weights_natural (subst (Each IsLight) (sym weights_are) (weights_light (plain_workload w) accepted))

  pub taken : (k : ℕ) (gs : List PlannedCall) (c : Clause) (i : ℕ) (weight : ℤ) → true ≡ takes_part k gs c i → weight ≡ pos (weight_of ns i) → weight ≡ pos (own_share k (plain_workload w).weights gs c i)
  unfolding plan_definitions
  taken k gs c i weight part is = is ∙ ap (λ (ws : List Number). pos (weight_of ws i)) weights_are ∙ ap (λ b. pos (if b then weight_of (plain_workload w).weights i else 0)) part

  pub no_weights : length ns ≡ 0 → (plain_workload w).weights ≡ []
  no_weights none = sym weights_are ∙ nil ns none
    where
      nil : (ns : List Number) → length ns ≡ 0 → ns ≡ []
      nil [] e = refl
      nil (n ∷ ns) e = absurd (omega (arith, e))

pub left_out : (k : ℕ) (ws : List Number) (gs : List PlannedCall) (c : Clause) (i : ℕ) → false ≡ takes_part k gs c i → pos 0 ≡ pos (own_share k ws gs c i)
unfolding plan_definitions
left_out k ws gs c i part = ap (λ b. pos (if b then weight_of ws i else 0)) part

-- the shares are those of the definition
pub shares_done :
    (w : s.Workload) (c : Clause) (k : ℕ) (made items : List ℤ) → k ≡ sites_of w → items ≡ map pos (map (own_share (sites_of w) w.weights (planned w) c) (range_with_len 0 k)) →
    AreOrEven k items made → made ≡ map pos (shares_of w c)
unfolding plan_definitions
shares_done w c k made items all is or =
    or (map (own_share (sites_of w) w.weights (planned w) c) (range_with_len 0 k)) is
    ∙ ap (λ n. map pos (or_even n (map (own_share (sites_of w) w.weights (planned w) c) (range_with_len 0 n)))) all

-- ---- lists of shares
pub lists_more :
    (w : s.Workload) (lent : List declared.Clause) (i : ℕ) (c : declared.Clause) (l : Listed ℤ) (before after : List (Listed ℤ)) → i < length lent → c ≡ get_or lent i c →
    natural_list l ≡ shares_of w (plain_clause c) → map natural_list before ≡ map (shares_of w) (map plain_clause (take i lent)) → after ≡ before ++ l ∷ [] →
    map natural_list after ≡ map (shares_of w) (map plain_clause (take (i + 1) lent))
lists_more w lent i c l before after within is here so_far pushed =
    ap (map natural_list) pushed ∙ map_push natural_list before l ∙ ap₂ (λ qs q. qs ++ q ∷ []) so_far here
    ∙ sym (map_push (shares_of w) (map plain_clause (take i lent)) (plain_clause c))
    ∙ ap (map (shares_of w)) (sym (map_push plain_clause (take i lent) c) ∙ ap (λ x. map plain_clause (take i lent ++ x ∷ [])) is ∙ ap (map plain_clause) (sym (take_more lent i c within)))

each_push : (P : Listed ℤ → Type 0) (ls : List (Listed ℤ)) (l : Listed ℤ) → Each P ls → P l → Each P (ls ++ l ∷ [])
unfolding plan_definitions
each_push P [] l h k = (k, tt)
each_push P (x ∷ ls) l h k = (h.0, each_push P ls l h.1 k)

pub can_more : (k : ℕ) (before after : List (Listed ℤ)) (l : Listed ℤ) → Each (λ (q : Listed ℤ). CanShare k q.items) before → CanShare k l.items → after ≡ before ++ l ∷ [] → Each (λ (q : Listed ℤ). CanShare k q.items) after
can_more k before after l h can pushed = subst (Each (λ (q : Listed ℤ). CanShare k q.items)) (sym pushed) (each_push (λ (q : Listed ℤ). CanShare k q.items) before l h can)

pub can_none : (k : ℕ) (lists : List (Listed ℤ)) → lists ≡ [] → Each (λ (q : Listed ℤ). CanShare k q.items) lists
unfolding plan_definitions
can_none k lists e = subst (Each (λ (q : Listed ℤ). CanShare k q.items)) (sym e) tt

pub can_of : (w : s.Workload) (c : Clause) (items : List ℤ) → IsAccepted w → items ≡ map pos (shares_of w c) → CanShare (sites_of w) items
can_of w c items accepted e = subst (CanShare (sites_of w)) (sym e) (can_share w c accepted)

pub own_back :
    (w : s.Workload) (c : Clause) (i : ℕ) (z : ℤ) → IsAccepted w → z ≡ pos (own_share (sites_of w) w.weights (planned w) c i) →
    to_z w64 (of_z w64 z) ≡ pos (own_share (sites_of w) w.weights (planned w) c i)
unfolding plan_definitions
own_back w c i z accepted is =
    let low = (own_small w c accepted (i ∷ [])).0 in
    number_back z (omega (arith, ints, is)) (omega (arith, ints, is, low)) ∙ is

-- ---- the configuration
even_lists : (w : s.Workload) (cs : List Clause) → w.weights ≡ [] → map (λ (c : Clause). let ns : List ℕ = replicate (sites_of w) 1 in ns) cs ≡ map (shares_of w) cs
unfolding plan_definitions
even_lists w [] e = refl
even_lists w (c ∷ cs) e =
    ap₂ (λ (q : List ℕ) qs. q ∷ qs) (sym (ap (λ (ws : List Number). shares (sites_of w) ws (planned w) c) e ∙ even_without (sites_of w) (planned w) c)) (even_lists w cs e)

-- without weights the shares are even
pub by_even : (w : s.Workload) (k : ℕ) (cs : List Clause) → k ≡ sites_of w → w.weights ≡ [] → even k cs ≡ split_by (shares_of w) cs
unfolding plan_definitions
by_even w k cs all e = ap (λ n. even n cs) all ∙ ap (λ qs. split_each qs cs) (even_lists w cs e)

pub as_many :
    (w : s.Workload) (lists : List (Listed ℤ)) (cs : List Clause) → map natural_list lists ≡ map (shares_of w) cs → length lists ≡ length cs
as_many w lists cs same = omega (arith, length-map lists natural_list, ap length same, length-map cs (shares_of w))

pub can_all :
    (n k : ℕ) (lent lists : List (Listed ℤ)) → n ≡ k → lent ≡ lists → Each (λ (l : Listed ℤ). CanShare k l.items) lists → Each (λ (l : Listed ℤ). CanShare n l.items) lent
can_all n k lent lists sites same h =
    subst (λ m. Each (λ (l : Listed ℤ). CanShare m l.items) lent) (sym sites) (subst (Each (λ (l : Listed ℤ). CanShare k l.items)) (sym same) h)

pub by_shares :
    (w : s.Workload) (lists : List (Listed ℤ)) (cs : List Clause) → map natural_list lists ≡ map (shares_of w) cs →
    split_each (map natural_list lists) cs ≡ split_by (shares_of w) cs
unfolding plan_definitions
by_shares w lists cs same = ap (λ qs. split_each qs cs) same
