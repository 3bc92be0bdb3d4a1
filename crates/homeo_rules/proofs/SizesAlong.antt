-- The sizes of calls, added up along them.
use Rattle.std.proofs.Common.{◌≡◌, ℕ, ◌+◌, ◌<◌, ◌≤◌, min, ◌⊎◌, inl, inr, Bool, true, false, ◌||◌, List, [], ◌∷◌, ◌++◌, map, drop, Option, Some, None, length, get_or, refl, sym, ap, subst, ◌∙◌, arith, add-one, drop-cons, cond, zero-add}
use Rattle.std.specs.Prelude.{nat_lt, nat_le, is_some, IsSome}
use Rattle.std.specs.List.{flat_map, sum_by}
use Rattle.std.proofs.lemmas.Int.{clamps}
use Rattle.std.proofs.lemmas.Bool.{and_parts}
use Rattle.std.proofs.lemmas.Bool.Decides.{nat_tests}
use Rattle.std.proofs.lemmas.List.{drop_all}
use Rattle.std.proofs.lemmas.List.Sums.{sum_by-append}
use Rattle.homeo_lemmas.proofs.Bools.{or_true}
use Rattle.homeo_syntax.specs.Source as s
use Rattle.homeo_meaning.specs.Key.{definitions as meaning_definitions}
use Rattle.homeo_meaning.specs.Faults.{comes_before}
use Rattle.homeo_meaning.specs.NameRules.{when, fault}
use Rattle.homeo_meaning.specs.NumberRules.{ground_calls}
use Rattle.homeo_meaning.specs.TransactionRules.{each, each_from}
use Rattle.homeo_meaning.specs.GlobalNames as g
use Rattle.homeo_meaning.specs.LowSizes.{Extent}
use Rattle.homeo_meaning.specs.SizeRules.{extent_of, too_large}
use Rattle.homeo_rules.specs.inner.Deciding.{keep, keep_all}
use Rattle.homeo_meaning.specs.declared.rules.Fault.{Fault}
use Rattle.homeo_meaning.specs.declared.rules.Phase.TheVariants.{Size}
use Rattle.homeo_size.specs.declared.measures.Measure.{Measure}
use Rattle.homeo_rules.specs.inner.Order.{in_order}
use Rattle.homeo_rules.specs.inner.Sizes.{call_of, told_size, IsToldAfter, AreTold, known, is_too_large}
use Rattle.homeo_rules.specs.declared.rules.bodies.MeasuredBody.{MeasuredBody}
use Rattle.homeo_rules.specs.declared.rules.sizes.MeasuredCall.{MeasuredCall}
use Rattle.homeo_rules.proofs.OneDecides.{irreflexive, weaker}
use Rattle.homeo_rules.proofs.Steps.{keep_all-append}
use Rattle.homeo_rules.proofs.AlongCalls.{capped-less, AgreeUpTo, total_known}

same_test : (m n : ℕ) → AgreeUpTo 2000001 m n → nat_lt 2000000 m ≡ nat_lt 2000000 n
same_test m n h = by_case (nat_lt 2000000 n) refl
  where
    by_case : (b : Bool) → nat_lt 2000000 n ≡ b → nat_lt 2000000 m ≡ nat_lt 2000000 n
    by_case true e =
        let lt : 2000000 < n = grind (arith, nat_tests) in
        let more : 2000000 < m = omega (arith, clamps) in
        let yes : nat_lt 2000000 m ≡ true = grind (arith, nat_tests) in
        yes ∙ sym e
    by_case false e =
        let le : n ≤ 2000000 = grind (arith, nat_tests) in
        let less : m ≤ 2000000 = omega (arith, clamps) in
        let no : nat_lt 2000000 m ≡ false = grind (arith, nat_tests) in
        no ∙ sym e

test_known : (next after : ℕ) (e : Extent) (m : Measure) → AgreeUpTo 2000001 next after → m.size ≡ min 8000001 e.size → m.depth ≡ min 8000001 e.depth → is_too_large m next ≡ (nat_lt 200000 e.size || nat_lt 1000 e.depth || nat_lt 2000000 after)
test_known next after e m agree size depth =
    let sizes : nat_lt 200000 m.size ≡ nat_lt 200000 e.size = ap (nat_lt 200000) size ∙ capped-less 200000 e.size (omega arith) in
    let depths : nat_lt 1000 m.depth ≡ nat_lt 1000 e.depth = ap (nat_lt 1000) depth ∙ capped-less 1000 e.depth (omega arith) in
    λ i. sizes i || depths i || same_test next after agree i

-- ---- what the loop makes of calls
abbrev next_of : ℕ → MeasuredCall → ℕ
next_of total m = min 8000001 (total + (known m.body).size)

abbrev fault_at : ℕ → MeasuredCall → List Fault
fault_at total m = when (is_too_large (known m.body) (next_of total m)) (fault Size m.call.name)

abbrev pub sizes_of : ℕ → Option Fault → List MeasuredCall → Option Fault
sizes_of total best [] = best
sizes_of total best (m ∷ ms) = sizes_of (next_of total m) (keep_all best (fault_at total m)) ms

-- ---- calls behind those that are too large together: each is a fault
abbrev all_faults : List MeasuredCall → List Fault
all_faults ms = flat_map (λ (m : MeasuredCall). fault Size (call_of m).name) ms

when_true : (b : Bool) (fs : List Fault) → b ≡ true → when b fs ≡ fs
unfolding meaning_definitions
when_true b fs e = ap (λ c. when c fs) e

code_faults : (total : ℕ) (best : Option Fault) (ms : List MeasuredCall) → 2000000 < total → sizes_of total best ms ≡ keep_all best (all_faults ms)
unfolding meaning_definitions
code_faults total best [] h = refl
code_faults total best (m ∷ ms) h =
    let next : ℕ = next_of total m in
    let far : 2000000 < next = omega (arith, clamps, h) in
    let yes : nat_lt 2000000 next ≡ true = grind (arith, nat_tests) in
    let k : Measure = known m.body in
    let flagged : is_too_large k next ≡ true = ap (λ b. nat_lt 200000 k.size || nat_lt 1000 k.depth || b) yes ∙ or_true (nat_lt 200000 k.size || nat_lt 1000 k.depth) in
    ap (λ fs. sizes_of next (keep_all best fs) ms) (when_true (is_too_large k next) (fault Size m.call.name) flagged)
    ∙ code_faults next (keep_all best (fault Size m.call.name)) ms far
    ∙ sym (keep_all-append best (fault Size m.call.name) (all_faults ms))

module _ (w : s.Workload) where
  abbrev rule : List g.SitedCall → g.SitedCall → List Fault
  rule = too_large (extent_of w)

  abbrev sum_of : List g.SitedCall → ℕ
  sum_of = sum_by (told_size w)

  sum_more : (before : List g.SitedCall) (c : g.SitedCall) → sum_of before + told_size w c ≡ sum_of (before ++ c ∷ [])
  sum_more before c = sym (sum_by-append (told_size w) before (c ∷ []) ∙ ap (λ n. sum_of before + n) (zero-add (told_size w c)))

  rule_true : (before : List g.SitedCall) (c : g.SitedCall) → (nat_lt 200000 (extent_of w c).size || nat_lt 1000 (extent_of w c).depth || nat_lt 2000000 (sum_of before + told_size w c)) ≡ true → rule before c ≡ fault Size c.name
  unfolding meaning_definitions
  rule_true before c e = when_true _ (fault Size c.name) e

  rule_together : (before : List g.SitedCall) (c : g.SitedCall) → 2000000 < sum_of before + told_size w c → rule before c ≡ fault Size c.name
  rule_together before c h =
      let yes : nat_lt 2000000 (sum_of before + told_size w c) ≡ true = grind (arith, nat_tests) in
      rule_true before c (ap (λ b. nat_lt 200000 (extent_of w c).size || nat_lt 1000 (extent_of w c).depth || b) yes ∙ or_true (nat_lt 200000 (extent_of w c).size || nat_lt 1000 (extent_of w c).depth))

  rule_alone : (before : List g.SitedCall) (c : g.SitedCall) → 200000 < told_size w c → rule before c ≡ fault Size c.name
  rule_alone before c h =
      let yes : nat_lt 200000 (extent_of w c).size ≡ true = grind (arith, nat_tests) in
      rule_true before c (ap (λ b. b || nat_lt 1000 (extent_of w c).depth || nat_lt 2000000 (sum_of before + told_size w c)) yes)

  true_faults : (before : List g.SitedCall) (best : Option Fault) (ms : List MeasuredCall) → 2000000 < sum_of before → keep_all best (each_from rule before (map call_of ms)) ≡ keep_all best (all_faults ms)
  unfolding meaning_definitions
  true_faults before best [] h = refl
  true_faults before best (m ∷ ms) h =
      let c : g.SitedCall = call_of m in
      let far : 2000000 < sum_of before + told_size w c = omega (arith, h) in
      keep_all-append best (rule before c) (each_from rule (before ++ c ∷ []) (map call_of ms))
      ∙ ap (λ fs. keep_all (keep_all best fs) (each_from rule (before ++ c ∷ []) (map call_of ms))) (rule_together before c far)
      ∙ true_faults (before ++ c ∷ []) (keep_all best (fault Size c.name)) ms (subst (λ n. 2000000 < n) (sum_more before c) far)
      ∙ sym (keep_all-append best (fault Size c.name) (all_faults ms))

  -- ---- calls behind one that is too large, in the order of the text: none decides
  abbrev NoneBefore : ℕ → List g.SitedCall → Type 0
  NoneBefore n [] = Unit {0}
  NoneBefore n (c ∷ cs) = (n ≤ c.name.offset) × NoneBefore n cs

  abbrev InOrder : List g.SitedCall → Type 0
  InOrder [] = Unit {0}
  InOrder (c ∷ cs) = NoneBefore c.name.offset cs × InOrder cs

  lower : (m n : ℕ) (cs : List g.SitedCall) → m ≤ n → NoneBefore n cs → NoneBefore m cs
  lower m n [] le h = tt
  lower m n (c ∷ cs) le h =
      let here : n ≤ c.name.offset = h.0 in
      (omega (arith, le, here), lower m n cs le h.1)

  pub record Ordered (n : ℕ) (cs : List g.SitedCall) : Type 0 where
    pub above : NoneBefore n cs
    pub order : InOrder cs

  ordered : (n : ℕ) (cs : List g.SitedCall) → in_order n cs ≡ true → Ordered n cs
  ordered n [] e = record { above = tt; order = tt }
  ordered n (c ∷ cs) e =
      let k = and_parts (nat_le n c.name.offset) (in_order c.name.offset cs) e in
      let le : n ≤ c.name.offset = grind (arith, nat_tests) in
      let rest : Ordered c.name.offset cs = ordered c.name.offset cs k.1 in
      record { above = (le, lower n c.name.offset cs le rest.above); order = (rest.above, rest.order) }

  abbrev size_fault : ℕ → Fault
  size_fault n = record { phase = Size; offset = n }

  -- what is kept isn't beaten by the fault at an offset
  abbrev Unbeaten : ℕ → Option Fault → Type 0
  Unbeaten n None = ⊥
  Unbeaten n (Some f) = comes_before (size_fault n) f ≡ false

  kept : (n : ℕ) (best : Option Fault) → Unbeaten n (keep best (size_fault n))
  kept n None = irreflexive (size_fault n)
  kept n (Some f) = by_case (comes_before (size_fault n) f) refl
    where
      by_case : (b : Bool) → comes_before (size_fault n) f ≡ b → Unbeaten n (cond b (Some (size_fault n)) (Some f))
      by_case true e = irreflexive (size_fault n)
      by_case false e = e

  later : (m n : ℕ) → n ≤ m → comes_before (size_fault m) (size_fault n) ≡ false
  unfolding meaning_definitions
  later m n le = grind (arith, nat_tests)

  stays : (n m : ℕ) (best : Option Fault) → n ≤ m → Unbeaten n best → keep best (size_fault m) ≡ best
  stays n m None le h = absurd h
  stays n m (Some f) le h = ap (λ b. cond b (Some (size_fault m)) (Some f)) (weaker f (size_fault m) (size_fault n) (later m n le) h)

  stays_when : (n : ℕ) (best : Option Fault) (b : Bool) (c : g.SitedCall) → n ≤ c.name.offset → Unbeaten n best → keep_all best (when b (fault Size c.name)) ≡ best
  unfolding meaning_definitions
  stays_when n best true c le h = stays n c.name.offset best le h
  stays_when n best false c le h = refl

  code_stays : (n total : ℕ) (best : Option Fault) (ms : List MeasuredCall) → NoneBefore n (map call_of ms) → Unbeaten n best → sizes_of total best ms ≡ best
  code_stays n total best [] le h = refl
  code_stays n total best (m ∷ ms) le h =
      ap (λ b. sizes_of (next_of total m) b ms) (stays_when n best (is_too_large (known m.body) (next_of total m)) (call_of m) le.0 h)
      ∙ code_stays n (next_of total m) best ms le.1 h

  true_stays : (n : ℕ) (before : List g.SitedCall) (best : Option Fault) (cs : List g.SitedCall) → NoneBefore n cs → Unbeaten n best → keep_all best (each_from rule before cs) ≡ best
  unfolding meaning_definitions
  true_stays n before best [] le h = refl
  true_stays n before best (c ∷ cs) le h =
      keep_all-append best (rule before c) (each_from rule (before ++ c ∷ []) cs)
      ∙ ap (λ b. keep_all b (each_from rule (before ++ c ∷ []) cs)) (stays_when n best _ c le.0 h)
      ∙ true_stays n (before ++ c ∷ []) best cs le.1 h

  -- ---- all calls
  first_unknown : (total : ℕ) (before : List g.SitedCall) (best : Option Fault) (c : g.SitedCall) (ms : List MeasuredCall) → (2000000 < sum_of before + told_size w c) ⊎ (NoneBefore c.name.offset (map call_of ms) × (200000 < told_size w c)) → 2000000 < total →
      sizes_of total (keep_all best (fault Size c.name)) ms ≡ keep_all best (each_from rule before (c ∷ map call_of ms))
  unfolding meaning_definitions
  first_unknown total before best c ms (inl far) beyond =
      code_faults total (keep_all best (fault Size c.name)) ms beyond
      ∙ sym (
      keep_all-append best (rule before c) (each_from rule (before ++ c ∷ []) (map call_of ms))
      ∙ ap (λ fs. keep_all (keep_all best fs) (each_from rule (before ++ c ∷ []) (map call_of ms))) (rule_together before c far)
      ∙ true_faults (before ++ c ∷ []) (keep_all best (fault Size c.name)) ms (subst (λ n. 2000000 < n) (sum_more before c) far))
  first_unknown total before best c ms (inr (le, far)) beyond =
      let n : ℕ = c.name.offset in
      code_stays n total (keep_all best (fault Size c.name)) ms le (kept n best)
      ∙ sym (
      keep_all-append best (rule before c) (each_from rule (before ++ c ∷ []) (map call_of ms))
      ∙ ap (λ fs. keep_all (keep_all best fs) (each_from rule (before ++ c ∷ []) (map call_of ms))) (rule_alone before c far)
      ∙ true_stays n (before ++ c ∷ []) (keep_all best (fault Size c.name)) (map call_of ms) le (kept n best))

  -- one call, where the equation holds of those behind it
  module _ (total : ℕ) (before : List g.SitedCall) (best : Option Fault) (m : MeasuredCall) (ms : List MeasuredCall) (order : in_order 0 (ground_calls w) ≡ true → InOrder (map call_of (m ∷ ms))) (agree : AgreeUpTo 2000001 total (sum_of before)) where
    reached : IsToldAfter w (sum_of before) (call_of m) None → (2000000 < sum_of before + told_size w (call_of m)) ⊎ (NoneBefore (call_of m).name.offset (map call_of ms) × (200000 < told_size w (call_of m)))
    unfolding meaning_definitions
    reached (inl far) = inl far
    reached (inr (z, far)) = inr ((order z).0, far)

    one_told : (o : Option MeasuredBody) → m.body ≡ o → IsToldAfter w (sum_of before) (call_of m) o →
        ((t : ℕ) → IsSome m.body → AgreeUpTo 2000001 t (sum_of before + told_size w (call_of m)) → sizes_of t (keep_all best (rule before (call_of m))) ms ≡ keep_all (keep_all best (rule before (call_of m))) (each_from rule (before ++ call_of m ∷ []) (map call_of ms))) →
        sizes_of total best (m ∷ ms) ≡ keep_all best (each_from rule before (map call_of (m ∷ ms)))
    unfolding meaning_definitions
    one_told (Some k) is here rest =
        let c : g.SitedCall = call_of m in
        let e : Extent = extent_of w c in
        let known_is : known m.body ≡ k.measure = ap known is in
        let next : ℕ = next_of total m in
        let added : next ≡ min 8000001 (total + k.measure.size) = ap (λ (x : Measure). min 8000001 (total + x.size)) known_is in
        let after : AgreeUpTo 2000001 next (sum_of before + e.size) = total_known total next (sum_of before) e.size k.measure.size agree added here.size in
        let same : is_too_large (known m.body) next ≡ (nat_lt 200000 e.size || nat_lt 1000 e.depth || nat_lt 2000000 (sum_of before + e.size)) =
        ap (λ (x : Measure). is_too_large x next) known_is ∙ test_known next (sum_of before + e.size) e k.measure after here.size here.depth in
        let some : IsSome m.body = ap is_some is in
        ap (λ b. sizes_of next (keep_all best (when b (fault Size c.name))) ms) same
        ∙ rest next some after
        ∙ sym (keep_all-append best (rule before c) (each_from rule (before ++ c ∷ []) (map call_of ms)))
    one_told None is here rest =
        let c : g.SitedCall = call_of m in
        let next : ℕ = next_of total m in
        let added : next ≡ min 8000001 (total + 8000001) = ap (λ (o : Option MeasuredBody). min 8000001 (total + (known o).size)) is in
        let beyond : 2000000 < next = omega (arith, clamps, added) in
        let flagged : is_too_large (known m.body) next ≡ true = ap (λ (o : Option MeasuredBody). is_too_large (known o) next) is in
        ap (λ fs. sizes_of next (keep_all best fs) ms) (when_true (is_too_large (known m.body) next) (fault Size c.name) flagged)
        ∙ first_unknown next before best c ms (reached here) beyond

  sizes_told : (total : ℕ) (before : List g.SitedCall) (best : Option Fault) (ms : List MeasuredCall) → (in_order 0 (ground_calls w) ≡ true → InOrder (map call_of ms)) → AgreeUpTo 2000001 total (sum_of before) → AreTold w (sum_of before) ms →
      sizes_of total best ms ≡ keep_all best (each_from rule before (map call_of ms))
  unfolding meaning_definitions
  sizes_told total before best [] order agree told = refl
  sizes_told total before best (m ∷ ms) order agree told =
      one_told total before best m ms order agree m.body refl told.0
      (λ t some after. sizes_told t (before ++ call_of m ∷ []) (keep_all best (rule before (call_of m))) ms (λ z. (order z).1) (after ∙ ap (min 2000001) (sum_more before (call_of m))) (subst (λ n. AreTold w n ms) (sum_more before (call_of m)) (told.1 some)))

  pub sizes_are : (best : Option Fault) (ms : List MeasuredCall) → map call_of ms ≡ ground_calls w → AreTold w 0 ms → sizes_of 0 best ms ≡ keep_all best (each rule (map call_of ms))
  unfolding meaning_definitions
  sizes_are best ms grounds told = sizes_told 0 [] best ms (λ z. (ordered 0 (map call_of ms) (ap (in_order 0) grounds ∙ z)).order) refl told

-- ---- the step of the loop
pub sizes_step : (start best new : Option Fault) (total next : ℕ) (calls : List MeasuredCall) (i : ℕ) (d : MeasuredCall) (m : Measure) → i < length calls → sizes_of total best (drop i calls) ≡ sizes_of 0 start calls → m ≡ known (get_or calls i d).body → next ≡ min 8000001 (total + m.size) → new ≡ keep_all best (when (is_too_large m next) (fault Size (get_or calls i d).call.name)) → sizes_of next new (drop (i + 1) calls) ≡ sizes_of 0 start calls
sizes_step start best new total next calls i d m lt so is added checked =
    let c : MeasuredCall = get_or calls i d in
    let rest : List MeasuredCall = drop (i + 1) calls in
    let split : drop i calls ≡ c ∷ rest = rw add-one (drop-cons calls i d lt) in
    let sum : next ≡ next_of total c = added ∙ ap (λ (k : Measure). min 8000001 (total + k.size)) is in
    (λ j. sizes_of (sum j) ((checked ∙ (λ l. keep_all best (when (is_too_large (is l) (sum l)) (fault Size c.call.name)))) j) rest)
    ∙ ap (sizes_of total best) (sym split) ∙ so

pub sizes_end : (w : s.Workload) (start best : Option Fault) (total : ℕ) (calls : List MeasuredCall) (i : ℕ) → length calls ≤ i → map call_of calls ≡ ground_calls w → AreTold w 0 calls → sizes_of total best (drop i calls) ≡ sizes_of 0 start calls → best ≡ keep_all start (each (too_large (extent_of w)) (map call_of calls))
sizes_end w start best total calls i past grounds told so =
    sym (ap (sizes_of total best) (drop_all i calls past)) ∙ so ∙ sizes_are w start calls grounds told
