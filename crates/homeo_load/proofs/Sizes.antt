-- The calls of a load are within all limits on how many, how large, how heavy and how long they are.
use Rattle.std.proofs.Common.{◌≡◌, ◌<◌, ◌≤◌, ℕ, ◌+◌, ◌*◌, true, false, List, [], ◌∷◌, flat_map, length, refl, ap, ◌∙◌, arith}
use Rattle.std.specs.Prelude.{All, sum_by, nat_lt, not, ◌||◌}
use Rattle.std.proofs.lemmas.List.Elements.{All-head, All-tail, All-weaker}
use Rattle.std.proofs.lemmas.List.Sums.{sum_by-le}
use Rattle.std.proofs.lemmas.Bool.Decides.{nat_tests}
use Rattle.homeo_syntax.specs.Source as s
use Rattle.homeo_meaning.specs.Key.{definitions as meaning_definitions}
use Rattle.homeo_meaning.specs.Schema.{schema_of}
use Rattle.homeo_meaning.specs.ListRules.{each}
use Rattle.homeo_meaning.specs.Faults.{form_faults}
use Rattle.homeo_meaning.specs.CallForm.{call_form}
use Rattle.homeo_meaning.specs.LowSizes.{Extent, prints_in}
use Rattle.homeo_meaning.specs.LowWeights.{first_weights, is_light}
use Rattle.homeo_meaning.specs.GlobalNames.{SitedCall, sited_calls}
use Rattle.homeo_meaning.specs.NumberRules.{limit_faults, ground_calls, passes_limit}
use Rattle.homeo_meaning.specs.SizeRules.{extent_of, heaviest, too_large, size_faults, prints_too_much, print_faults, heavy_call, weight_faults, row_faults}
use Rattle.homeo_meaning.specs.declared.call.Purpose.TheVariants.{Run}
use Rattle.homeo_load.specs.Key.{definitions}
use Rattle.homeo_load.specs.Additions.{Addition}
use Rattle.homeo_load.specs.Load.{load_of}
use Rattle.homeo_load.proofs.DrawnAdditions.{IsAddition}
use Rattle.homeo_load.proofs.Forms.{load_extent, extent_at, prints_at, light_at}
use Rattle.homeo_load.proofs.Grounds.{AreGrounds, distinct_grounds, grounds_few}
use Rattle.homeo_load.proofs.LoadCalls.{IsLoadCall, load_calls_fit, load_calls_length}
use Rattle.homeo_load.proofs.Judged.{none_then_none, four_none, each_none, when_false, limit_none}

-- sums of equal terms
abbrev AtMost : {A : Type 0} → (A → ℕ) → ℕ → A → Type 0
AtMost f m x = f x ≤ m

sum_at_most : {A : Type 0} (f : A → ℕ) (P : A → Type 0) (m n : ℕ) → ((x : A) → P x → f x ≡ m) → (xs : List A) → All P xs → length xs < n → sum_by f xs + m ≤ n * m
sum_at_most f P m n is xs a l =
    let each : All (AtMost f m) xs = All-weaker P (AtMost f m) (λ x p. let e : f x ≡ m = is x p in omega (arith, e)) xs a in
    let total : sum_by f xs ≤ length xs * m = sum_by-le f m xs each in
    let product : (length xs + 1) * m ≤ n * m = grind arith in
    omega (arith, total, product)

-- ---- each rule, of calls that are all alike
small_none : (extent : SitedCall → Extent) → ((c : SitedCall) → IsLoadCall c → extent c ≡ load_extent)
    → (before : List SitedCall) (c : SitedCall) → All IsLoadCall before → IsLoadCall c → length before < 680 → too_large extent before c ≡ []
unfolding meaning_definitions
small_none extent is before c b k short =
    let size : (extent c).size ≡ 50 = ap (λ e. e.size) (is c k) in
    let depth : (extent c).depth ≡ 5 = ap (λ e. e.depth) (is c k) in
    let total : sum_by (λ d. (extent d).size) before + 50 ≤ 680 * 50 = sum_at_most (λ d. (extent d).size) IsLoadCall 50 680 (λ d p. ap (λ e. e.size) (is d p)) before b short in
    let p : nat_lt 200000 (extent c).size ≡ false = grind (arith, nat_tests) in
    let q : nat_lt 1000 (extent c).depth ≡ false = grind (arith, nat_tests) in
    let all : ℕ = sum_by (λ d. (extent d).size) before + (extent c).size in
    let most : all ≤ 34000 = omega (arith, total, size) in
    let r : nat_lt 2000000 all ≡ false = grind (arith, nat_tests) in
    when_false (nat_lt 200000 (extent c).size || nat_lt 1000 (extent c).depth || nat_lt 2000000 all) _ (λ i. p i || q i || r i)

few_prints_none : (prints : SitedCall → ℕ) → ((c : SitedCall) → IsLoadCall c → prints c ≡ 1)
    → (before : List SitedCall) (c : SitedCall) → All IsLoadCall before → IsLoadCall c → length before < 20000 → prints_too_much prints before c ≡ []
unfolding meaning_definitions
few_prints_none prints is before c b k short =
    let here : prints c ≡ 1 = is c k in
    let total : sum_by prints before + 1 ≤ 20000 * 1 = sum_at_most prints IsLoadCall 1 20000 is before b short in
    let all : ℕ = sum_by prints before + prints c in
    let most : all ≤ 20000 = omega (arith, total, here) in
    let r : nat_lt 1000000 all ≡ false = grind (arith, nat_tests) in
    when_false (nat_lt 1000000 all) _ r

light_none : (w : s.Workload) → ((c : SitedCall) → IsLoadCall c → is_light heaviest (call_form w c) (first_weights (schema_of w)) ≡ true)
    → (cs : List SitedCall) → All IsLoadCall cs → flat_map (heavy_call w) cs ≡ []
unfolding meaning_definitions
light_none w is [] a = refl
light_none w is (c ∷ cs) a =
    let here : is_light heaviest (call_form w c) (first_weights (schema_of w)) ≡ true = is c (All-head IsLoadCall c cs a) in
    none_then_none (heavy_call w c) (flat_map (heavy_call w) cs)
    (when_false (not (is_light heaviest (call_form w c) (first_weights (schema_of w)))) _ (ap not here))
    (light_none w is cs (All-tail IsLoadCall c cs a))

module _ (all : List Addition) where
  extent_is : (c : SitedCall) → IsLoadCall c → extent_of (load_of all) c ≡ load_extent
  extent_is c k = ap (extent_of (load_of all)) k.same ∙ extent_at all k.number k.site k.object k.object_below

  prints_are : (c : SitedCall) → IsLoadCall c → prints_in (call_form (load_of all) c) ≡ 1
  prints_are c k = ap (λ d. prints_in (call_form (load_of all) d)) k.same ∙ prints_at all k.number k.site k.object k.object_below

  light_is : (c : SitedCall) → IsLoadCall c → is_light heaviest (call_form (load_of all) c) (first_weights (schema_of (load_of all))) ≡ true
  light_is c k =
      ap (λ d. is_light heaviest (call_form (load_of all) d) (first_weights (schema_of (load_of all)))) k.same
      ∙ light_at all k.site k.number k.least k.most k.object k.object_below

  grounds : All IsAddition all → AreGrounds (ground_calls (load_of all))
  unfolding meaning_definitions
  grounds a = distinct_grounds (sited_calls (load_of all)) (load_calls_fit all a)

  -- ---- all rules
  pub limits_none : All IsAddition all → length all ≤ 20000 → limit_faults (load_of all) ≡ []
  unfolding meaning_definitions definitions
  limits_none a l =
      let g : AreGrounds (ground_calls (load_of all)) = grounds a in
      none_then_none (each (passes_limit 20000 (λ (c : SitedCall). c.name)) (sited_calls (load_of all))) _
      (limit_none 20000 (λ (c : SitedCall). c.name) (sited_calls (load_of all)) (omega (arith, l, load_calls_length all)))
      (limit_none 1024 (λ (c : SitedCall). c.name) (ground_calls (load_of all)) (omega (arith, grounds_few (ground_calls (load_of all)) g)))

  pub forms_none : All IsAddition all → length all ≤ 20000 → form_faults Run (load_of all) ≡ []
  unfolding meaning_definitions
  forms_none a l =
      let g : AreGrounds (ground_calls (load_of all)) = grounds a in
      let few : length (ground_calls (load_of all)) ≤ 680 = grounds_few (ground_calls (load_of all)) g in
      let sizes : size_faults (load_of all) ≡ [] = each_none (too_large (extent_of (load_of all))) IsLoadCall 680 (small_none (extent_of (load_of all)) extent_is) (ground_calls (load_of all)) g.fit few in
      let prints : print_faults (load_of all) ≡ [] = each_none (prints_too_much (λ c. prints_in (call_form (load_of all) c))) IsLoadCall 20000 (few_prints_none (λ c. prints_in (call_form (load_of all) c)) prints_are) (sited_calls (load_of all)) (load_calls_fit all a) (omega (arith, l, load_calls_length all)) in
      let weights : weight_faults (load_of all) ≡ [] = light_none (load_of all) light_is (ground_calls (load_of all)) g.fit in
      four_none (size_faults (load_of all)) (print_faults (load_of all)) (weight_faults (load_of all)) (row_faults Run (load_of all)) sizes prints weights refl
