-- Whether calls are light, along them.
use Rattle.std.proofs.Common.{◌≡◌, ℕ, ◌+◌, ◌<◌, ◌≤◌, not, List, map, drop, Option, length, get_or, refl, sym, ap, ◌∙◌}
use Rattle.std.specs.Prelude.{nat_le}
use Rattle.std.specs.List.{flat_map}
use Rattle.std.proofs.lemmas.List.{drop_all}
use Rattle.homeo_syntax.specs.Source as s
use Rattle.homeo_meaning.specs.Key.{definitions as meaning_definitions}
use Rattle.homeo_meaning.specs.NameRules.{when, fault}
use Rattle.homeo_meaning.specs.Schema.{schema_of}
use Rattle.homeo_meaning.specs.CallForm.{call_form}
use Rattle.homeo_meaning.specs.SizeRules.{heaviest, heavy_call}
use Rattle.homeo_meaning.specs.LowWeights.{first_weights, is_light}
use Rattle.homeo_rules.specs.inner.Deciding.{keep_all}
use Rattle.homeo_meaning.specs.declared.rules.Fault.{Fault}
use Rattle.homeo_meaning.specs.declared.rules.Phase.TheVariants.{Weight}
use Rattle.homeo_size.specs.declared.measures.Measure.{Measure}
use Rattle.homeo_rules.specs.inner.Sizes.{call_of, AreMeasured, known}
use Rattle.homeo_rules.specs.declared.rules.sizes.MeasuredCall.{MeasuredCall}
use Rattle.homeo_rules.proofs.Steps.{keep_all-append}
use Rattle.homeo_rules.proofs.AlongCalls.{drop-next, after_of, again, head_measured}

pub record WeightsSo (w : s.Workload) (start best : Option Fault) (calls : List MeasuredCall) (i : ℕ) : Type 0 where
  pub measured : AreMeasured w (drop i calls)
  pub left : keep_all best (flat_map (heavy_call w) (after_of calls i)) ≡ keep_all start (flat_map (heavy_call w) (map call_of calls))

pub weights_begin : (w : s.Workload) (start : Option Fault) (calls : List MeasuredCall) → AreMeasured w calls → WeightsSo w start start calls 0
weights_begin w start calls h = record { measured = h; left = refl }

weights_next : (w : s.Workload) (start best new : Option Fault) (calls : List MeasuredCall) (i : ℕ) (c : MeasuredCall) (m : Measure) → i < length calls → get_or calls i c ≡ c → WeightsSo w start best calls i → m ≡ known c.body → new ≡ keep_all best (when (not (nat_le m.weight 1000000000000000000)) (fault Weight c.call.name)) → WeightsSo w start new calls (i + 1)
unfolding meaning_definitions
weights_next w start best new calls i c m lt at so is checked =
    let head = head_measured w calls i c lt at so.measured in
    let light : nat_le m.weight 1000000000000000000 ≡ is_light heaviest (call_form w (call_of c)) (first_weights (schema_of w)) = ap (λ (k : Measure). nat_le k.weight 1000000000000000000) is ∙ head.0.light in
    record {
      measured = head.1;
      left =
          ap (λ b. keep_all b (flat_map (heavy_call w) (after_of calls (i + 1)))) (checked ∙ ap (λ b. keep_all best (when (not b) (fault Weight c.call.name))) light)
          ∙ sym (keep_all-append best (heavy_call w (call_of c)) (flat_map (heavy_call w) (after_of calls (i + 1))))
          ∙ ap (λ l. keep_all best (flat_map (heavy_call w) l)) (sym (drop-next calls i c lt at))
          ∙ so.left;
    }

pub weights_step : (w : s.Workload) (start best new : Option Fault) (calls : List MeasuredCall) (i : ℕ) (d : MeasuredCall) (m : Measure) → i < length calls → WeightsSo w start best calls i → m ≡ known (get_or calls i d).body → new ≡ keep_all best (when (not (nat_le m.weight 1000000000000000000)) (fault Weight (get_or calls i d).call.name)) → WeightsSo w start new calls (i + 1)
weights_step w start best new calls i d m lt so is checked = weights_next w start best new calls i (get_or calls i d) m lt (again calls i d lt) so is checked

pub weights_end : (w : s.Workload) (start best : Option Fault) (calls : List MeasuredCall) (i : ℕ) → length calls ≤ i → WeightsSo w start best calls i → best ≡ keep_all start (flat_map (heavy_call w) (map call_of calls))
unfolding meaning_definitions
weights_end w start best calls i h so =
    sym (ap (λ l. keep_all best (flat_map (heavy_call w) (map call_of l))) (drop_all i calls h)) ∙ so.left
