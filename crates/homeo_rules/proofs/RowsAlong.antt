-- The rows of calls times their sizes, added up along them.
use Rattle.std.proofs.Common.{◌≡◌, ℕ, ◌+◌, ◌*◌, ◌<◌, ◌≤◌, min, Bool, true, false, ◌||◌, List, map, drop, Option, length, get_or, refl, sym, ap, subst, ◌∙◌, arith, mul_comm}
use Rattle.std.specs.Prelude.{nat_lt}
use Rattle.std.proofs.lemmas.Int.{clamps}
use Rattle.std.proofs.lemmas.Bool.Decides.{nat_tests}
use Rattle.std.proofs.Math.Nat.{mul-le-mul_left}
use Rattle.homeo_lemmas.proofs.Naturals.{product_positive}
use Rattle.homeo_syntax.specs.Low as L
use Rattle.homeo_syntax.specs.Source as s
use Rattle.homeo_meaning.specs.Key.{definitions as meaning_definitions}
use Rattle.homeo_meaning.specs.NameRules.{when, fault}
use Rattle.homeo_meaning.specs.TransactionRules.{each}
use Rattle.homeo_meaning.specs.GlobalNames as g
use Rattle.homeo_meaning.specs.LowMeaning.{Location}
use Rattle.homeo_meaning.specs.LowSizes.{Extent, command_extent, rows, rows_all}
use Rattle.homeo_meaning.specs.Schema.{nat_of, schema_of}
use Rattle.homeo_meaning.specs.CallForm.{call_form}
use Rattle.homeo_meaning.specs.SizeRules.{extent_of, table_size, too_many_rows}
use Rattle.homeo_rules.specs.inner.Deciding.{keep_all}
use Rattle.homeo_meaning.specs.declared.rules.Fault.{Fault}
use Rattle.homeo_meaning.specs.declared.rules.Phase.TheVariants.{Rows}
use Rattle.homeo_size.specs.Measured.{IsMeasure}
use Rattle.homeo_size.specs.declared.measures.Measure.{Measure}
use Rattle.homeo_rules.specs.inner.Sizes.{call_of, AreMeasured, known}
use Rattle.homeo_rules.specs.declared.rules.sizes.MeasuredCall.{MeasuredCall}
use Rattle.homeo_rules.proofs.AlongCalls.{left_of, one_more, none_more, sum_before, sum_next, again, capped-less, head_measured}

mutual
  unfolding meaning_definitions

  rows_one : (c : L.Command) → 1 ≤ rows c
  rows_one L.Skip = omega arith
  rows_one (L.Assign t e) = omega arith
  rows_one (L.Write x e) = omega arith
  rows_one (L.Print e) = omega arith
  rows_one (L.Seq cs) = rows_all_one cs
  rows_one (L.If b c d) = omega (arith, rows_one c)

  rows_all_one : (cs : L.Commands) → 1 ≤ rows_all cs
  rows_all_one L.NoCommand = omega arith
  rows_all_one (L.MoreCommand c cs) = product_positive (rows c) (rows_all cs) (rows_one c) (rows_all_one cs)

size_one : (sites : ℕ) (c : L.Command) (v : Location → Extent) → 1 ≤ (command_extent sites c v).size
unfolding meaning_definitions
size_one sites L.Skip v = omega arith
size_one sites (L.Assign t e) v = omega arith
size_one sites (L.Write x e) v = omega arith
size_one sites (L.Print e) v = omega arith
size_one sites (L.Seq cs) v = omega arith
size_one sites (L.If b c d) v = omega arith

-- a product of what is told up to the cap
far_product : (m n : ℕ) → 8000001 ≤ m → 1 ≤ n → 8000001 ≤ m * n
far_product m n h k = let le : m * 1 ≤ m * n = mul-le-mul_left m k in omega arith

at_cap : (n : ℕ) → 8000001 ≤ n → min 8000001 n ≡ 8000001
at_cap n h = omega (arith, clamps)

capped_product : (m n : ℕ) → 1 ≤ m → 1 ≤ n → min 8000001 (min 8000001 m * min 8000001 n) ≡ min 8000001 (m * n)
capped_product m n h k = by_case (nat_lt 8000001 m) (nat_lt 8000001 n) refl refl
  where
    least : min 8000001 n ≤ n
    least = omega (arith, clamps)

    by_case : (p q : Bool) → nat_lt 8000001 m ≡ p → nat_lt 8000001 n ≡ q → min 8000001 (min 8000001 m * min 8000001 n) ≡ min 8000001 (m * n)
    by_case true q e f =
        let lt : 8000001 < m = grind (arith, nat_tests) in
        let cap : min 8000001 m ≡ 8000001 = omega (arith, clamps) in
        let one : 1 ≤ min 8000001 n = omega (arith, clamps) in
        let far : 8000001 ≤ 8000001 * min 8000001 n = far_product 8000001 (min 8000001 n) (omega arith) one in
        let full : 8000001 ≤ m * n = far_product m n (omega arith) k in
        ap (λ a. min 8000001 (a * min 8000001 n)) cap ∙ at_cap _ far ∙ sym (at_cap _ full)
    by_case false true e f =
        let le : m ≤ 8000001 = grind (arith, nat_tests) in
        let lt : 8000001 < n = grind (arith, nat_tests) in
        let cap : min 8000001 n ≡ 8000001 = omega (arith, clamps) in
        let same : min 8000001 m ≡ m = omega (arith, clamps) in
        let far : 8000001 ≤ 8000001 * m = far_product 8000001 m (omega arith) h in
        let full : 8000001 ≤ n * m = far_product n m (omega arith) h in
        (λ i. min 8000001 (same i * cap i)) ∙ ap (min 8000001) (mul_comm m 8000001) ∙ at_cap _ far ∙ sym (ap (min 8000001) (mul_comm m n) ∙ at_cap _ full)
    by_case false false e f =
        let le : m ≤ 8000001 = grind (arith, nat_tests) in
        let less : n ≤ 8000001 = grind (arith, nat_tests) in
        let same : min 8000001 m ≡ m = omega (arith, clamps) in
        let also : min 8000001 n ≡ n = omega (arith, clamps) in
        λ i. min 8000001 (same i * also i)

capped_both : (a b : ℕ) → min 8000001 (min 8000001 a + min 8000001 b) ≡ min 8000001 (a + b)
capped_both a b = omega (arith, clamps)

-- what a loop over calls keeps of rows
pub record RowsSo (w : s.Workload) (start best : Option Fault) (total : ℕ) (calls : List MeasuredCall) (i : ℕ) : Type 0 where
  pub sum : total ≡ min 8000001 (sum_before (table_size w) calls i)
  pub measured : AreMeasured w (drop i calls)
  pub left : left_of (too_many_rows w) best calls i ≡ keep_all start (each (too_many_rows w) (map call_of calls))

pub rows_begin : (w : s.Workload) (start : Option Fault) (calls : List MeasuredCall) → AreMeasured w calls → RowsSo w start start 0 calls 0
unfolding meaning_definitions
rows_begin w start calls h = record { sum = refl; measured = h; left = refl }

pub rows_next : (w : s.Workload) (start best new : Option Fault) (total product next : ℕ) (calls : List MeasuredCall) (i : ℕ) (c : MeasuredCall) (m : Measure) → i < length calls → get_or calls i c ≡ c → RowsSo w start best total calls i → m ≡ known c.body → product ≡ min 8000001 (m.rows * m.size) → next ≡ min 8000001 (total + product) → new ≡ keep_all best (when (nat_lt 4096 m.rows || nat_lt 8000000 next) (fault Rows c.call.name)) → RowsSo w start new next calls (i + 1)
unfolding meaning_definitions
rows_next w start best new total product next calls i c m lt at so is times added checked =
    let head = head_measured w calls i c lt at so.measured in
    let measured : IsMeasure (schema_of w) (nat_of w.sites.value) (call_form w (call_of c)) m = subst (λ k. IsMeasure (schema_of w) (nat_of w.sites.value) (call_form w (call_of c)) k) (sym is) head.0 in
    let form : L.Command = call_form w (call_of c) in
    let a : ℕ = sum_before (table_size w) calls i in
    let size : ℕ = (extent_of w (call_of c)).size in
    let whole : product ≡ min 8000001 (rows form * size) =
    times ∙ (λ i. min 8000001 (measured.rows i * measured.size i)) ∙ capped_product (rows form) size (rows_one form) (size_one (nat_of w.sites.value) form _) in
    let add : next ≡ min 8000001 (a + table_size w (call_of c)) = added ∙ (λ i. min 8000001 (so.sum i + whole i)) ∙ capped_both a (rows form * size) in
    let many : nat_lt 4096 m.rows ≡ nat_lt 4096 (rows form) = ap (nat_lt 4096) measured.rows ∙ capped-less 4096 (rows form) (omega arith) in
    let full : nat_lt 8000000 next ≡ nat_lt 8000000 (a + table_size w (call_of c)) = ap (nat_lt 8000000) add ∙ capped-less 8000000 (a + table_size w (call_of c)) (omega arith) in
    let rule : List g.SitedCall → g.SitedCall → List Fault = too_many_rows w in
    record {
      sum = add ∙ ap (min 8000001) (sym (sum_next (table_size w) calls i c lt at));
      measured = head.1;
      left =
          ap (λ b. left_of rule b calls (i + 1)) (checked ∙ (λ i. keep_all best (when (many i || full i) (fault Rows c.call.name))))
          ∙ sym (one_more rule best calls i c lt at)
          ∙ so.left;
    }

pub rows_end : (w : s.Workload) (start best : Option Fault) (total : ℕ) (calls : List MeasuredCall) (i : ℕ) → length calls ≤ i → RowsSo w start best total calls i → best ≡ keep_all start (each (too_many_rows w) (map call_of calls))
rows_end w start best total calls i h so = sym (none_more (too_many_rows w) best calls i h) ∙ so.left

pub rows_step : (w : s.Workload) (start best new : Option Fault) (total product next : ℕ) (calls : List MeasuredCall) (i : ℕ) (d : MeasuredCall) (m : Measure) → i < length calls → RowsSo w start best total calls i → m ≡ known (get_or calls i d).body → product ≡ min 8000001 (m.rows * m.size) → next ≡ min 8000001 (total + product) → new ≡ keep_all best (when (nat_lt 4096 m.rows || nat_lt 8000000 next) (fault Rows (get_or calls i d).call.name)) → RowsSo w start new next calls (i + 1)
rows_step w start best new total product next calls i d m lt so is times added checked =
    rows_next w start best new total product next calls i (get_or calls i d) m lt (again calls i d lt) so is times added checked
