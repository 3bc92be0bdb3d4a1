-- The prints of calls, counted along them.
use Rattle.std.proofs.Common.{◌≡◌, ℕ, zero, suc, ℤ, ◌+◌, ◌≤◌, Bool, true, false, List, [], ◌∷◌, ◌++◌, map, Option, Some, None, refl, sym, ap, ◌∙◌, arith, min, zero-add}
use Rattle.std.proofs.Math.Nat.{min-eq_left, min-eq_right}
use Rattle.std.proofs.lemmas.Int.{clamps}
use Rattle.std.proofs.lemmas.List.Sums.{sum_by-append}
use Rattle.std.proofs.lemmas.Bool.Decides.{nat_tests}
use Rattle.std.specs.Prelude.{slice_get, slice_index, nat_lt}
use Rattle.std.specs.List.{sum_by}
use Rattle.homeo_syntax.specs.Key.{definitions as syntax_definitions}
use Rattle.homeo_syntax.specs.Source as s
use Rattle.homeo_syntax.specs.SourceView.{plain_transaction}
use Rattle.homeo_syntax.specs.declared.workload.Transaction.{Transaction}
use Rattle.homeo_meaning.specs.Key.{definitions as meaning_definitions}
use Rattle.homeo_meaning.specs.Bindings.{Scope}
use Rattle.homeo_meaning.specs.NameRules.{when, fault}
use Rattle.homeo_meaning.specs.TransactionRules.{each, each_from}
use Rattle.homeo_meaning.specs.GlobalNames as g
use Rattle.homeo_meaning.specs.GlobalNames.{transaction_at}
use Rattle.homeo_meaning.specs.LForm.{l_form}
use Rattle.homeo_meaning.specs.LowSizes.{prints_in}
use Rattle.homeo_meaning.specs.CallForm.{body_form, call_form}
use Rattle.homeo_meaning.specs.SizeRules.{prints_too_much}
use Rattle.homeo_rules.specs.inner.Deciding.{keep_all}
use Rattle.homeo_meaning.specs.declared.rules.Fault.{Fault}
use Rattle.homeo_meaning.specs.declared.rules.Item.{Item}
use Rattle.homeo_meaning.specs.declared.rules.Item.TheVariants as I
use Rattle.homeo_meaning.specs.declared.rules.Phase.TheVariants.{Size}
use Rattle.homeo_ground.specs.declared.sited.SitedCall.{SitedCall}
use Rattle.homeo_rules.specs.declared.rules.bodies.Measuring.{Measuring}
use Rattle.homeo_rules.specs.inner.Printing.{capped_prints, prints_too_much_in, counted_prints, Printed, print_one, print_all}
use Rattle.homeo_rules.specs.inner.Scopes.{scope_in}
use Rattle.homeo_ground.specs.Sited.{sited}
use Rattle.homeo_rules.specs.inner.Sizes.{IsSetUp, workload_of}
use Rattle.homeo_rules.proofs.Steps.{keep_all-append}

-- ---- the calls so far
capped-test : (n : ℕ) → nat_lt 1000000 (min 1000001 n) ≡ nat_lt 1000000 n
capped-test n = by_case (nat_lt 1000000 n) refl
  where
    by_case : (b : Bool) → nat_lt 1000000 n ≡ b → nat_lt 1000000 (min 1000001 n) ≡ nat_lt 1000000 n
    by_case true e =
        let h : 1000001 ≤ n = grind (arith, nat_tests) in
        ap (nat_lt 1000000) (min-eq_left h) ∙ sym e
    by_case false e =
        let h : n ≤ 1000001 = grind (arith, nat_tests) in
        ap (nat_lt 1000000) (min-eq_right h)

capped-both : (n m : ℕ) → min 1000001 (min 1000001 n + min 1000001 m) ≡ min 1000001 (n + m)
capped-both n m = omega (arith, clamps)

module _ (s : Scope) (counts : List ℕ) (prints : g.SitedCall → ℕ) (agree : (c : g.SitedCall) → counted_prints counts (s.item c.name.name) ≡ min 1000001 (prints c)) where
  print-all : (before : List g.SitedCall) (t : Printed) (calls : List SitedCall) → t.total ≡ min 1000001 (sum_by (λ (d : g.SitedCall). prints d) before) → (print_all s counts t calls).best ≡ keep_all t.best (each_from (prints_too_much prints) before (map sited calls))
  unfolding meaning_definitions
  print-all before t [] e = refl
  print-all before t (c ∷ calls) e =
      let total : ℕ = sum_by (λ (d : g.SitedCall). prints d) before in
      let new : min 1000001 (t.total + counted_prints counts (s.item c.name.name)) ≡ min 1000001 (total + prints (sited c)) = (λ i. min 1000001 (e i + agree (sited c) i)) ∙ capped-both total (prints (sited c)) in
      let sum : sum_by (λ (d : g.SitedCall). prints d) (before ++ sited c ∷ []) ≡ total + prints (sited c) = sum_by-append (λ (d : g.SitedCall). prints d) before (sited c ∷ []) ∙ ap (λ n. total + n) (zero-add (prints (sited c))) in
      print-all (before ++ sited c ∷ []) (print_one s counts t c) calls (new ∙ ap (min 1000001) (sym sum))
      ∙ ap (λ b. keep_all (keep_all t.best (when b (fault Size c.name))) (each_from (prints_too_much prints) (before ++ sited c ∷ []) (map sited calls))) (ap (nat_lt 1000000) new ∙ capped-test (total + prints (sited c)))
      ∙ sym (keep_all-append t.best (prints_too_much prints before (sited c)) (each_from (prints_too_much prints) (before ++ sited c ∷ []) (map sited calls)))

  pub printed : (best : Option Fault) (calls : List SitedCall) → (print_all s counts (record { total = 0; best = best }) calls).best ≡ keep_all best (each (prints_too_much prints) (map sited calls))
  unfolding meaning_definitions
  printed best calls = print-all [] (record { total = 0; best = best }) calls refl

-- ---- by the counts of the transactions
pub counted : (m : Measuring) (t : Transaction) (n : ℕ) → IsSetUp m → ((args : List ℤ) → n ≡ min 1000001 (prints_in (l_form m.layout.now (map (λ p. p.name.name) t.params.items) args (plain_transaction t).body))) → (args : List ℤ) → n ≡ capped_prints (workload_of m) args t
unfolding meaning_definitions syntax_definitions
counted m t n up h args = h args ∙ ap (λ x. min 1000001 (prints_in (l_form x (map (λ p. p.name.name) t.params.items) args (plain_transaction t).body))) up.layout

count-plain : (w : s.Workload) (args : List ℤ) (ts : List Transaction) (k : ℕ) → slice_index (map (capped_prints w args) ts) k ≡ min 1000001 (prints_in (body_form w (slice_get (map plain_transaction ts) k) args))
unfolding meaning_definitions
count-plain w args [] k = refl
count-plain w args (t ∷ ts) zero = refl
count-plain w args (t ∷ ts) (suc k) = count-plain w args ts k

counts-plain : (w : s.Workload) (args : List ℤ) (ts : List Transaction) → w.transactions ≡ map plain_transaction ts → (g : Option Item) → counted_prints (map (capped_prints w args) ts) g ≡ min 1000001 (prints_in (body_form w (transaction_at w g) args))
unfolding meaning_definitions
counts-plain w args ts e None = refl
counts-plain w args ts e (Some (I.Transaction k)) = count-plain w args ts k ∙ ap (λ l. min 1000001 (prints_in (body_form w (slice_get l k) args))) (sym e)
counts-plain w args ts e (Some (I.Object k)) = refl
counts-plain w args ts e (Some (I.Relation k)) = refl
counts-plain w args ts e (Some (I.Client k)) = refl

pub prints-along : (m : Measuring) (best : Option Fault) (counts : List ℕ) (ts : List Transaction) (calls : List SitedCall) → IsSetUp m → ts ≡ m.workload.now.transactions.items → ((args : List ℤ) → counts ≡ map (capped_prints (workload_of m) args) ts) → (print_all (scope_in m.scope) counts (record { total = 0; best = best }) calls).best ≡ keep_all best (each (prints_too_much_in (workload_of m)) (map sited calls))
unfolding meaning_definitions syntax_definitions
prints-along m best counts ts calls up et counted =
    let w : s.Workload = workload_of m in
    let agree : (c : g.SitedCall) → counted_prints counts ((scope_in m.scope).item c.name.name) ≡ min 1000001 (prints_in (call_form w c)) =
    λ c. ap (λ l. counted_prints l ((scope_in m.scope).item c.name.name)) (counted c.args)
    ∙ counts-plain w c.args ts (sym (ap (map plain_transaction) et)) ((scope_in m.scope).item c.name.name)
    ∙ ap (λ (sc : Scope). min 1000001 (prints_in (body_form w (transaction_at w (sc.item c.name.name)) c.args))) up.scope in
    printed (scope_in m.scope) counts (λ c. prints_in (call_form w c)) agree best calls
