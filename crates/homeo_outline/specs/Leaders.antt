-- Clauses that are looked at in place of others: those of the same terms and no more slack (this project's rule).
use Rattle.std.specs.Prelude.{◌≡◌, ◌<◌, ◌≤ℤ◌, ℕ, true, List, [], length, slice_index_or, ℤ, pos}
use Rattle.homeo_plan.specs.declared.forms.Term.{Term}
use Rattle.homeo_outline.specs.Numbers.{has, clauses_on}

-- among clauses with these terms and slacks, one of the numbers ms is that of a clause with the terms of clause n and no more slack
pub record IsLed (tss : List (List Term)) (ss : List ℤ) (ms : List ℕ) (n : ℕ) : Type 0 where
  pub leader : ℕ
  pub there : has leader ms ≡ true
  pub leads : leader < length tss
  pub led : n < length tss
  pub terms : slice_index_or tss leader [] ≡ slice_index_or tss n []
  pub slack : slice_index_or ss leader (pos 0) ≤ℤ slice_index_or ss n (pos 0)

-- object by object there are no leaders, or they lead all clauses that name the object
abbrev pub Lead : List (List Term) → List ℤ → List (List ℕ) → Type 0
Lead tss ss leaders =
    (x n : ℕ) → (slice_index_or leaders x [] ≡ [] → ⊥) → has n (clauses_on x tss) ≡ true → IsLed tss ss (slice_index_or leaders x []) n
