-- Which calls a workload has.
use Rattle.std.specs.Prelude.{◌≡◌, ℕ, ℤ, List, Some, IsSome, slice_get}
use Rattle.homeo_syntax.specs.Source as s
use Rattle.homeo_meaning.specs.declared.call.CallId.{CallId}
use Rattle.homeo_meaning.specs.Key.{definitions}
use Rattle.homeo_meaning.specs.Serial.{call_of, transaction_named, arguments, Outcome, outcome_at}

-- there is a client of this number, and it has a call of this number
abbrev pub CallExists : s.Workload → CallId → Type 0
unfolding definitions
CallExists w id = IsSome (call_of w id)

-- some client calls the transaction of this number with these arguments
pub record IsGroundCall (w : s.Workload) (transaction : ℕ) (args : List ℤ) : Type 0 where
  pub id : CallId
  pub call : s.Call
  pub made : call_of w id ≡ Some call
  pub named : slice_get w.transactions transaction ≡ transaction_named w call.name.name
  pub given : arguments call ≡ args

-- what a call of the transaction of this number comes to
abbrev pub ground_outcome : s.Workload → ℕ → List ℤ → List ℤ → Outcome
ground_outcome w transaction args database = outcome_at w (slice_get w.transactions transaction) args database
