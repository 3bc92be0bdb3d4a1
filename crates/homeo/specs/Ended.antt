-- Calls that end themselves by `abort`: they never break a treaty.
use Rattle.std.specs.Prelude.{◌≡◌, ℕ, List, map, true, ℤ, Some, IfSome, All}
use Rattle.homeo_syntax.specs.Source as s
use Rattle.homeo_meaning.specs.Acceptance.{IsAccepted}
use Rattle.homeo_meaning.specs.Bounds.{IsWithin}
use Rattle.homeo_meaning.specs.Meaning.{run}
use Rattle.homeo_meaning.specs.Schema.{schema_of}
use Rattle.homeo_meaning.specs.Serial.{values_of, call_of, transaction_named, arguments}
use Rattle.homeo_meaning.specs.declared.call.CallId.{CallId}
use Rattle.homeo_history.specs.History.{History}
use Rattle.homeo_history.specs.Legal.{IsCallAt, IsLegalFrom}
use Rattle.homeo_history.specs.Replayed.{fold_of}
use Rattle.homeo_round.specs.PlusDeltas.{plus_deltas}
use Rattle.homeo_site.specs.SiteState.{SiteState, SiteHolds, KeepsCall}

-- the call, run alone on a database, ends itself
pub record EndsItself (w : s.Workload) (id : CallId) (database : List ℤ) : Type 0 where
  pub call : s.Call
  pub transaction : s.Transaction
  pub made : call_of w id ≡ Some call
  pub named : transaction_named w call.name.name ≡ Some transaction
  pub ended : (run (schema_of w) (map (λ p. p.name.name) transaction.params) (arguments call) transaction.body (values_of database)).ended ≡ true

-- one that ends itself on what its site sees, the base with the site's own deltas, keeps the site's treaty
abbrev pub EndedKeepsTreaty : Type 0
EndedKeepsTreaty =
    (w : s.Workload) (x : SiteState) (call : CallId) → IsAccepted w → SiteHolds w x → IsCallAt w x.number call →
    EndsItself w call (plus_deltas x.base x.deltas) → KeepsCall w x call

-- no round of a legal history is closed by one that ends itself on what the calls of all sites have left in it
abbrev pub EndedClosesNoRound : Type 0
EndedClosesNoRound =
    (w : s.Workload) (start : List ℤ) (counts : List ℕ) (h : History) → IsAccepted w → IsWithin (schema_of w) start →
    IsLegalFrom w start counts h → All (λ r. IfSome r.closing (λ c. EndsItself w c.entry.call (fold_of w r) → ⊥)) h.rounds
