-- Counting the names of a schedule along it.
use Rattle.std.specs.Prelude.{ℕ, ◌+◌, nat_lt, Bool, List, [], ◌∷◌, map, length, Option, Some, None, slice_set, slice_index, slice_get}
use Rattle.std.specs.List.{list_any}
use Rattle.homeo_syntax.specs.SourceView.{plain_client}
use Rattle.homeo_syntax.specs.declared.phrase.Ident.{Ident}
use Rattle.homeo_syntax.specs.declared.workload.Client.{Client}
use Rattle.homeo_meaning.specs.Bindings.{Scope}
use Rattle.homeo_meaning.specs.CallRules.{scheduled}
use Rattle.homeo_rules.specs.inner.Deciding.{keep_all}
use Rattle.homeo_meaning.specs.declared.rules.Fault.{Fault}
use Rattle.homeo_meaning.specs.declared.rules.Item.{Item}
use Rattle.homeo_rules.specs.inner.Key.{definitions}

pub record Tally : Type 0 where
  pub counts : List ℕ
  pub best : Option Fault

abbrev pub scheduled_of : List Client → ℕ → Option Item → Ident → List Fault
unfolding definitions
scheduled_of cs before g x = scheduled (map plain_client cs) before g x

abbrev pub tally : Scope → List Client → Tally → Ident → Tally
unfolding definitions
tally s cs t x = record { counts = slice_set t.counts x.name (slice_index t.counts x.name + 1); best = keep_all t.best (scheduled_of cs (slice_index t.counts x.name) (s.item x.name) x) }

abbrev pub tally_all : Scope → List Client → Tally → List Ident → Tally
tally_all s cs t [] = t
tally_all s cs t (x ∷ xs) = tally_all s cs (tally s cs t x) xs

-- the number of calls of the client of a number
abbrev pub call_count_of : Option Client → ℕ
call_count_of None = 0
call_count_of (Some c) = length c.calls.items

abbrev pub call_count_at : List Client → ℕ → ℕ
call_count_at cs k = call_count_of (slice_get cs k)

-- some client is counted less often than it has calls
abbrev pub is_short_of : List ℕ → List Client → Bool
is_short_of counts cs = list_any (λ c. nat_lt (slice_index counts c.name.name) (length c.calls.items)) cs

abbrev pub has_calls_of : List Client → Bool
has_calls_of cs = list_any (λ c. nat_lt 0 (length c.calls.items)) cs
