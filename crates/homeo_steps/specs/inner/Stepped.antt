-- What a core keeps while the calls of a schedule are made.
use Rattle.std.specs.Prelude.{◌≡◌, ◌<◌, ℕ, ℤ, List, [], length, slice_index_or}
use Rattle.homeo_syntax.specs.Source as s
use Rattle.homeo_syntax.specs.SourceView.{plain_workload}
use Rattle.homeo_syntax.specs.declared.phrase.Ident.{Ident}
use Rattle.homeo_meaning.specs.CallRules.{times}
use Rattle.homeo_meaning.specs.Declarations.{place_of}
use Rattle.homeo_history.specs.Follows.{Follows}
use Rattle.homeo_core.specs.CoreView.{CoreValue, start_of, core_history}
use Rattle.homeo_order.specs.Order.{client_names, calls_from}

-- From this database on, the calls of these names were made: each client's as often as it was named, and all in this order.
pub record HasMade (w : s.Workload) (base : List ℤ) (names : List Ident) (x : CoreValue) : Type 0 where
  pub work : plain_workload x.work ≡ w
  pub start : start_of x.book ≡ base
  pub size : length x.counts ≡ length w.clients
  pub counted : (n : ℕ) → place_of (client_names w) n < length w.clients → slice_index_or x.counts (place_of (client_names w) n) 0 ≡ times n names
  pub follows : Follows w (core_history x) (calls_from (client_names w) [] names)
