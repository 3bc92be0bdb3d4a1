-- Schedules that run every call of every client.
use Rattle.std.specs.Prelude.{◌≡◌, ◌<◌, ◌≤◌, ℕ, length, All, Some, slice_get}
use Rattle.homeo_syntax.specs.Source as s
use Rattle.homeo_meaning.specs.CallRules.{times}
use Rattle.homeo_meaning.specs.Declarations.{place_of}
use Rattle.homeo_order.specs.Order.{client_names, order_of}

-- The schedule names clients alone, and each as often as it has calls; no two clients have one name.
pub record IsWholeOrder (w : s.Workload) : Type 0 where
  pub named : All (λ x. place_of (client_names w) x.name < length w.clients) (order_of w.schedule)
  pub known : All (λ x. x.name < length w.names) (order_of w.schedule)
  pub placed : (k : ℕ) (c : s.Client) → slice_get w.clients k ≡ Some c → place_of (client_names w) c.name.name ≡ k
  pub whole : (k : ℕ) (c : s.Client) → slice_get w.clients k ≡ Some c → times c.name.name (order_of w.schedule) ≡ length c.calls
  pub few : length w.clients ≤ 64
