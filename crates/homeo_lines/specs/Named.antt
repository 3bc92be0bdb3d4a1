-- Clients and their calls, by name and by place.
use Rattle.std.specs.Prelude.{ℕ, suc, ◌&&◌, nat_lt, nat_le, pos, ℤ, Bool, true, false, List, [], ◌∷◌, map, length, Option, Some, None, option_map, slice_get, if◌then◌else◌}
use Rattle.std.specs.Option.{option_and_then, option_map_or}
use Rattle.std.specs.Ordering.{int_eq}
use Rattle.std.specs.Str.{bytes_eq}
use Rattle.homeo_syntax.specs.Source as s
use Rattle.homeo_syntax.specs.declared.phrase.Number.{Number}
use Rattle.homeo_meaning.specs.declared.call.CallId.{CallId}
use Rattle.homeo_print.specs.Names.{name_text}

-- the place, from k on, of the first that passes
abbrev pub first_from : {A : Type 0} → (A → Bool) → ℕ → List A → Option ℕ
first_from test k [] = None
first_from test k (x ∷ xs) = if test x then Some k else first_from test (suc k) xs

-- the name of a client, and nothing where there is no such client
abbrev pub client_name : s.Workload → ℕ → List ℕ
client_name w client = option_map_or (λ c. name_text w c.name) (slice_get w.clients client) []

-- the first client of this name
abbrev pub client_called : s.Workload → List ℕ → Option ℕ
client_called w name = first_from (λ c. bytes_eq (name_text w c.name) name) 0 w.clients

-- the call of this place, from 1, in a client's list, where the client is at this site
abbrev pub call_in : ℕ → ℕ → ℕ → s.Client → Option CallId
call_in site client seq c =
    if int_eq c.site.value (pos site) && (nat_lt 0 seq && nat_le seq (length c.calls)) then Some (record { client = client; seq = seq }) else None

abbrev pub call_at : s.Workload → ℕ → ℕ → ℕ → Option CallId
call_at w site client seq = option_and_then (call_in site client seq) (slice_get w.clients client)

-- ---- the call of a transaction with arguments
abbrev pub has_args : List Number → List ℤ → Bool
has_args [] [] = true
has_args [] (n ∷ ns) = false
has_args (x ∷ xs) [] = false
has_args (x ∷ xs) (n ∷ ns) = int_eq x.value n && has_args xs ns

abbrev pub is_of : s.Workload → List ℕ → List ℤ → s.Call → Bool
is_of w transaction args call = has_args call.args args && bytes_eq (name_text w call.name) transaction

-- the first in a client's list
abbrev pub listed : s.Workload → ℕ → List ℕ → List ℤ → Option CallId
listed w client transaction args =
    option_and_then (λ c. option_map (λ seq. record { client = client; seq = seq }) (first_from (is_of w transaction args) 1 c.calls)) (slice_get w.clients client)

-- the first in the list of the client of this name
abbrev pub listed_of : s.Workload → List ℕ → List ℕ → List ℤ → Option CallId
listed_of w name transaction args = option_and_then (λ client. listed w client transaction args) (client_called w name)
