-- The calls of a workload in the order of its schedule.
use Rattle.std.specs.Prelude.{ℕ, suc, List, [], ◌∷◌, ◌++◌, map, Option, Some, None}
use Rattle.homeo_syntax.specs.Source as s
use Rattle.homeo_syntax.specs.declared.phrase.Ident.{Ident}
use Rattle.homeo_meaning.specs.declared.call.CallId.{CallId}
use Rattle.homeo_meaning.specs.CallRules.{times}
use Rattle.homeo_meaning.specs.Declarations.{place_of}
use Rattle.homeo_order.specs.Key.{definitions}

abbrev pub client_names : s.Workload → List ℕ
unfolding definitions
client_names w = map (λ c. c.name.name) w.clients

-- each name stands for the next call of its client, after the names before
abbrev pub calls_from : List ℕ → List Ident → List Ident → List CallId
unfolding definitions
calls_from clients before [] = []
calls_from clients before (x ∷ xs) =
    record { client = place_of clients x.name; seq = suc (times x.name before) } ∷ calls_from clients (before ++ x ∷ []) xs

abbrev pub order_of : Option (List Ident) → List Ident
order_of None = []
order_of (Some xs) = xs

abbrev pub scheduled_calls : s.Workload → List CallId
unfolding definitions
scheduled_calls w = calls_from (client_names w) [] (order_of w.schedule)
