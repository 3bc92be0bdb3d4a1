-- The history that stands in the nodes (this project's rule).
use Rattle.std.specs.Prelude.{ℕ, suc, ◌==◌, max, List, [], ◌∷◌, ◌++◌, map, length, filter, find, Some, None, slice_index_or}
use Rattle.std.specs.List.{range_with_len}
use Rattle.std.specs.Option.{option_map_or}
use Rattle.homeo_syntax.specs.Source as s
use Rattle.homeo_history.specs.History.{Entry, Round, History}
use Rattle.homeo_history.specs.Legal.{calls_of, numbers_of}
use Rattle.homeo_site.specs.SiteState.{SiteState}
use Rattle.homeo_core.specs.Joined.{gathered}
use Rattle.homeo_wire.specs.Key.{definitions}
use Rattle.homeo_wire.specs.Nodes.{Left, Journal, World}

-- the greatest round of any node
abbrev pub last_round : List Journal → ℕ
unfolding definitions
last_round [] = 0
last_round (j ∷ js) = max j.site.round (last_round js)

-- what a node ran in a round: nothing where it hasn't come to it
abbrev pub ran_in : ℕ → Journal → List Entry
unfolding definitions
ran_in round j = slice_index_or (map (λ l. l.segment) j.left ++ j.site.segment ∷ []) round []

-- the rounds that a node has left, numbered from this number on, each with what all nodes ran in it
abbrev pub rounds_left : List Journal → ℕ → List Left → List Round
unfolding definitions
rounds_left js round [] = []
rounds_left js round (l ∷ left) =
    record { base = l.base; segments = map (ran_in round) js; closing = Some l.closing } ∷ rounds_left js (suc round) left

-- the sites of the nodes that are in a round
abbrev pub sites_in : ℕ → List Journal → List SiteState
unfolding definitions
sites_in round js = filter (λ x. x.round == round) (map (λ j. j.site) js)

-- by a node that has come to the last round: the rounds that it has left, and then the last one, which leaves its base with the deltas
-- of the nodes that are in it
abbrev pub history_by : List Journal → Journal → History
unfolding definitions
history_by js j =
    let last : ℕ = j.site.round in
    record {
      rounds = rounds_left js 0 j.left ++ record { base = j.site.base; segments = map (ran_in last) js; closing = None } ∷ [];
      last = gathered j.site.base (sites_in last js);
    }

abbrev pub journals : World → List Journal
unfolding definitions
journals x = map (λ n. n.journal) x.nodes

abbrev pub history_of : List Journal → History
unfolding definitions
history_of js =
    option_map_or (history_by js) (find (λ j. j.site.round == last_round js) js) (record { rounds = []; last = [] })

-- the history after the events that led here
abbrev pub history_in : World → History
unfolding definitions
history_in x = history_of (journals x)

-- how many calls of each client stand in rounds
abbrev pub counts_in : s.Workload → List Round → List ℕ
unfolding definitions
counts_in w rounds = map (λ client. length (numbers_of client (calls_of rounds))) (range_with_len 0 (length w.clients))
