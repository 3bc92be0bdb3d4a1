-- The lists of calls that a history may have come from.
use Rattle.std.specs.Prelude.{◌≡◌, ℕ, List, [], ◌∷◌, ◌++◌, map, length, sum, option_map, unwrap_or}
use Rattle.std.specs.Option.{option_to_list}
use Rattle.homeo_syntax.specs.Source as s
use Rattle.homeo_meaning.specs.declared.call.CallId.{CallId}
use Rattle.homeo_history.specs.Key.{definitions}
use Rattle.homeo_history.specs.History.{Round, History}
use Rattle.homeo_history.specs.Merge.{interleave}
use Rattle.homeo_history.specs.Legal.{site_of}

-- the site of a call's client, and 0 where there is no such client
abbrev pub site_or_zero : s.Workload → CallId → ℕ
unfolding definitions
site_or_zero w call = unwrap_or (site_of w call) 0

-- the calls are the round's: a merge of its segments, picked by the sites of these calls, and then its closing call
pub record FollowsRound (w : s.Workload) (r : Round) (calls : List CallId) : Type 0 where
  pub before : List CallId
  pub cut : calls ≡ before ++ option_to_list (option_map (λ c. c.entry.call) r.closing)
  pub whole : length before ≡ sum (map length r.segments)
  pub by_sites : before ≡ interleave r.segments (map (site_or_zero w) before)

-- the calls can be cut in order into one part for each round
abbrev pub FollowsRounds : s.Workload → List Round → List CallId → Type 0
unfolding definitions
FollowsRounds w [] calls = calls ≡ []
FollowsRounds w (r ∷ rounds) calls =
    (part : List CallId) × (rest : List CallId) × (calls ≡ part ++ rest) × FollowsRound w r part × FollowsRounds w rounds rest

abbrev pub Follows : s.Workload → History → List CallId → Type 0
unfolding definitions
Follows w h calls = FollowsRounds w h.rounds calls
