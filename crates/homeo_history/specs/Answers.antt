-- The answers that the calls of a history got (this project's rule).
use Rattle.std.specs.Prelude.{◌≡◌, ℕ, suc, ◌==◌, List, [], ◌∷◌, ◌++◌, map, filter, ℤ, Some, IfSome, option_map, Contains, slice_get}
use Rattle.std.specs.Option.{option_to_list}
use Rattle.homeo_meaning.specs.declared.call.CallId.{CallId}
use Rattle.homeo_history.specs.declared.answer.Path.{Path}
use Rattle.homeo_history.specs.declared.answer.Path.TheVariants.{Local, Cleanup}
use Rattle.homeo_history.specs.Key.{definitions}
use Rattle.homeo_history.specs.History.{Entry, Closing, Round}
use Rattle.homeo_history.specs.Merge.{segment_of}

-- the answer to a client's call of this number: where, in which round and how it was made, and what it printed
pub record Answer : Type 0 where
  pub client : ℕ
  pub seq : ℕ
  pub site : ℕ
  pub round : ℕ
  pub path : Path
  pub prints : List ℤ

abbrev pub answer : ℕ → ℕ → Path → Entry → Answer
unfolding definitions
answer round site path e =
    record { client = e.call.client; seq = e.call.seq; site = site; round = round; path = path; prints = e.prints }

-- to a call that a site ran by itself
abbrev pub local_answer : ℕ → ℕ → Entry → Answer
unfolding definitions
local_answer round site e = answer round site Local e

-- to a call that closed its round
abbrev pub closing_answer : ℕ → Closing → Answer
unfolding definitions
closing_answer round c = answer round c.site (Cleanup c.broken) c.entry

-- to the entries of each segment, from the segment of this site on
abbrev pub local_answers : ℕ → ℕ → List (List Entry) → List Answer
unfolding definitions
local_answers round site [] = []
local_answers round site (segment ∷ segments) =
    map (local_answer round site) segment ++ local_answers round (suc site) segments

-- to all calls of a round with this number
abbrev pub answers_of_round : ℕ → Round → List Answer
unfolding definitions
answers_of_round round r =
    local_answers round 0 r.segments ++ option_to_list (option_map (closing_answer round) r.closing)

-- to all calls of rounds that are numbered from this number on
abbrev pub answers_of : ℕ → List Round → List Answer
unfolding definitions
answers_of round [] = []
answers_of round (r ∷ rounds) = answers_of_round round r ++ answers_of (suc round) rounds

-- those to one client
abbrev pub answers_to : ℕ → List Answer → List Answer
unfolding definitions
answers_to client answers = filter (λ a. a.client == client) answers

-- ---- an answer is that of its call in a history
abbrev pub called : Answer → CallId
unfolding definitions
called a = record { client = a.client; seq = a.seq }

abbrev pub answered_entry : Answer → Entry
unfolding definitions
answered_entry a = record { call = called a; prints = a.prints }

-- where a site ran the call by itself, the call stands in the site's segment and does not close the round; where the answer
-- came from a cleanup, the call closes the round, with the same finding
abbrev pub IsAnswerMade : Round → Answer → Path → Type 0
unfolding definitions
IsAnswerMade r a Local =
    Contains (segment_of r.segments a.site) (answered_entry a) × IfSome r.closing (λ c. c.entry.call ≡ called a → ⊥)
IsAnswerMade r a (Cleanup broken) =
    r.closing ≡ Some (record { site = a.site; entry = answered_entry a; broken = broken })

-- it is made so in its round of these
pub record IsAnswerIn (rounds : List Round) (a : Answer) : Type 0 where
  pub round : Round
  pub stands : slice_get rounds a.round ≡ Some round
  pub made : IsAnswerMade round a a.path
