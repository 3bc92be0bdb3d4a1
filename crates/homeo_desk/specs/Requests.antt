-- What a desk does with a request.
use Rattle.std.specs.Prelude.{◌≡◌, ℕ, ◌==◌, nat_lt, Bool, ◌&&◌, cond, List, [], ◌∷◌, ◌++◌, length, Option, None, Some, slice_index_or}
use Rattle.std.specs.List.{list_any}
use Rattle.homeo_nodes.specs.Nodes.{most_waiting}
use Rattle.homeo_desk.specs.declared.output.Answer.{Answer}
use Rattle.homeo_desk.specs.declared.output.Output.{Output}
use Rattle.homeo_desk.specs.declared.output.Output.TheVariants as o
use Rattle.homeo_desk.specs.declared.output.Request.{Request}
use Rattle.homeo_desk.specs.declared.output.Why.TheVariants as why
use Rattle.homeo_desk.specs.DeskView.{DeskValue, Reply, plain_reply}
use Rattle.homeo_desk.specs.Moves.{IsMove}

-- ---- what is known of a request
pub data Standing : Type 0 where
  -- this was answered to it, and it is the last that was answered to its client
  Answered : (reply : Reply) → Standing
  -- it waits
  Waits : Standing
  -- a later request of its client was answered, or waits
  Late : Standing
  -- it is new, and as many requests wait as may
  Full : Standing
  New : Standing

abbrev pub is_same : Request → Request → Bool
is_same r waiting = (waiting.call.client == r.call.client) && (waiting.number == r.number)

abbrev pub is_later : Request → Request → Bool
is_later r waiting = (waiting.call.client == r.call.client) && nat_lt r.number waiting.number

abbrev pub if_room : ℕ → Standing
if_room waiting = cond (nat_lt waiting most_waiting) New Full

abbrev pub among : List Request → Request → Standing
among queue r = cond (list_any (is_same r) queue) Waits (cond (list_any (is_later r) queue) Late (if_room (length queue)))

abbrev pub after_last : List Request → Request → Option Reply → Standing
after_last queue r None = among queue r
after_last queue r (Some last) = cond (r.number == last.number) (Answered last) (cond (nat_lt r.number last.number) Late (among queue r))

abbrev pub standing : DeskValue → Request → Standing
standing d r = after_last d.queue r (slice_index_or d.answered r.call.client None)

-- ---- what is done with it
-- the caller is given this again
pub record GivesAgain (r : Request) (reply : Reply) (before after : List Output) : Type 0 where
  pub answer : Answer
  pub same : plain_reply answer ≡ reply
  pub after_is : after ≡ before ++ o.Again r.caller answer ∷ []

abbrev pub Replies : Standing → Request → DeskValue → DeskValue → List Output → List Output → Type 0
Replies (Answered reply) r old new before after = (new ≡ old) × GivesAgain r reply before after
Replies Waits r old new before after = (new ≡ old) × (after ≡ before)
Replies Late r old new before after = (new ≡ old) × (after ≡ before ++ o.Refusal r.caller r.number why.Late ∷ [])
Replies Full r old new before after = (new ≡ old) × (after ≡ before ++ o.Refusal r.caller r.number why.Full ∷ [])
Replies New r old new before after = IsMove (r ∷ []) [] old new before after

-- the requests that are taken on
abbrev pub taken_on : Standing → Request → List Request
taken_on (Answered reply) r = []
taken_on Waits r = []
taken_on Late r = []
taken_on Full r = []
taken_on New r = r ∷ []
