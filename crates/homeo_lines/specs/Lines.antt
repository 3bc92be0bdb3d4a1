-- What lines say, as plain data.
use Rattle.std.specs.Prelude.{ℕ, ℤ, List, Option}
use Rattle.homeo_meaning.specs.declared.call.CallId.{CallId}
use Rattle.homeo_nodes.specs.Nodes.{Packet, Past}
use Rattle.homeo_nodes.specs.Small.{Small}
use Rattle.homeo_desk.specs.declared.output.Path.{Path}
use Rattle.homeo_desk.specs.declared.output.Request.{Request}

-- ---- what both sides have
-- an answer to a request: its number, its call, and what the call printed and where it stands in the history
pub record Answer : Type 0 where
  pub number : ℕ
  pub call : CallId
  pub prints : List ℤ
  pub round : ℕ
  pub path : Path

-- all that a desk is: its node, how many calls that has made alone in its round, the requests that wait, and the last answer of each
-- client that has one
pub record State : Type 0 where
  pub node : Small
  pub made : ℕ
  pub queue : List Request
  pub answered : List Answer

-- ---- what is written
-- with the number of the message that is answered, where that has one
pub data Body : Type 0 where
  InitOk : (number : Option ℕ) → Body
  CallOk : (answer : Answer) → Body
  Error : (number : Option ℕ) → (code : ℕ) → (text : List ℕ) → Body
  Sent : (packet : Packet) → Body
  Left : (past : Past) → Body
  SnapshotOk : (number : Option ℕ) → (state : State) → Body
  -- the node, and how many requests wait
  StatusOk : (number : Option ℕ) → (node : Small) → (waiting : ℕ) → Body

-- ---- what is read
pub data Message : Type 0 where
  -- to be the node of this id among these, from this state on, where one is given
  Init : (node : List ℕ) → (nodes : List (List ℕ)) → (state : Option State) → Message
  Call : (call : CallId) → Message
  Came : (packet : Packet) → Message
  HasLeft : (past : Past) → Message
  Tick : Message
  Snapshot : Message
  Status : Message
  -- nothing that can be done: the code of what is wrong
  Wrong : (code : ℕ) → Message

-- from whom the line comes, and the number of its message, where it says so
pub record Line : Type 0 where
  pub from : Option (List ℕ)
  pub number : Option ℕ
  pub message : Message
