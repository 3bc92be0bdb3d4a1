use Rattle.std.proofs.Common.{◌++◌, ℕ, List, take}
use Rattle.homeo_session.specs.Streams.{IsAfter}
use Rattle.homeo_session.proofs.stream.Stream.feed.Given as goal

abbrev pub invariant-loop-byte : goal.invariant-loop-byte
invariant-loop-byte l = (bytes out : List ℕ) → IsAfter bytes out l.initial.self → IsAfter (bytes ++ take l.byte-index l.piece) (out ++ l.answers.items) l.self
