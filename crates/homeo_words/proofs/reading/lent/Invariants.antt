-- The words so far.
use Rattle.std.proofs.Common.{◌≡◌, take}
use Rattle.homeo_words.specs.inner.Said.{texts}
use Rattle.homeo_words.proofs.reading.lent.Given as goal

abbrev pub invariant-loop-word : goal.invariant-loop-word
invariant-loop-word l = texts l.lent.items ≡ take l.word-index l.words
