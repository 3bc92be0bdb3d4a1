use Rattle.std.proofs.Common.{◌≡◌, drop}
use Rattle.clap.specs.Words.{app_of}
use Rattle.homeo_words.specs.inner.App.{with_words}
use Rattle.homeo_words.specs.inner.Said.{texts}
use Rattle.homeo_words.proofs.line.with_words.Given as goal

abbrev pub invariant-loop-word : goal.invariant-loop-word
invariant-loop-word l = with_words (app_of l.line) (texts (drop l.word-index l.words)) ≡ with_words (app_of l.initial.line) (texts l.words)
