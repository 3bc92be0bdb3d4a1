use Rattle.std.proofs.Common.{ap, sym, ◌+◌, ◌∙◌, drop}
use Rattle.clap.specs.Words.{App, app_of, with_subcommand}
use Rattle.homeo_words.specs.inner.App.{with_words}
use Rattle.homeo_words.specs.inner.Said.{texts}
use Rattle.homeo_words.proofs.Lines.{one_more, none_left}
use Rattle.homeo_words.proofs.line.with_words.Goals as goal

pub loop-word-preserved : goal.loop-word-preserved
loop-word-preserved c =
    let line_is =
    c.in_ok-line.ensures.shape c.new.ensures.local ∙ ap (λ (a : App). with_subcommand (app_of c.loop-word.line) a.top) c.new.ensures.app in
    ap (λ (a : App). with_words a (texts (drop (c.loop-word.word-index + 1) c.args.words.now))) line_is
    ∙ one_more c.args.words.now c.loop-word.word-index _ (app_of c.loop-word.line) c.loop-word-test.true
    ∙ c.loop-word.invariant

pub returns : goal.returns
returns c = sym (none_left c.args.words.now c.loop-word.word-index (app_of c.loop-word.line) c.loop-word-test.false) ∙ c.loop-word.invariant
