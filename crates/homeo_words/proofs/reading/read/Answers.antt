use Rattle.std.proofs.Common.{◌≡◌, ◌∙◌, true, ap}
use Rattle.clap.specs.Words.{app_of, is_simple, subcommand_of, subcommand_rows_of, takes}
use Rattle.homeo_words.specs.inner.App.{homeo}
use Rattle.homeo_words.specs.inner.Said.{texts}
use Rattle.homeo_words.proofs.Found.{all_taken, words_taken}
use Rattle.homeo_words.proofs.Taken.{simple}
use Rattle.homeo_words.proofs.reading.read.Goals as goal

pub returns-in-Ok-clause-all : goal.returns-in-Ok-clause-all
returns-in-Ok-clause-all c = λ command said.
    let words = texts c.args.words.now in
    let app : app_of c.in_ok-line.line ≡ homeo = c.in_ok-line.ensures in
    let rows : subcommand_rows_of c.in-Ok.matches ≡ subcommand_of homeo words =
    (c.in-Ok.ensures.matches (ap is_simple app ∙ simple)).1 ∙ ap (λ a. subcommand_of a words) app in
    c.checked.ensures.all command (c.found_in.ensures words command said rows) said

pub returns-clause-all : goal.returns-clause-all
returns-clause-all c = λ command said.
    let words = texts c.args.words.now in
    let taken : takes homeo words ≡ true = words_taken words (all_taken words command said) in
    let memory = c.in-Err.ensures.passes (ap (λ app. takes app words) c.in_ok-line.ensures ∙ taken) in
    absurd (c.in_default.not-OutOfMemory (c.kind.ensures ∙ memory))
