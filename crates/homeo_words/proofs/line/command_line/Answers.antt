use Rattle.std.proofs.Common.{ap, ap₂, true, ◌≡◌, ◌∙◌}
use Rattle.clap.specs.Words.{App, app_of, with_subcommand}
use Rattle.clap.specs.Simple.{app_of_fields}
use Rattle.homeo_words.specs.inner.App.{empty, plain, with_words}
use Rattle.homeo_words.proofs.Lines.{plain_words}
use Rattle.homeo_words.proofs.line.command_line.Goals as goal

pub returns : goal.returns
returns c =
    let empty_is : app_of c.no_binary_name-empty.result ≡ empty =
    ap app_of_fields c.no_binary_name-empty.ensures
    ∙ ap (λ (a : App). record { top = record a.top { no_binary_name = true }; subs = a.subs }) c.new.ensures.app in
    let words_are = c.in_ok-plain.ensures ∙ ap (λ (a : App). with_words a plain) empty_is ∙ plain_words empty in
    let wire_is = c.in_ok-with_wire.ensures.shape c.in_ok-wire.ensures.local ∙ ap₂ with_subcommand words_are (ap (λ (a : App). a.top) c.in_ok-wire.ensures.app) in
    c.in_ok-homeo.ensures.shape c.in_ok-load.ensures.local ∙ ap₂ with_subcommand wire_is (ap (λ (a : App). a.top) c.in_ok-load.ensures.app)
