use Rattle.std.proofs.Common.{rules, ap₂, codes, ◌≡◌, ◌∙◌}
use Rattle.clap.specs.Words.{rule_of, with_rule}
use Rattle.homeo_words.specs.inner.App.{argument}
use Rattle.homeo_words.proofs.line.wire.Goals as goal

pub returns-clause-app : goal.returns-clause-app
returns-clause-app c =
    let number_is : rule_of c.required-number.result ≡ argument (codes "NUMBER") = search rules in
    c.in_ok-wire.ensures.shape (search rules) ∙ ap₂ with_rule c.new-2.ensures.app number_is
