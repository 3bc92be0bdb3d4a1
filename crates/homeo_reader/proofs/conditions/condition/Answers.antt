use Rattle.std.proofs.Common.{List, map, ap, ◌∙◌}
use Rattle.homeo_syntax.specs.declared.phrase.Test.{Test}
use Rattle.homeo_syntax.specs.SourceView.{plain_test, tests}
use Rattle.homeo_syntax.proofs.SourceViews.{plain_conjunction_of}
use Rattle.homeo_reader.proofs.conditions.condition.Goals as goal

pub returns-clause-ok : goal.returns-clause-ok
returns-clause-ok c = plain_conjunction_of c.in_ok-tests.tests ∙ ap (λ (v : List Test). tests (map plain_test v)) c.in_ok-tests.ensures.ok
