-- The tests begin with none.
use Rattle.std.proofs.Common.{map, ap, ◌∙◌}
use Rattle.homeo_syntax.specs.Key.{definitions as syntax_definitions}
use Rattle.homeo_syntax.specs.Low.{NoTest}
use Rattle.homeo_syntax.specs.LowView.{low_tests, plain_ltest, plain_lexpr}
use Rattle.homeo_syntax.proofs.LowViews.{low_conjunction_of}
use Rattle.homeo_meaning.specs.LForm.{within}
use Rattle.homeo_desugar.specs.inner.Key.{definitions}
use Rattle.homeo_desugar.specs.inner.Made.{both_tests}
use Rattle.homeo_context.specs.Slots.{plain_spot}
use Rattle.homeo_desugar.proofs.making.within.Goals as goal

pub returns : goal.returns
unfolding definitions syntax_definitions
returns c =
    low_conjunction_of c.push_within.new.tests
    ∙ c.in_ok-push_within.ensures
    ∙ ap (λ l. both_tests (low_tests (map plain_ltest l.items)) (within (plain_spot c.args.bounds) (plain_lexpr c.args.value.now) NoTest)) c.in_ok-tests.ensures
