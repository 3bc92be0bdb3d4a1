-- The condition's tests.
use Rattle.std.proofs.Common.{map, sym, ap, ◌∙◌}
use Rattle.std.proofs.lemmas.Result.{IfOk-weaker}
use Rattle.homeo_lemmas.proofs.Lists.{take_whole}
use Rattle.homeo_syntax.specs.LowView.{low_tests, plain_ltest}
use Rattle.homeo_syntax.proofs.LowViews.{low_conjunction}
use Rattle.homeo_table.specs.inner.Makings.{completed}
use Rattle.homeo_table.specs.inner.Partings.{commands_of}
use Rattle.homeo_table.proofs.Makings.{row-tests, begins-append}
use Rattle.homeo_table.proofs.making.Making.where_holds.Goals as goal

pub returns-clause-row : goal.returns-clause-row
unfolding completed
returns-clause-row c =
    IfOk-weaker c.push_tests.result _ _
    (λ r h. row-tests _ _ (map plain_ltest c.as_slice.result.now) _ _ _ h
    (low_conjunction c.args.test.now ∙ sym (ap (λ ts. low_tests (map plain_ltest ts)) c.as_slice.ensures))) c.push_tests.ensures

pub returns-clause-begins : goal.returns-clause-begins
returns-clause-begins c =
    IfOk-weaker c.push_tests.result _ _
    (λ r h. record { tests = begins-append _ _ _ h; commands = take_whole (commands_of c.args.self.now) }) c.push_tests.ensures
