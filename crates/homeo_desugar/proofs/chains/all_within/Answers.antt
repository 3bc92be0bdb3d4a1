-- The tests of one target more stand behind the others.
use Rattle.std.proofs.Common.{pos, get_or, map, ap, ◌∙◌}
use Rattle.homeo_syntax.specs.Key.{definitions as syntax_definitions}
use Rattle.homeo_syntax.specs.Low.{NoTest}
use Rattle.homeo_syntax.specs.LowView.{low_tests, plain_ltest}
use Rattle.homeo_syntax.proofs.LowViews.{low_conjunction_of}
use Rattle.homeo_meaning.specs.LForm.{all_within, within}
use Rattle.homeo_desugar.specs.inner.Key.{definitions}
use Rattle.homeo_desugar.specs.inner.Made.{plain_target, both_tests}
use Rattle.homeo_context.specs.Slots.{plain_spot}
use Rattle.homeo_desugar.specs.declared.making.Target as code
use Rattle.homeo_desugar.proofs.SlotChains.{tests_step, tests_end}
use Rattle.homeo_desugar.proofs.chains.all_within.Goals as goal

abbrev no_target : code.Target
no_target = record { field = record { place = 0; lo = pos 0; hi = pos 0 }; temp = 0 }

pub loop-target-init : goal.loop-target-init
unfolding definitions syntax_definitions
loop-target-init c =
    ap (λ l. both_tests (low_tests (map plain_ltest l.items)) (all_within (map plain_target c.args.targets.now))) c.new-tests.ensures

pub loop-target-preserved : goal.loop-target-preserved
loop-target-preserved c =
    let old = low_tests (map plain_ltest c.loop-target.tests.items) in
    let here = get_or c.args.targets.now c.loop-target.target-index no_target in
    tests_step c.args.targets.now c.loop-target.target-index no_target old _ _ c.loop-target-test.true (c.in_ok-push_within.ensures ∙ ap (λ e. both_tests old (within (plain_spot here.field) e NoTest)) c.fresh.ensures) c.loop-target.invariant

pub returns : goal.returns
returns c =
    low_conjunction_of c.loop-target.tests
    ∙ tests_end c.args.targets.now c.loop-target.target-index _ c.loop-target-test.false c.loop-target.invariant
