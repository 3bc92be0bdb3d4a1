-- Each kind of test, and one more of them.
use Rattle.std.proofs.Common.{rules, IfOk, Some, option_map, sym, ap, ◌∙◌, subst, arith, refl}
use Rattle.homeo_syntax.specs.Low.{Not}
use Rattle.homeo_syntax.specs.LowView.{plain_ltest, low_tests}
use Rattle.homeo_syntax.proofs.LowViews.{low_phrase_views}
use Rattle.homeo_certificate.specs.Key.{definitions}
use Rattle.homeo_certificate.specs.Parse.{seen, parse_test, Gives}
use Rattle.homeo_cert_reader.proofs.ParseSteps.{without_nodes, without_levels, first_of, other_test, none_so_far, one_so_far, one_fails, all_read, given_some, given_none}
use Rattle.homeo_cert_reader.proofs.parsing_tests.+tests.Goals as goal

pub test-returns-then-levels-eq0 : goal.test-returns-then-levels-eq0
unfolding definitions
test-returns-then-levels-eq0 t c = without_levels parse_test c.args.levels c.args.nodes.now refl (omega arith)

pub test-returns-in_default : goal.test-returns-in_default
unfolding definitions
test-returns-in_default t c = without_nodes parse_test refl (λ m. refl) c.args.levels c.args.nodes.now (grind arith)

pub test-returns-in-True : goal.test-returns-in-True
unfolding definitions
test-returns-in-True t c =
    first_of parse_test c.args.levels _ _ c.args.nodes.now c.next.new.self (omega arith) c.in-Some.ensures c.in-True.is
    ∙ ap (λ e. Some (e, c.next.new.self)) (sym (search (rules, low_phrase_views)))

pub test-returns-in-Some-2 : goal.test-returns-in-Some-2
unfolding definitions
test-returns-in-Some-2 t c =
    let p = c.tests.new.nodes in
    let got = given_some _ _ c.in_ok-tests-in-Not.field-0 c.in-Some-2.tests p c.in-Some-2.is c.in_ok-tests-in-Not.ensures in
    first_of parse_test c.args.levels _ _ c.args.nodes.now c.next.new.self (omega arith) c.in-Some.ensures c.in-Not.is
    ∙ ap (seen (λ ts. Not (low_tests ts))) got ∙ ap (λ e. Some (e, p)) (sym (search (rules, low_phrase_views)))

pub test-returns-in-None : goal.test-returns-in-None
unfolding definitions
test-returns-in-None t c =
    let got = given_none _ _ c.in_ok-tests-in-Not.field-0 c.tests.new.nodes c.in-None.is c.in_ok-tests-in-Not.ensures in
    first_of parse_test c.args.levels _ _ c.args.nodes.now c.next.new.self (omega arith) c.in-Some.ensures c.in-Not.is
    ∙ ap (seen (λ ts. Not (low_tests ts))) got

pub test-returns-in_default-node : goal.test-returns-in_default-node
test-returns-in_default-node t c =
    let d = c.in_default-node in
    other_test c.args.levels c.in-Some.node c.args.nodes.now c.next.new.self c.in-Some.ensures d.not-True d.not-Not d.not-Comparison

pub tests-loop-init : goal.tests-loop-init
tests-loop-init t c = none_so_far (parse_test c.args.levels) plain_ltest c.args.count c.args.nodes.now _ (ap (λ l. l.items) c.in_ok-tests.ensures)

pub tests-returns-in-None : goal.tests-returns-in-None
tests-returns-in-None t c =
    one_fails (parse_test c.args.levels) plain_ltest c.args.count c.args.nodes.now c.loop.counter c.loop.tests.items c.loop.nodes c.loop.invariant c.loop-test.true
    (given_none _ plain_ltest c.in_ok-t.field-0 c.test.new.nodes c.in-None.is c.in_ok-t.ensures)

pub tests-loop-preserved : goal.tests-loop-preserved
tests-loop-preserved t c =
    one_so_far (parse_test c.args.levels) plain_ltest c.args.count c.args.nodes.now c.loop.counter c.loop.tests.items c.loop.nodes c.loop.invariant c.loop-test.true c.in-Some.t c.test.new.nodes _
    (given_some _ plain_ltest c.in_ok-t.field-0 c.in-Some.t c.test.new.nodes c.in-Some.is c.in_ok-t.ensures) (ap (λ l. l.items) c.in_ok-push-in-Some.ensures.ok)

pub tests-returns : goal.tests-returns
tests-returns t c = all_read (parse_test c.args.levels) plain_ltest c.args.count c.args.nodes.now c.loop.counter c.loop.tests.items c.loop.nodes c.loop.invariant c.loop-test.false

pub test-returns-in-Comparison : goal.test-returns-in-Comparison
unfolding definitions
test-returns-in-Comparison t c =
    subst (λ p. IfOk c.comparison.result (λ o. Gives p (option_map plain_ltest o) c.comparison.new.nodes))
    (sym (first_of parse_test c.args.levels _ _ c.args.nodes.now c.next.new.self (omega arith) c.in-Some.ensures c.in-Comparison.is)) c.comparison.ensures
