use Rattle.std.proofs.Common.{rules, Some, sym, ap, ◌∙◌, arith, refl}
use Rattle.homeo_meaning.proofs.Numbers.{kept_is}
use Rattle.homeo_syntax.specs.Low.{Literal, Sum, Product, Neg}
use Rattle.homeo_syntax.specs.LowView.{plain_lexpr, low_exprs}
use Rattle.homeo_syntax.proofs.LowViews.{low_phrase_views}
use Rattle.homeo_certificate.specs.Key.{definitions}
use Rattle.homeo_certificate.specs.Parse.{seen, parse_expr}
use Rattle.homeo_cert_reader.proofs.ParseSteps.{without_nodes, without_levels, first_of, other_node, none_so_far, one_so_far, one_fails, all_read, given_some, given_none}
use Rattle.homeo_cert_reader.proofs.parsing_expressions.+expressions.Goals as goal

pub expression-returns-then-levels-eq0 : goal.expression-returns-then-levels-eq0
unfolding definitions
expression-returns-then-levels-eq0 t c = without_levels parse_expr c.args.levels c.args.nodes.now refl (omega arith)

pub expression-returns-in_default : goal.expression-returns-in_default
unfolding definitions
expression-returns-in_default t c = without_nodes parse_expr refl (λ m. refl) c.args.levels c.args.nodes.now (grind arith)

pub expression-returns-in-Literal : goal.expression-returns-in-Literal
unfolding definitions
expression-returns-in-Literal t c =
    let kept = kept_is c.in-Literal.n c.in-Literal.n (search rules) refl in
    first_of parse_expr c.args.levels _ _ c.args.nodes.now c.next.new.self (omega arith) c.in-Some.ensures c.in-Literal.is
    ∙ ap (λ e. Some (e, c.next.new.self)) (ap Literal (sym kept) ∙ sym (search (rules, low_phrase_views)))

pub expression-returns-in-Temp : goal.expression-returns-in-Temp
unfolding definitions
expression-returns-in-Temp t c =
    first_of parse_expr c.args.levels _ _ c.args.nodes.now c.next.new.self (omega arith) c.in-Some.ensures c.in-Temp.is
    ∙ ap (λ e. Some (e, c.next.new.self)) (sym (search (rules, low_phrase_views)))

pub expression-returns-in-Base : goal.expression-returns-in-Base
unfolding definitions
expression-returns-in-Base t c =
    first_of parse_expr c.args.levels _ _ c.args.nodes.now c.next.new.self (omega arith) c.in-Some.ensures c.in-Base.is
    ∙ ap (λ e. Some (e, c.next.new.self)) (sym (search (rules, low_phrase_views)))

pub expression-returns-in-Delta : goal.expression-returns-in-Delta
unfolding definitions
expression-returns-in-Delta t c =
    first_of parse_expr c.args.levels _ _ c.args.nodes.now c.next.new.self (omega arith) c.in-Some.ensures c.in-Delta.is
    ∙ ap (λ e. Some (e, c.next.new.self)) (sym (search (rules, low_phrase_views)))

pub expression-returns-in-Some-2 : goal.expression-returns-in-Some-2
unfolding definitions
expression-returns-in-Some-2 t c =
    let p = c.expressions.new.nodes in
    let got = given_some _ _ c.in_ok-es-in-Sum.field-0 c.in-Some-2.es p c.in-Some-2.is c.in_ok-es-in-Sum.ensures in
    first_of parse_expr c.args.levels _ _ c.args.nodes.now c.next.new.self (omega arith) c.in-Some.ensures c.in-Sum.is
    ∙ ap (seen (λ es. Sum (low_exprs es))) got ∙ ap (λ e. Some (e, p)) (sym (search (rules, low_phrase_views)))

pub expression-returns-in-None : goal.expression-returns-in-None
unfolding definitions
expression-returns-in-None t c =
    let got = given_none _ _ c.in_ok-es-in-Sum.field-0 c.expressions.new.nodes c.in-None.is c.in_ok-es-in-Sum.ensures in
    first_of parse_expr c.args.levels _ _ c.args.nodes.now c.next.new.self (omega arith) c.in-Some.ensures c.in-Sum.is
    ∙ ap (seen (λ es. Sum (low_exprs es))) got

pub expression-returns-in-Some-3 : goal.expression-returns-in-Some-3
unfolding definitions
expression-returns-in-Some-3 t c =
    let p = c.expressions-in-Product.new.nodes in
    let got = given_some _ _ c.in_ok-es-in-Product.field-0 c.in-Some-3.es p c.in-Some-3.is c.in_ok-es-in-Product.ensures in
    first_of parse_expr c.args.levels _ _ c.args.nodes.now c.next.new.self (omega arith) c.in-Some.ensures c.in-Product.is
    ∙ ap (seen (λ es. Product (low_exprs es))) got ∙ ap (λ e. Some (e, p)) (sym (search (rules, low_phrase_views)))

pub expression-returns-in-None-2 : goal.expression-returns-in-None-2
unfolding definitions
expression-returns-in-None-2 t c =
    let got = given_none _ _ c.in_ok-es-in-Product.field-0 c.expressions-in-Product.new.nodes c.in-None-2.is c.in_ok-es-in-Product.ensures in
    first_of parse_expr c.args.levels _ _ c.args.nodes.now c.next.new.self (omega arith) c.in-Some.ensures c.in-Product.is
    ∙ ap (seen (λ es. Product (low_exprs es))) got

pub expression-returns-in_ok-new-in-Some-4 : goal.expression-returns-in_ok-new-in-Some-4
unfolding definitions
expression-returns-in_ok-new-in-Some-4 t c =
    let p = c.expression.new.nodes in
    let got = given_some _ plain_lexpr c.in_ok-e-in-Neg.field-0 c.in-Some-4.e p c.in-Some-4.is c.in_ok-e-in-Neg.ensures in
    first_of parse_expr c.args.levels _ _ c.args.nodes.now c.next.new.self (omega arith) c.in-Some.ensures c.in-Neg.is
    ∙ ap (seen Neg) got ∙ ap (λ e. Some (Neg (plain_lexpr e), p)) (sym c.in_ok-new-in-Some-4.ensures.ok)
    ∙ ap (λ e. Some (e, p)) (sym (search (rules, low_phrase_views)))

pub expression-returns-in-None-3 : goal.expression-returns-in-None-3
unfolding definitions
expression-returns-in-None-3 t c =
    let got = given_none _ plain_lexpr c.in_ok-e-in-Neg.field-0 c.expression.new.nodes c.in-None-3.is c.in_ok-e-in-Neg.ensures in
    first_of parse_expr c.args.levels _ _ c.args.nodes.now c.next.new.self (omega arith) c.in-Some.ensures c.in-Neg.is ∙ ap (seen Neg) got

pub expression-returns-in_default-node : goal.expression-returns-in_default-node
expression-returns-in_default-node t c =
    let d = c.in_default-node in
    other_node c.args.levels c.in-Some.node c.args.nodes.now c.next.new.self c.in-Some.ensures d.not-Literal d.not-Temp d.not-Base d.not-Delta d.not-Sum d.not-Product d.not-Neg

pub expressions-loop-init : goal.expressions-loop-init
expressions-loop-init t c = none_so_far (parse_expr c.args.levels) plain_lexpr c.args.count c.args.nodes.now _ (ap (λ l. l.items) c.in_ok-es.ensures)

pub expressions-returns-in-None : goal.expressions-returns-in-None
expressions-returns-in-None t c =
    one_fails (parse_expr c.args.levels) plain_lexpr c.args.count c.args.nodes.now c.loop.counter c.loop.es.items c.loop.nodes c.loop.invariant c.loop-test.true
    (given_none _ plain_lexpr c.in_ok-e.field-0 c.expression.new.nodes c.in-None.is c.in_ok-e.ensures)

pub expressions-loop-preserved : goal.expressions-loop-preserved
expressions-loop-preserved t c =
    one_so_far (parse_expr c.args.levels) plain_lexpr c.args.count c.args.nodes.now c.loop.counter c.loop.es.items c.loop.nodes c.loop.invariant c.loop-test.true c.in-Some.e c.expression.new.nodes _
    (given_some _ plain_lexpr c.in_ok-e.field-0 c.in-Some.e c.expression.new.nodes c.in-Some.is c.in_ok-e.ensures) (ap (λ l. l.items) c.in_ok-push-in-Some.ensures.ok)

pub expressions-returns : goal.expressions-returns
expressions-returns t c = all_read (parse_expr c.args.levels) plain_lexpr c.args.count c.args.nodes.now c.loop.counter c.loop.es.items c.loop.nodes c.loop.invariant c.loop-test.false
