-- Each kind of command, and one more of them.
use Rattle.std.proofs.Common.{rules, IfOk, Some, option_map, sym, ap, ◌∙◌, subst, arith, refl}
use Rattle.homeo_syntax.specs.declared.low.SplitName.TheVariants as split
use Rattle.homeo_syntax.specs.Low.{Write, Print, Seq}
use Rattle.homeo_syntax.specs.LowView.{plain_lcommand, plain_lexpr, low_commands}
use Rattle.homeo_syntax.proofs.LowViews.{low_command_views}
use Rattle.homeo_certificate.specs.Key.{definitions}
use Rattle.homeo_certificate.specs.Parse.{seen, parse_command, Gives}
use Rattle.homeo_cert_reader.proofs.ParseSteps.{without_nodes, without_levels, first_of, other_command, none_so_far, one_so_far, one_fails, all_read, given_some, given_none}
use Rattle.homeo_cert_reader.proofs.parsing_commands.+commands.Goals as goal

pub command-returns-then-levels-eq0 : goal.command-returns-then-levels-eq0
unfolding definitions
command-returns-then-levels-eq0 t c = without_levels parse_command c.args.levels c.args.nodes.now refl (omega arith)

pub command-returns-in_default : goal.command-returns-in_default
unfolding definitions
command-returns-in_default t c = without_nodes parse_command refl (λ m. refl) c.args.levels c.args.nodes.now (grind arith)

pub command-returns-in-Skip : goal.command-returns-in-Skip
unfolding definitions
command-returns-in-Skip t c =
    first_of parse_command c.args.levels _ _ c.args.nodes.now c.next.new.self (omega arith) c.in-Some.ensures c.in-Skip.is
    ∙ ap (λ e. Some (e, c.next.new.self)) (sym (search (rules, low_command_views)))

pub command-returns-in_default-node : goal.command-returns-in_default-node
command-returns-in_default-node t c =
    let d = c.in_default-node in
    other_command c.args.levels c.in-Some.node c.args.nodes.now c.next.new.self c.in-Some.ensures d.not-Skip d.not-Assign d.not-Write d.not-Print d.not-Seq d.not-If

pub commands-loop-init : goal.commands-loop-init
commands-loop-init t c = none_so_far (parse_command c.args.levels) plain_lcommand c.args.count c.args.nodes.now _ (ap (λ l. l.items) c.in_ok-commands.ensures)

pub commands-returns-in-None : goal.commands-returns-in-None
commands-returns-in-None t c =
    one_fails (parse_command c.args.levels) plain_lcommand c.args.count c.args.nodes.now c.loop.counter c.loop.commands.items c.loop.nodes c.loop.invariant c.loop-test.true
    (given_none _ plain_lcommand c.in_ok-c.field-0 c.command.new.nodes c.in-None.is c.in_ok-c.ensures)

pub commands-loop-preserved : goal.commands-loop-preserved
commands-loop-preserved t c =
    one_so_far (parse_command c.args.levels) plain_lcommand c.args.count c.args.nodes.now c.loop.counter c.loop.commands.items c.loop.nodes c.loop.invariant c.loop-test.true c.in-Some.c c.command.new.nodes _
    (given_some _ plain_lcommand c.in_ok-c.field-0 c.in-Some.c c.command.new.nodes c.in-Some.is c.in_ok-c.ensures) (ap (λ l. l.items) c.in_ok-push-in-Some.ensures.ok)

pub commands-returns : goal.commands-returns
commands-returns t c = all_read (parse_command c.args.levels) plain_lcommand c.args.count c.args.nodes.now c.loop.counter c.loop.commands.items c.loop.nodes c.loop.invariant c.loop-test.false

pub command-returns-in-Assign : goal.command-returns-in-Assign
unfolding definitions
command-returns-in-Assign t c =
    subst (λ p. IfOk c.assignment.result (λ o. Gives p (option_map plain_lcommand o) c.assignment.new.nodes))
    (sym (first_of parse_command c.args.levels _ _ c.args.nodes.now c.next.new.self (omega arith) c.in-Some.ensures c.in-Assign.is)) c.assignment.ensures

pub command-returns-in-Some-2 : goal.command-returns-in-Some-2
unfolding definitions
command-returns-in-Some-2 t c =
    let p = c.expression.new.nodes in
    let got = given_some _ plain_lexpr c.in_ok-value-in-Write.field-0 c.in-Some-2.value p c.in-Some-2.is c.in_ok-value-in-Write.ensures in
    first_of parse_command c.args.levels _ _ c.args.nodes.now c.next.new.self (omega arith) c.in-Some.ensures c.in-Write.is
    ∙ ap (seen (Write (split.Delta c.in-Write.object c.in-Write.site))) got ∙ ap (λ e. Some (e, p)) (sym (search (rules, low_command_views)))

pub command-returns-in-None : goal.command-returns-in-None
unfolding definitions
command-returns-in-None t c =
    let got = given_none _ plain_lexpr c.in_ok-value-in-Write.field-0 c.expression.new.nodes c.in-None.is c.in_ok-value-in-Write.ensures in
    first_of parse_command c.args.levels _ _ c.args.nodes.now c.next.new.self (omega arith) c.in-Some.ensures c.in-Write.is
    ∙ ap (seen (Write (split.Delta c.in-Write.object c.in-Write.site))) got

pub command-returns-in-Some-3 : goal.command-returns-in-Some-3
unfolding definitions
command-returns-in-Some-3 t c =
    let p = c.expression-in-Print.new.nodes in
    let got = given_some _ plain_lexpr c.in_ok-value-in-Print.field-0 c.in-Some-3.value p c.in-Some-3.is c.in_ok-value-in-Print.ensures in
    first_of parse_command c.args.levels _ _ c.args.nodes.now c.next.new.self (omega arith) c.in-Some.ensures c.in-Print.is
    ∙ ap (seen Print) got ∙ ap (λ e. Some (e, p)) (sym (search (rules, low_command_views)))

pub command-returns-in-None-2 : goal.command-returns-in-None-2
unfolding definitions
command-returns-in-None-2 t c =
    let got = given_none _ plain_lexpr c.in_ok-value-in-Print.field-0 c.expression-in-Print.new.nodes c.in-None-2.is c.in_ok-value-in-Print.ensures in
    first_of parse_command c.args.levels _ _ c.args.nodes.now c.next.new.self (omega arith) c.in-Some.ensures c.in-Print.is
    ∙ ap (seen Print) got

pub command-returns-in-Some-4 : goal.command-returns-in-Some-4
unfolding definitions
command-returns-in-Some-4 t c =
    let p = c.commands.new.nodes in
    let got = given_some _ _ c.in_ok-commands-in-Seq.field-0 c.in-Some-4.commands p c.in-Some-4.is c.in_ok-commands-in-Seq.ensures in
    first_of parse_command c.args.levels _ _ c.args.nodes.now c.next.new.self (omega arith) c.in-Some.ensures c.in-Seq.is
    ∙ ap (seen (λ cs. Seq (low_commands cs))) got ∙ ap (λ e. Some (e, p)) (sym (search (rules, low_command_views)))

pub command-returns-in-None-3 : goal.command-returns-in-None-3
unfolding definitions
command-returns-in-None-3 t c =
    let got = given_none _ _ c.in_ok-commands-in-Seq.field-0 c.commands.new.nodes c.in-None-3.is c.in_ok-commands-in-Seq.ensures in
    first_of parse_command c.args.levels _ _ c.args.nodes.now c.next.new.self (omega arith) c.in-Some.ensures c.in-Seq.is
    ∙ ap (seen (λ cs. Seq (low_commands cs))) got

pub command-returns-in-If : goal.command-returns-in-If
unfolding definitions
command-returns-in-If t c =
    subst (λ p. IfOk c.choice.result (λ o. Gives p (option_map plain_lcommand o) c.choice.new.nodes))
    (sym (first_of parse_command c.args.levels _ _ c.args.nodes.now c.next.new.self (omega arith) c.in-Some.ensures c.in-If.is)) c.choice.ensures
