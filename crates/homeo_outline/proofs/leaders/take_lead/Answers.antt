-- With less slack the clause takes the place.
use Rattle.std.proofs.Common.{◌≡◌, get_or, pos, int_lt, sym, ap, ◌∙◌}
use Rattle.homeo_outline.proofs.Leading.{read_alike, led_itself, led_instead, has_put, less_at_most}
use Rattle.homeo_outline.proofs.leaders.take_lead.Goals as goal

pub returns-then-has_less_slack-clause-stays : goal.returns-then-has_less_slack-clause-stays
returns-then-has_less_slack-clause-stays c = λ tss alike.
    let ss = c.args.slacks.now in
    let same : c.index-leader.result.now ≡ get_or c.args.leaders.now.items c.args.place 0 = c.index-leader.ensures ∙ read_alike c.args.leaders.now.items c.args.place _ 0 c.requires in
    led_instead tss ss c.args.leaders.now.items c.args.place c.args.number c.requires alike.first alike.second alike.terms
    (less_at_most _ _ (ap (λ l. int_lt (get_or ss c.args.number (pos 0)) (get_or ss l (pos 0))) (sym same) ∙ sym c.has_less_slack.ensures ∙ c.if-has_less_slack.true))

pub returns-then-has_less_slack-clause-led : goal.returns-then-has_less_slack-clause-led
returns-then-has_less_slack-clause-led c = λ tss alike.
    led_itself tss c.args.slacks.now _ c.args.number (has_put c.args.leaders.now.items c.args.place c.args.number c.requires) alike.second
