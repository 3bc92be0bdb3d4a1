use Rattle.homeo_wire.specs.Key.{definitions}
use Rattle.std.proofs.Common.{sym, ap, subst, ◌∙◌}
use Rattle.std.specs.Prelude.{IfSome}
use Rattle.std.specs.Option.{option_to_list}
use Rattle.homeo_syntax.specs.SourceView.{plain_workload}
use Rattle.homeo_draws.specs.Draws.{next_state, drawn}
use Rattle.homeo_wire.specs.Drive.{chosen_event}
use Rattle.homeo_wire.specs.Nodes.{after}
use Rattle.homeo_wire.specs.WireView.{CanHappen}
use Rattle.homeo_wire.proofs.driver.turn.Goals as goal

pub event-requires : goal.event-requires
event-requires c =
    subst (λ o. IfSome o (CanHappen (plain_workload c.args.wire.now.work) c.args.wire.now.world)) c.in-Some.is c.chosen_event.ensures.can

pub returns-in_ok-event-in-Some-clause-world : goal.returns-in_ok-event-in-Some-clause-world
unfolding definitions
returns-in_ok-event-in-Some-clause-world c =
    let w = plain_workload c.args.wire.now.work in
    let x = c.args.wire.now.world in
    let q = c.draw-q.ensures.value ∙ ap (λ t. drawn (next_state t)) c.draw-p.ensures.state in
    let events = sym (ap option_to_list c.in-Some.is) ∙ c.chosen_event.ensures.chosen ∙ (λ k. chosen_event w x (c.draw-p.ensures.value k) (q k)) in
    c.in_ok-event-in-Some.ensures.world ∙ ap (λ es. after w es x) events

pub returns-in-None-clause-world : goal.returns-in-None-clause-world
unfolding definitions
returns-in-None-clause-world c =
    let w = plain_workload c.args.wire.now.work in
    let x = c.args.wire.now.world in
    let q = c.draw-q.ensures.value ∙ ap (λ t. drawn (next_state t)) c.draw-p.ensures.state in
    let events = sym (ap option_to_list c.in-None.is) ∙ c.chosen_event.ensures.chosen ∙ (λ k. chosen_event w x (c.draw-p.ensures.value k) (q k)) in
    ap (λ es. after w es x) events
