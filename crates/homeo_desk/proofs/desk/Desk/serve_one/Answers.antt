use Rattle.std.proofs.Common.{rules, ◌≡◌, ◌<◌, ◌∷◌, [], map, refl, sym, ap, subst, ◌∙◌}
use Rattle.std.specs.Prelude.{Some}
use Rattle.homeo_syntax.specs.SourceView.{plain_workload}
use Rattle.homeo_plan.specs.Planned.{sites_of}
use Rattle.homeo_history.specs.Answers.{local_answer}
use Rattle.homeo_history.specs.History.{Entry}
use Rattle.homeo_history.specs.HistoryView.{plain_answer}
use Rattle.homeo_nodes.specs.Key.{definitions as node_definitions}
use Rattle.homeo_nodes.specs.Nodes.{Served, served}
use Rattle.homeo_nodes.specs.Small.{grown}
use Rattle.homeo_nodes.specs.Told.{told}
use Rattle.homeo_live.specs.declared.packet.Step.TheVariants as step
use Rattle.homeo_live.specs.Key.{definitions}
use Rattle.homeo_live.specs.LiveView.{plain_packet, IsReaction}
use Rattle.homeo_desk.specs.Moves.{IsMove}
use Rattle.homeo_desk.specs.inner.Keeping.{value_of}
use Rattle.homeo_desk.proofs.Giving.{gives_nothing, tells_nothing}
use Rattle.homeo_desk.proofs.Moving.{came_at, then_free}
use Rattle.homeo_desk.proofs.Reacting.{Keeps, serves, nothing_served}
use Rattle.homeo_desk.proofs.Stepping.{first_told, still_kept, moved}
use Rattle.homeo_desk.proofs.desk.Desk.serve_one.Goals as goal

pub answer-requires : goal.answer-requires
unfolding definitions node_definitions
answer-requires c =
    let i = c.self.inside in
    let x = i.node.node in
    let w = plain_workload i.node.work in
    let sent = c.serve.new.packets.items in
    let new = c.serve.new.self.node in
    let kept = step.Kept c.in-Kept.call c.in-Kept.prints in
    let came : IsReaction (served w (grown x)) new [] sent kept =
    came_at (λ v y. served v (grown y)) i.node.work i.node.work x x (Some c.in_ok-call.field-0) kept new c.new-sent.result.items sent refl refl (search rules) (ap Some c.in-Kept.is) c.in_ok-call.ensures.reaction in
    let below : x.number < sites_of w = subst (λ k. k < sites_of w) c.number-site.ensures.number c.number-site.ensures.below in
    let keeps : Keeps w (grown x) (served w (grown x)) = serves w (grown x) below c.number-site.ensures.states c.self.invariant.first in
    let entry : Entry = record { call = c.in-Kept.call; prints = c.in-Kept.prints.items } in
    let made : plain_answer c.kept-made.result ≡ local_answer x.round x.number entry =
    c.kept-made.ensures ∙ ap (λ r. local_answer r c.number-site.result entry) c.round-round.ensures ∙ ap (λ k. local_answer x.round k entry) c.number-site.ensures.number in
    let told_is : told (grown x) (served w (grown x)).step ≡ plain_answer c.kept-made.result ∷ [] = ap (told (grown x)) (sym came.came_to) ∙ ap (λ a. a ∷ []) (sym made) in
    first_told i.node.work x new i.callers.places i.callers.queue.items i.callers.answered Served sent kept (plain_answer c.kept-made.result ∷ []) came keeps told_is c.self.invariant

pub invariant_of-self-in_err-answer-in-Kept : goal.invariant_of-self-in_err-answer-in-Kept
unfolding definitions node_definitions
invariant_of-self-in_err-answer-in-Kept c =
    let i = c.self.inside in
    let x = i.node.node in
    let w = plain_workload i.node.work in
    let sent = c.serve.new.packets.items in
    let new = c.serve.new.self.node in
    let kept = step.Kept c.in-Kept.call c.in-Kept.prints in
    let came : IsReaction (served w (grown x)) new [] sent kept =
    came_at (λ v y. served v (grown y)) i.node.work i.node.work x x (Some c.in_ok-call.field-0) kept new c.new-sent.result.items sent refl refl (search rules) (ap Some c.in-Kept.is) c.in_ok-call.ensures.reaction in
    let below : x.number < sites_of w = subst (λ k. k < sites_of w) c.number-site.ensures.number c.number-site.ensures.below in
    let keeps : Keeps w (grown x) (served w (grown x)) = serves w (grown x) below c.number-site.ensures.states c.self.invariant.first in
    let entry : Entry = record { call = c.in-Kept.call; prints = c.in-Kept.prints.items } in
    let made : plain_answer c.kept-made.result ≡ local_answer x.round x.number entry =
    c.kept-made.ensures ∙ ap (λ r. local_answer r c.number-site.result entry) c.round-round.ensures ∙ ap (λ k. local_answer x.round k entry) c.number-site.ensures.number in
    let told_is : told (grown x) (served w (grown x)).step ≡ plain_answer c.kept-made.result ∷ [] = ap (told (grown x)) (sym came.came_to) ∙ ap (λ a. a ∷ []) (sym made) in
    still_kept i.node.work x new i.callers.places i.callers.queue.items i.callers.answered Served sent kept (plain_answer c.kept-made.result ∷ []) came keeps told_is c.self.invariant c.serve.new.self.work c.answer.new.self.places c.answer.new.self.queue.items c.answer.new.self.answered c.serve.ensures.work c.number-site.ensures.calls c.answer.ensures.queue c.answer.ensures.last.keeps c.answer.ensures.round

pub invariant_of-self-in-Kept : goal.invariant_of-self-in-Kept
unfolding definitions node_definitions
invariant_of-self-in-Kept c =
    let i = c.self.inside in
    let x = i.node.node in
    let w = plain_workload i.node.work in
    let sent = c.serve.new.packets.items in
    let new = c.serve.new.self.node in
    let kept = step.Kept c.in-Kept.call c.in-Kept.prints in
    let came : IsReaction (served w (grown x)) new [] sent kept =
    came_at (λ v y. served v (grown y)) i.node.work i.node.work x x (Some c.in_ok-call.field-0) kept new c.new-sent.result.items sent refl refl (search rules) (ap Some c.in-Kept.is) c.in_ok-call.ensures.reaction in
    let below : x.number < sites_of w = subst (λ k. k < sites_of w) c.number-site.ensures.number c.number-site.ensures.below in
    let keeps : Keeps w (grown x) (served w (grown x)) = serves w (grown x) below c.number-site.ensures.states c.self.invariant.first in
    let entry : Entry = record { call = c.in-Kept.call; prints = c.in-Kept.prints.items } in
    let made : plain_answer c.kept-made.result ≡ local_answer x.round x.number entry =
    c.kept-made.ensures ∙ ap (λ r. local_answer r c.number-site.result entry) c.round-round.ensures ∙ ap (λ k. local_answer x.round k entry) c.number-site.ensures.number in
    let told_is : told (grown x) (served w (grown x)).step ≡ plain_answer c.kept-made.result ∷ [] = ap (told (grown x)) (sym came.came_to) ∙ ap (λ a. a ∷ []) (sym made) in
    still_kept i.node.work x new i.callers.places i.callers.queue.items i.callers.answered Served sent kept (plain_answer c.kept-made.result ∷ []) came keeps told_is c.self.invariant c.serve.new.self.work c.answer.new.self.places c.answer.new.self.queue.items c.answer.new.self.answered c.serve.ensures.work c.number-site.ensures.calls c.answer.ensures.queue c.answer.ensures.last.keeps c.answer.ensures.round

pub returns-in-Kept-clause-moves : goal.returns-in-Kept-clause-moves
unfolding definitions node_definitions
returns-in-Kept-clause-moves c =
    let i = c.self.inside in
    let x = i.node.node in
    let w = plain_workload i.node.work in
    let sent = c.serve.new.packets.items in
    let new = c.serve.new.self.node in
    let kept = step.Kept c.in-Kept.call c.in-Kept.prints in
    let came : IsReaction (served w (grown x)) new [] sent kept =
    came_at (λ v y. served v (grown y)) i.node.work i.node.work x x (Some c.in_ok-call.field-0) kept new c.new-sent.result.items sent refl refl (search rules) (ap Some c.in-Kept.is) c.in_ok-call.ensures.reaction in
    let below : x.number < sites_of w = subst (λ k. k < sites_of w) c.number-site.ensures.number c.number-site.ensures.below in
    let keeps : Keeps w (grown x) (served w (grown x)) = serves w (grown x) below c.number-site.ensures.states c.self.invariant.first in
    let entry : Entry = record { call = c.in-Kept.call; prints = c.in-Kept.prints.items } in
    let made : plain_answer c.kept-made.result ≡ local_answer x.round x.number entry =
    c.kept-made.ensures ∙ ap (λ r. local_answer r c.number-site.result entry) c.round-round.ensures ∙ ap (λ k. local_answer x.round k entry) c.number-site.ensures.number in
    let told_is : told (grown x) (served w (grown x)).step ≡ plain_answer c.kept-made.result ∷ [] = ap (told (grown x)) (sym came.came_to) ∙ ap (λ a. a ∷ []) (sym made) in
    subst (λ d. IsMove [] [] d (value_of c.serve.new.self.work c.serve.new.self.node c.answer.new.self.places c.answer.new.self.queue.items c.answer.new.self.answered) c.args.outputs.now.items c.answer.new.outputs.items) c.self.view_is
    (moved i.node.work x new i.callers.places i.callers.queue.items i.callers.answered Served sent kept (plain_answer c.kept-made.result ∷ []) came keeps told_is c.self.invariant c.serve.new.self.work c.answer.new.self.places c.answer.new.self.queue.items c.answer.new.self.answered c.serve.ensures.work [] _ _ _ tt (gives_nothing (map plain_packet sent) _) c.in_ok-answer-in-Kept.ensures.tells)

pub invariant_of-self-in-Wanted : goal.invariant_of-self-in-Wanted
unfolding definitions node_definitions
invariant_of-self-in-Wanted c =
    let i = c.self.inside in
    let x = i.node.node in
    let w = plain_workload i.node.work in
    let sent = c.serve.new.packets.items in
    let new = c.serve.new.self.node in
    let kept = step.Wanted c.in-Wanted.field-0 in
    let came : IsReaction (served w (grown x)) new [] sent kept =
    came_at (λ v y. served v (grown y)) i.node.work i.node.work x x (Some c.in_ok-call.field-0) kept new c.new-sent.result.items sent refl refl (search rules) (ap Some c.in-Wanted.is) c.in_ok-call.ensures.reaction in
    let below : x.number < sites_of w = subst (λ k. k < sites_of w) c.number-site.ensures.number c.number-site.ensures.below in
    let keeps : Keeps w (grown x) (served w (grown x)) = serves w (grown x) below c.number-site.ensures.states c.self.invariant.first in
    let told_is : told (grown x) (served w (grown x)).step ≡ [] = ap (told (grown x)) (sym came.came_to) in
    still_kept i.node.work x new i.callers.places i.callers.queue.items i.callers.answered Served sent kept [] came keeps told_is c.self.invariant c.serve.new.self.work i.callers.places i.callers.queue.items i.callers.answered c.serve.ensures.work c.number-site.ensures.calls refl (λ v site are all. are) (λ last le all. le)

pub returns-in-Wanted-clause-moves : goal.returns-in-Wanted-clause-moves
unfolding definitions node_definitions
returns-in-Wanted-clause-moves c =
    let i = c.self.inside in
    let x = i.node.node in
    let w = plain_workload i.node.work in
    let sent = c.serve.new.packets.items in
    let new = c.serve.new.self.node in
    let kept = step.Wanted c.in-Wanted.field-0 in
    let came : IsReaction (served w (grown x)) new [] sent kept =
    came_at (λ v y. served v (grown y)) i.node.work i.node.work x x (Some c.in_ok-call.field-0) kept new c.new-sent.result.items sent refl refl (search rules) (ap Some c.in-Wanted.is) c.in_ok-call.ensures.reaction in
    let below : x.number < sites_of w = subst (λ k. k < sites_of w) c.number-site.ensures.number c.number-site.ensures.below in
    let keeps : Keeps w (grown x) (served w (grown x)) = serves w (grown x) below c.number-site.ensures.states c.self.invariant.first in
    let told_is : told (grown x) (served w (grown x)).step ≡ [] = ap (told (grown x)) (sym came.came_to) in
    subst (λ d. IsMove [] [] d c.want.new.self c.args.outputs.now.items c.want.new.outputs.items) c.self.view_is
    (then_free [] [] _ _ _ _ _ _ (moved i.node.work x new i.callers.places i.callers.queue.items i.callers.answered Served sent kept [] came keeps told_is c.self.invariant c.serve.new.self.work i.callers.places i.callers.queue.items i.callers.answered c.serve.ensures.work [] _ _ _ tt (gives_nothing (map plain_packet sent) _) (tells_nothing i.callers.places i.callers.queue.items i.callers.answered _)) c.in_ok-want-in-Wanted.ensures.moves)

pub invariant_of-self-in_default : goal.invariant_of-self-in_default
unfolding definitions node_definitions
invariant_of-self-in_default c =
    let i = c.self.inside in
    let x = i.node.node in
    let w = plain_workload i.node.work in
    let sent = c.serve.new.packets.items in
    let new = c.serve.new.self.node in
    let kept = c.in_ok-call.field-0 in
    let came : IsReaction (served w (grown x)) new [] sent kept =
    came_at (λ v y. served v (grown y)) i.node.work i.node.work x x (Some c.in_ok-call.field-0) kept new c.new-sent.result.items sent refl refl (search rules) refl c.in_ok-call.ensures.reaction in
    let below : x.number < sites_of w = subst (λ k. k < sites_of w) c.number-site.ensures.number c.number-site.ensures.below in
    let keeps : Keeps w (grown x) (served w (grown x)) = serves w (grown x) below c.number-site.ensures.states c.self.invariant.first in
    let told_is : told (grown x) (served w (grown x)).step ≡ [] = nothing_served w (grown x) c.in_ok-call.field-0 c.in_default.not-Kept came.came_to in
    still_kept i.node.work x new i.callers.places i.callers.queue.items i.callers.answered Served sent kept [] came keeps told_is c.self.invariant c.serve.new.self.work i.callers.places i.callers.queue.items i.callers.answered c.serve.ensures.work c.number-site.ensures.calls refl (λ v site are all. are) (λ last le all. le)

pub returns-clause-moves : goal.returns-clause-moves
unfolding definitions node_definitions
returns-clause-moves c =
    let i = c.self.inside in
    let x = i.node.node in
    let w = plain_workload i.node.work in
    let sent = c.serve.new.packets.items in
    let new = c.serve.new.self.node in
    let kept = c.in_ok-call.field-0 in
    let came : IsReaction (served w (grown x)) new [] sent kept =
    came_at (λ v y. served v (grown y)) i.node.work i.node.work x x (Some c.in_ok-call.field-0) kept new c.new-sent.result.items sent refl refl (search rules) refl c.in_ok-call.ensures.reaction in
    let below : x.number < sites_of w = subst (λ k. k < sites_of w) c.number-site.ensures.number c.number-site.ensures.below in
    let keeps : Keeps w (grown x) (served w (grown x)) = serves w (grown x) below c.number-site.ensures.states c.self.invariant.first in
    let told_is : told (grown x) (served w (grown x)).step ≡ [] = nothing_served w (grown x) c.in_ok-call.field-0 c.in_default.not-Kept came.came_to in
    subst (λ d. IsMove [] [] d (value_of c.serve.new.self.work c.serve.new.self.node i.callers.places i.callers.queue.items i.callers.answered) c.args.outputs.now.items c.args.outputs.now.items) c.self.view_is
    (moved i.node.work x new i.callers.places i.callers.queue.items i.callers.answered Served sent kept [] came keeps told_is c.self.invariant c.serve.new.self.work i.callers.places i.callers.queue.items i.callers.answered c.serve.ensures.work [] _ _ _ tt (gives_nothing (map plain_packet sent) _) (tells_nothing i.callers.places i.callers.queue.items i.callers.answered _))
