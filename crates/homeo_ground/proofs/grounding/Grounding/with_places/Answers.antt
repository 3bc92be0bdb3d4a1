-- The calls that are found by their places are those of the workload.
use Rattle.std.proofs.Common.{◌∙◌, ap, map, sym}
use Rattle.homeo_ground.proofs.Whole.{their_calls, their_places}
use Rattle.homeo_ground.proofs.grounding.Grounding.with_places.Goals as goal

pub first_calls-requires : goal.first_calls-requires
first_calls-requires c =
    let workload = c.workload-workload in
    ap (map (λ row. row.items)) c.as_slice-2.ensures.value ∙ c.requires.places
    ∙ sym (their_places c.args.w.now c.as_slice.result.now (c.as_slice.ensures ∙ ap (λ w. w.clients.items) workload.ensures.value))

pub of_numbered-requires-clause-calls : goal.of_numbered-requires-clause-calls
of_numbered-requires-clause-calls c = c.in_ok-calls.ensures ∙ their_calls c.workload-workload.result.now c.as_slice.result.now c.as_slice.ensures
