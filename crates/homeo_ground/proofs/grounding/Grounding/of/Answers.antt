-- The numbered calls are those of the workload.
use Rattle.std.proofs.Common.{◌∙◌, ap, map}
use Rattle.homeo_syntax.specs.SourceView.{plain_client}
use Rattle.homeo_meaning.specs.CallPlaces.{places_among}
use Rattle.homeo_ground.proofs.Whole.{their_calls, their_places}
use Rattle.homeo_ground.proofs.grounding.Grounding.of.Goals as goal

pub of_numbered-requires-clause-calls : goal.of_numbered-requires-clause-calls
of_numbered-requires-clause-calls c = c.in_ok-numbered.ensures.calls ∙ their_calls c.workload-workload.result.now c.as_slice.result.now c.as_slice.ensures

pub of_numbered-requires-clause-places : goal.of_numbered-requires-clause-places
of_numbered-requires-clause-places c =
    c.in_ok-numbered.ensures.places ∙ ap (λ calls. places_among calls (map plain_client c.as_slice.result.now)) c.in_ok-numbered.ensures.calls
    ∙ their_places c.workload-workload.result.now c.as_slice.result.now c.as_slice.ensures
