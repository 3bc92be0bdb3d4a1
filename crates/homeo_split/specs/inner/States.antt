-- The states and shapes that the lists of a run stand for.
use Rattle.std.specs.Prelude.{map, length}
use Rattle.homeo_meaning.specs.LowMeaning.{State}
use Rattle.homeo_split.specs.declared.state.State as code
use Rattle.homeo_split.specs.Key.{definitions}
use Rattle.homeo_split.specs.Shape.{Shape}
use Rattle.homeo_split.specs.States.{temps_of, state_with}

abbrev pub plain_state : code.State → State
unfolding definitions
plain_state s = state_with s.base.items (map (λ d. d.items) s.deltas.items) (temps_of s.temporaries)

abbrev pub state_shape : code.State → Shape
unfolding definitions
state_shape s = record { base = length s.base.items; deltas = map (λ d. length d.items) s.deltas.items }
