-- The first draws, and the load of one call with its summary, by computation. The values are from outside.
use Rattle.std.proofs.Common.{◌≡◌, [], ◌∷◌, codes, refl}
use Rattle.std.specs.Fmt.{digits}
use Rattle.homeo_print.specs.Key.{definitions as print_definitions}
use Rattle.homeo_report.specs.Key.{definitions as report_definitions}
use Rattle.homeo_load.specs.Key.{definitions}
use Rattle.homeo_draws.specs.Draws.{next_state, drawn}
use Rattle.homeo_load.specs.Additions.{additions}
use Rattle.homeo_load.specs.Output.{load_summary}

first_draw : drawn (next_state 1) ≡ 1817669548
first_draw = refl

second_draw : drawn (next_state (next_state 1)) ≡ 2187888307
second_draw = refl

one_addition : additions 1 1 ≡ record { object = 4; number = 8 } ∷ []
unfolding definitions
one_addition = refl

one_summary : load_summary 1 1 ≡ codes "calls 1\nprints 1\nc0 = 0\nc1 = 0\nc2 = 0\nc3 = 0\nc4 = 8\nc5 = 0\nc6 = 0\nc7 = 0\n"
unfolding digits print_definitions report_definitions definitions
one_summary = refl
