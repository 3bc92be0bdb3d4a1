-- A run on copies, which begins at the state and is given back to it.
use Rattle.std.proofs.Common.{◌++◌, map, length, ap, ◌∙◌}
use Rattle.homeo_syntax.specs.LowView.{plain_lcommand}
use Rattle.homeo_meaning.specs.LowMeaning.{location_of, exec}
use Rattle.homeo_split.specs.Key.{definitions}
use Rattle.homeo_split.specs.CanExec.{run_limit, can_exec}
use Rattle.homeo_split.specs.States.{temps_of, state_with}
use Rattle.homeo_split.specs.Shape.{has_places}
use Rattle.homeo_split.proofs.CommandSteps.{left_state, left_prints}
use Rattle.homeo_split.proofs.Copies.{same_lengths, without_temporaries}
use Rattle.homeo_split.proofs.runs.eval_l.Goals as goal

pub run-requires-clause-places : goal.run-requires-clause-places
unfolding definitions
run-requires-clause-places c =
    let base = c.in_ok-copied.ensures ∙ c.as_slice.ensures in
    let deltas = c.in_ok-copied_all.ensures ∙ ap (map (λ d. d.items)) c.as_slice-2.ensures in
    let counts = same_lengths (λ v. v.items) (λ d. d.items) c.in_ok-copied_all.field-0.items c.args.database.now.deltas.items deltas in
    (λ i. has_places (record { base = length (base i); deltas = counts i }) (plain_lcommand c.args.c.now)) ∙ c.requires.places

pub run-requires-clause-runs : goal.run-requires-clause-runs
unfolding definitions
run-requires-clause-runs c =
    let base = c.in_ok-copied.ensures ∙ c.as_slice.ensures in
    let deltas = c.in_ok-copied_all.ensures ∙ ap (map (λ d. d.items)) c.as_slice-2.ensures in
    (λ i. can_exec run_limit (plain_lcommand c.args.c.now) (state_with (base i) (deltas i) (λ t. c.new.ensures t i))) ∙ c.requires.small

pub returns-clause-prints : goal.returns-clause-prints
unfolding definitions
returns-clause-prints c =
    let base = c.in_ok-copied.ensures ∙ c.as_slice.ensures in
    let deltas = c.in_ok-copied_all.ensures ∙ ap (map (λ d. d.items)) c.as_slice-2.ensures in
    left_prints _ _ _ _ c.in_ok-run.ensures.run
    ∙ (λ i. (c.new-prints.ensures i).items ++ (exec (plain_lcommand c.args.c.now) (state_with (base i) (deltas i) (λ t. c.new.ensures t i))).prints)

pub returns-clause-database : goal.returns-clause-database
unfolding definitions
returns-clause-database c x =
    let base = c.in_ok-copied.ensures ∙ c.as_slice.ensures in
    let deltas = c.in_ok-copied_all.ensures ∙ ap (map (λ d. d.items)) c.as_slice-2.ensures in
    let state = c.run.new.state in
    let ran = left_state _ _ _ _ c.in_ok-run.ensures.run in
    without_temporaries _ _ (temps_of state.temporaries) x
    ∙ (λ i. state_with (c.from_vec.ensures i).items (c.in_ok-deltas.ensures i) (temps_of state.temporaries) (location_of x))
    ∙ ap (λ s. s (location_of x)) ran
    ∙ (λ i. (exec (plain_lcommand c.args.c.now) (state_with (base i) (deltas i) (λ t. c.new.ensures t i))).state (location_of x))

pub returns-clause-shape : goal.returns-clause-shape
unfolding definitions
returns-clause-shape c =
    let base = c.in_ok-copied.ensures ∙ c.as_slice.ensures in
    let deltas = c.in_ok-copied_all.ensures ∙ ap (map (λ d. d.items)) c.as_slice-2.ensures in
    let before = same_lengths (λ v. v.items) (λ d. d.items) c.in_ok-copied_all.field-0.items c.args.database.now.deltas.items deltas in
    let after = same_lengths (λ d. d.items) (λ v. v.items) c.in_ok-deltas.deltas.items c.run.new.state.deltas.items c.in_ok-deltas.ensures in
    (λ i. record { base = length (c.from_vec.ensures i).items; deltas = after i })
    ∙ c.in_ok-run.ensures.leads
    ∙ (λ i. record { base = length (base i); deltas = before i })
