use Rattle.std.proofs.Common.{◌≡◌, true, map, drop, length}
use Rattle.homeo_syntax.specs.SourceView.{commands, plain_command, plain_cond}
use Rattle.homeo_meaning.specs.Acceptance.{weight_limit}
use Rattle.homeo_meaning.specs.Meaning.{after_prints, visit, does_all}
use Rattle.homeo_eval.specs.inner.CanRun.{visits_fit, can_run_all}
use Rattle.homeo_context.specs.Contexts.{plain_context}
use Rattle.homeo_eval.specs.inner.States.{state_of}
use Rattle.homeo_eval.specs.inner.Visits.{holds_at, cond_fits_at, does_at, can_run_at}
use Rattle.homeo_context.proofs.SlotLists.{left}
use Rattle.homeo_eval.proofs.commands.+runs.Given as goal

abbrev pub invariant-run_all-loop-c : goal.invariant-run_all-loop-c
invariant-run_all-loop-c l =
    let x = plain_context l.context in
    let rest = commands (map plain_command (drop l.c-index l.cs)) in
    record {
      places : length l.state.database.items ≡ length l.initial.state.database.items;
      can : can_run_all weight_limit x rest (state_of l.state) ≡ true;
      left : after_prints l.prints.items (does_all x rest (state_of l.state)) ≡ after_prints l.initial.prints.items (does_all x (commands (map plain_command l.cs)) (state_of l.initial.state));
    }

abbrev pub invariant-foreach-loop-number : goal.invariant-foreach-loop-number
invariant-foreach-loop-number l =
    let x = plain_context l.context in
    let c = plain_cond l.test in
    let cs = commands (map plain_command l.body.items) in
    record {
      places : length l.state.database.items ≡ length l.initial.state.database.items;
      fits : visits_fit (cond_fits_at weight_limit x l.row c) (can_run_at weight_limit x l.row cs) (holds_at x l.row c) (does_at x l.row cs) (left l.slots l.number) (state_of l.state) ≡ true;
      left : after_prints l.prints.items (visit (holds_at x l.row c) (does_at x l.row cs) (left l.slots l.number) (state_of l.state)) ≡ after_prints l.initial.prints.items (visit (holds_at x l.row c) (does_at x l.row cs) (left l.slots 0) (state_of l.initial.state));
    }
