use Rattle.std.proofs.Common.{rules, arith, ◌≡◌, true, false, ◌&&◌, map, length, refl, sym, ap, subst, ◌∙◌}
use Rattle.homeo_syntax.specs.Source as source
use Rattle.homeo_syntax.specs.SourceView.{commands, plain_command, plain_cond, plain_expr}
use Rattle.homeo_syntax.specs.declared.command.Command.TheViews.{the_lemmas}
use Rattle.homeo_syntax.proofs.SourceViews.{command_views, plain_Foreach, plain_Delete, plain_Update}
use Rattle.homeo_meaning.specs.Key.{definitions}
use Rattle.homeo_meaning.specs.Acceptance.{weight_limit}
use Rattle.homeo_meaning.specs.Bounds.{all_bounds}
use Rattle.homeo_meaning.specs.Context.{bind, fields, slots}
use Rattle.homeo_meaning.specs.Meaning.{after_prints, is_used, holds, visit, does, does_all}
use Rattle.homeo_eval.specs.inner.CanRun.{cond_fits, visits_fit, can_run, can_run_all}
use Rattle.homeo_lform.specs.RowsFit.{RowsFit}
use Rattle.homeo_context.specs.Contexts.{plain_context}
use Rattle.homeo_eval.specs.inner.States.{state_of, run_of}
use Rattle.homeo_eval.specs.inner.Visits.{holds_at, cond_fits_at, does_at, can_run_at}
use Rattle.homeo_eval.proofs.CommandSteps.{after_quiet, can_Block, can_Foreach, can_first, run_step, run_stop, can_yes, can_no, run_Delete, run_Update}
use Rattle.homeo_eval.proofs.InForce.{context_bound}
use Rattle.homeo_lform.proofs.ObjectBounds.{SlotFits, all_at, slots_fit}
use Rattle.homeo_context.proofs.SlotLists.{slot_of, slot_is, left_all}
use Rattle.homeo_eval.proofs.SlotSteps.{here_of, visit_step, loud_step, loud_end, loud_stop, here_visited, here_passed, each_slot}
use Rattle.homeo_lform.proofs.Stays.{bound_fits}
use Rattle.homeo_eval.proofs.commands.+runs.Goals as goal
use Rattle.homeo_eval.proofs.commands.+runs.Goals.{foreach-then-is_visited+in_ok-run_all+else-branch, foreach-else-is_visited}

pub foreach-loop-number-init : goal.foreach-loop-number-init
foreach-loop-number-init t c =
    let x = plain_context c.args.context.now in
    let d = plain_cond c.args.test.now in
    let cs = commands (map plain_command c.args.body.now.items) in
    let s = state_of c.args.state.now in
    record {
      places = refl;
      fits = subst (λ l. visits_fit (cond_fits_at weight_limit x c.args.row d) (can_run_at weight_limit x c.args.row cs) (holds_at x c.args.row d) (does_at x c.args.row cs) l s ≡ true) (sym (left_all c.relation-slots.result ∙ c.relation-slots.ensures.slots)) c.requires.fits;
      left = refl;
    }

pub foreach-is_visited-requires : goal.foreach-is_visited-requires
foreach-is_visited-requires t c =
    let x = plain_context c.args.context.now in
    let r = c.relation-slots.result in
    let d = plain_cond c.args.test.now in
    let cs = commands (map plain_command c.args.body.now.items) in
    let i = c.loop-number.number in
    let s = state_of c.loop-number.state in
    let slot = slot_is r i c.slot-slot.result c.slot-slot.ensures.number c.slot-slot.ensures.used c.slot-slot.ensures.fields in
    let step = visit_step (cond_fits_at weight_limit x c.args.row d) (can_run_at weight_limit x c.args.row cs) (holds_at x c.args.row d) (does_at x c.args.row cs) r i s c.loop-number-test.true c.loop-number.invariant.fits in
    ap (λ z. cond_fits weight_limit (bind x c.args.row z) d s) slot ∙ step.tested

pub foreach-run_all-requires : goal.foreach-run_all-requires
foreach-run_all-requires t c =
    let x = plain_context c.args.context.now in
    let r = c.relation-slots.result in
    let d = plain_cond c.args.test.now in
    let cs = commands (map plain_command c.args.body.now.items) in
    let i = c.loop-number.number in
    let s = state_of c.loop-number.state in
    let slot = slot_is r i c.slot-slot.result c.slot-slot.ensures.number c.slot-slot.ensures.used c.slot-slot.ensures.fields in
    let step = visit_step (cond_fits_at weight_limit x c.args.row d) (can_run_at weight_limit x c.args.row cs) (holds_at x c.args.row d) (does_at x c.args.row cs) r i s c.loop-number-test.true c.loop-number.invariant.fits in
    let inner = context_bound c.args.context.now c.with.result c.args.row c.slot-slot.result c.with.ensures.declared c.with.ensures.arguments c.with.ensures.rows ∙ ap (bind x c.args.row) slot in
    let fit = each_slot (SlotFits (all_at x.schema) (fields x c.args.relation)) r (slots x c.args.relation) c.relation-slots.ensures.slots (slots_fit x c.args.relation) i c.loop-number-test.true in
    let rows = subst RowsFit (sym inner) (bound_fits x c.args.row (slot_of r i) (fields x c.args.relation) c.requires.serves.rows fit) in
    let places = c.loop-number.invariant.places ∙ c.requires.serves.places ∙ ap (λ n. length (all_bounds n.schema)) (sym c.with.ensures.declared) in
    (search (rules, the_lemmas), (record { places = places; rows = rows }, (λ j. can_run_all weight_limit (inner j) (commands (map plain_command (c.as_slice.ensures j))) s) ∙ step.fits))

pub foreach-loop-number-preserved : goal.foreach-loop-number-preserved
unfolding definitions
foreach-loop-number-preserved t c =
    let x = plain_context c.args.context.now in
    let r = c.relation-slots.result in
    let d = plain_cond c.args.test.now in
    let cs = commands (map plain_command c.args.body.now.items) in
    let i = c.loop-number.number in
    let s = state_of c.loop-number.state in
    let slot = slot_is r i c.slot-slot.result c.slot-slot.ensures.number c.slot-slot.ensures.used c.slot-slot.ensures.fields in
    let step = visit_step (cond_fits_at weight_limit x c.args.row d) (can_run_at weight_limit x c.args.row cs) (holds_at x c.args.row d) (does_at x c.args.row cs) r i s c.loop-number-test.true c.loop-number.invariant.fits in
    let visited = c.is_visited.ensures ∙ ap (λ z. is_used s z && holds (bind x c.args.row z) d s) slot in
    let after = state_of c.if-is_visited.state in
    let here = here_of (holds_at x c.args.row d) (does_at x c.args.row cs) (slot_of r i) s in
    let ran : run_of after c.if-is_visited.prints.items false ≡ after_prints c.loop-number.prints.items here = elim c.if-is_visited.branch [
      | foreach-then-is_visited+in_ok-run_all+else-branch w ↦ (
          let inner = context_bound c.args.context.now w.with.result c.args.row c.slot-slot.result w.with.ensures.declared w.with.ensures.arguments w.with.ensures.rows ∙ ap (bind x c.args.row) slot in
          (λ j. run_of (state_of (w.state-is j)) (w.prints-is j).items false)
          ∙ ap (run_of (state_of w.run_all.new.state) w.run_all.new.prints.items) (sym w.if-branch.false)
          ∙ w.in_ok-run_all.ensures.run
          ∙ (λ j. after_prints c.loop-number.prints.items (does_all (inner j) (commands (map plain_command (w.as_slice.ensures j))) s))
          ∙ ap (after_prints c.loop-number.prints.items) (sym (here_visited (holds_at x c.args.row d) (does_at x c.args.row cs) (slot_of r i) s c.is_visited.result visited w.if-is_visited.true))
          )
      | foreach-else-is_visited w ↦ (
          (λ j. run_of (state_of (w.state-is j)) (w.prints-is j).items false)
          ∙ after_quiet c.loop-number.prints.items s here (sym (here_passed (holds_at x c.args.row d) (does_at x c.args.row cs) (slot_of r i) s c.is_visited.result visited w.if-is_visited.false))
          )
    ] in
    let next = loud_step (cond_fits_at weight_limit x c.args.row d) (can_run_at weight_limit x c.args.row cs) (holds_at x c.args.row d) (does_at x c.args.row cs) r i s after c.loop-number.prints.items c.if-is_visited.prints.items step ran in
    record {
      places = elim c.if-is_visited.branch [
        | foreach-then-is_visited+in_ok-run_all+else-branch w ↦ ap (λ z. length z.database.items) w.state-is ∙ w.in_ok-run_all.ensures.places ∙ c.loop-number.invariant.places
        | foreach-else-is_visited w ↦ ap (λ z. length z.database.items) w.state-is ∙ c.loop-number.invariant.places
      ];
      fits = next.fits;
      left = next.same ∙ c.loop-number.invariant.left;
    }

pub foreach-returns-clause-run : goal.foreach-returns-clause-run
foreach-returns-clause-run t c =
    let x = plain_context c.args.context.now in
    let r = c.relation-slots.result in
    let d = plain_cond c.args.test.now in
    let cs = commands (map plain_command c.args.body.now.items) in
    loud_stop (holds_at x c.args.row d) (does_at x c.args.row cs) r c.loop-number.number (state_of c.loop-number.state) c.loop-number.prints.items c.loop-number-test.false
    ∙ c.loop-number.invariant.left
    ∙ ap (λ l. after_prints c.args.prints.now.items (visit (holds_at x c.args.row d) (does_at x c.args.row cs) l (state_of c.args.state.now))) (left_all r ∙ c.relation-slots.ensures.slots)

pub run-run-requires : goal.run-run-requires
run-run-requires t c =
    (search (rules, the_lemmas), (c.requires.serves, can_yes weight_limit (plain_context c.args.context.now) (state_of c.args.state.now) c.in-If.is c.requires.runs c.deref.ensures))

pub run-run-requires-else-holds : goal.run-run-requires-else-holds
run-run-requires-else-holds t c =
    (search (rules, the_lemmas), (c.requires.serves, can_no weight_limit (plain_context c.args.context.now) (state_of c.args.state.now) c.in-If.is c.requires.runs c.deref-else-holds.ensures))

pub run-run_all-requires : goal.run-run_all-requires
run-run_all-requires t c = (search (rules, the_lemmas), (c.requires.serves, grind (arith, command_views, can_Block)))

pub run-foreach-requires : goal.run-foreach-requires
run-foreach-requires t c =
    let x = plain_context c.args.context.now in
    let s = state_of c.args.state.now in
    let body = commands (map plain_command c.in-Foreach.body.items) in
    let whole = ap plain_command c.in-Foreach.is ∙ plain_Foreach c.in-Foreach.row c.in-Foreach.relation c.in-Foreach.test c.in-Foreach.body ∙ sym (ap (λ t. source.Foreach c.in-Foreach.row c.in-Foreach.relation (plain_cond t) body) c.deref-in-Foreach.ensures) in
    let fits = sym (ap (λ e. can_run weight_limit x e s) whole ∙ can_Foreach weight_limit x s c.in-Foreach.row c.in-Foreach.relation (plain_cond c.deref-in-Foreach.result.now) body) ∙ c.requires.runs in
    (search (rules, the_lemmas), (c.requires.serves, fits))

pub run-returns-in-Delete-clause-run : goal.run-returns-in-Delete-clause-run
run-returns-in-Delete-clause-run t c =
    let x = plain_context c.args.context.now in
    let s = state_of c.args.state.now in
    let whole = ap plain_command c.in-Delete.is ∙ plain_Delete c.in-Delete.row c.in-Delete.relation c.in-Delete.test in
    run_Delete x s _ c.args.prints.now.items c.in-Delete.row c.in-Delete.relation (plain_cond c.in-Delete.test) c.delete.ensures.run ∙ sym (ap (λ e. after_prints c.args.prints.now.items (does x e s)) whole)

pub run-returns-in-Update-clause-run : goal.run-returns-in-Update-clause-run
run-returns-in-Update-clause-run t c =
    let x = plain_context c.args.context.now in
    let s = state_of c.args.state.now in
    let whole = ap plain_command c.in-Update.is ∙ plain_Update c.in-Update.row c.in-Update.relation c.in-Update.test c.in-Update.field c.in-Update.e ∙ sym (λ j. source.Update c.in-Update.row c.in-Update.relation (plain_cond (c.deref-in-Update.ensures j)) c.in-Update.field (plain_expr (c.deref-in-Update-2.ensures j))) in
    run_Update x s _ c.args.prints.now.items c.in-Update.row c.in-Update.relation (plain_cond c.deref-in-Update.result.now) c.in-Update.field (plain_expr c.deref-in-Update-2.result.now) c.update.ensures.run ∙ sym (ap (λ e. after_prints c.args.prints.now.items (does x e s)) whole)

pub run_all-run-requires : goal.run_all-run-requires
run_all-run-requires t c =
    (search (rules, the_lemmas), (record { places = c.loop-c.invariant.places ∙ c.requires.serves.places; rows = c.requires.serves.rows }, can_first _ _ _ c.args.cs.now c.loop-c.c-index c.c-item.result c.loop-c-test.true c.c-item.is c.loop-c.invariant.can))

pub run_all-loop-c-preserved : goal.run_all-loop-c-preserved
run_all-loop-c-preserved t c =
    let x = plain_context c.args.context.now in
    let s = state_of c.loop-c.state in
    let u = state_of c.run.new.state in
    let step = run_step weight_limit x s u c.loop-c.prints.items c.run.new.prints.items c.args.cs.now c.loop-c.c-index c.c-item.result c.loop-c-test.true c.c-item.is c.loop-c.invariant.can c.in_ok-run.field-0 c.if-branch.false c.in_ok-run.ensures.run in
    record { places = c.in_ok-run.ensures.places ∙ c.loop-c.invariant.places; can = step.rest; left = step.same ∙ c.loop-c.invariant.left }

pub run_all-returns-then-branch-clause-run : goal.run_all-returns-then-branch-clause-run
run_all-returns-then-branch-clause-run t c =
    run_stop (plain_context c.args.context.now) (state_of c.loop-c.state) (state_of c.run.new.state) c.loop-c.prints.items c.run.new.prints.items c.args.cs.now c.loop-c.c-index c.c-item.result c.loop-c-test.true c.c-item.is c.in_ok-run.field-0 c.if-branch.true c.in_ok-run.ensures.run
    ∙ c.loop-c.invariant.left

pub foreach-returns-then-branch-clause-run : goal.foreach-returns-then-branch-clause-run
unfolding definitions
foreach-returns-then-branch-clause-run t c =
    let x = plain_context c.args.context.now in
    let r = c.relation-slots.result in
    let d = plain_cond c.args.test.now in
    let cs = commands (map plain_command c.args.body.now.items) in
    let i = c.loop-number.number in
    let s = state_of c.loop-number.state in
    let u = state_of c.run_all.new.state in
    let slot = slot_is r i c.slot-slot.result c.slot-slot.ensures.number c.slot-slot.ensures.used c.slot-slot.ensures.fields in
    let step = visit_step (cond_fits_at weight_limit x c.args.row d) (can_run_at weight_limit x c.args.row cs) (holds_at x c.args.row d) (does_at x c.args.row cs) r i s c.loop-number-test.true c.loop-number.invariant.fits in
    let visited = c.is_visited.ensures ∙ ap (λ z. is_used s z && holds (bind x c.args.row z) d s) slot in
    let here = here_of (holds_at x c.args.row d) (does_at x c.args.row cs) (slot_of r i) s in
    let inner = context_bound c.args.context.now c.with.result c.args.row c.slot-slot.result c.with.ensures.declared c.with.ensures.arguments c.with.ensures.rows ∙ ap (bind x c.args.row) slot in
    let ran : run_of u c.run_all.new.prints.items true ≡ after_prints c.loop-number.prints.items here =
    ap (run_of u c.run_all.new.prints.items) (sym c.if-branch.true)
    ∙ c.in_ok-run_all.ensures.run
    ∙ (λ j. after_prints c.loop-number.prints.items (does_all (inner j) (commands (map plain_command (c.as_slice.ensures j))) s))
    ∙ ap (after_prints c.loop-number.prints.items) (sym (here_visited (holds_at x c.args.row d) (does_at x c.args.row cs) (slot_of r i) s c.is_visited.result visited c.if-is_visited.true)) in
    loud_end (cond_fits_at weight_limit x c.args.row d) (can_run_at weight_limit x c.args.row cs) (holds_at x c.args.row d) (does_at x c.args.row cs) r i s u c.loop-number.prints.items c.run_all.new.prints.items step ran
    ∙ c.loop-number.invariant.left
    ∙ ap (λ l. after_prints c.args.prints.now.items (visit (holds_at x c.args.row d) (does_at x c.args.row cs) l (state_of c.args.state.now))) (left_all r ∙ c.relation-slots.ensures.slots)
