use Rattle.std.proofs.Common.{rules, ◌≡◌, ℕ, ℤ, pos, map, length, refl, ap, sym, subst, ◌∙◌}
use Rattle.homeo_syntax.specs.SourceView.{commands, plain_command}
use Rattle.homeo_syntax.specs.Source.{Commands}
use Rattle.homeo_meaning.specs.Key.{definitions}
use Rattle.homeo_meaning.specs.Acceptance.{weight_limit}
use Rattle.homeo_meaning.specs.Bounds.{all_bounds, IsWithin}
use Rattle.homeo_eval.specs.inner.CanRun.{can_run_all}
use Rattle.homeo_meaning.specs.Meaning.{after_prints, does_all}
use Rattle.homeo_lform.specs.RowsFit.{RowsFit}
use Rattle.homeo_context.specs.Contexts.{call_context, plain_context}
use Rattle.homeo_eval.specs.inner.States.{state_of}
use Rattle.homeo_eval.proofs.InForce.{context_outside, call_rows_fit}
use Rattle.homeo_eval.proofs.Outcomes.{body_starts, body_ran, settles_on, settles_back}
use Rattle.homeo_eval.proofs.States.{state_with}
use Rattle.homeo_meaning.proofs.Within.{length_in}
use Rattle.homeo_meaning.specs.Serial.{start}
use Rattle.homeo_meaning.specs.Windowed.{item_at}
use Rattle.homeo_eval.proofs.runs.run_body.Goals as goal
use Rattle.homeo_eval.proofs.runs.run_body.Goals.{After-new-prints, then-not-ended, else-not-ended}

-- ---- before the run
abbrev body : After-new-prints → Commands
body e = commands (map plain_command e.args.body.now)

abbrev temps : After-new-prints → ℕ → ℤ
temps e n = item_at e.new.result n (pos 0)

no_temps : (e : After-new-prints) (n : ℕ) → temps e n ≡ pos 0
no_temps e n = e.new.ensures n (pos 0)

copied : (e : After-new-prints) → e.in_ok-copied.field-0.items ≡ e.args.base.now.items
copied e = e.in_ok-copied.ensures ∙ e.as_slice.ensures

many : (e : After-new-prints) → length e.in_ok-copied.field-0.items ≡ length (all_bounds e.args.declared.now.schema)
unfolding definitions
many e = ap length (copied e) ∙ length_in (all_bounds e.args.declared.now.schema) e.args.base.now.items e.requires.within

context_is : (e : After-new-prints) → plain_context e.new-context.result ≡ call_context e.args.declared.now e.args.arguments.now
context_is e =
    let len : e.len.result ≡ length e.in_ok-copied.field-0.items = search rules in
    context_outside e.new-context.result e.len.result e.args.declared.now e.args.arguments.now e.new-context.ensures.declared e.new-context.ensures.arguments e.new-context.ensures.rows (len ∙ many e)

pub run_all-requires-clause-serves : goal.run_all-requires-clause-serves
unfolding definitions
run_all-requires-clause-serves c =
    let e = (goal.at.run_all-requires-clause-serves c).After-new-prints in
    record {
      places = many e ∙ sym (ap (λ n. length (all_bounds n.schema)) c.new-context.ensures.declared);
      rows = subst RowsFit (sym (context_is e)) (call_rows_fit c.args.declared.now c.args.arguments.now);
    }

pub run_all-requires-clause-runs : goal.run_all-requires-clause-runs
unfolding definitions
run_all-requires-clause-runs c =
    let e = (goal.at.run_all-requires-clause-runs c).After-new-prints in
    ap (λ x. can_run_all weight_limit x (body e) (state_with e.in_ok-copied.field-0.items (temps e))) (context_is e)
    ∙ ap (can_run_all weight_limit (call_context e.args.declared.now e.args.arguments.now) (body e)) (sym (body_starts e.args.base.now.items _ _ (copied e) (no_temps e)))
    ∙ c.requires.runs

pub returns-clause-prints : goal.returns-clause-prints
unfolding definitions
returns-clause-prints c =
    let e = (goal.at.returns-clause-prints c).After-new-prints in
    let ran = c.in_ok-ended.ensures.run ∙ ap (λ x. after_prints e.new-prints.result.items (does_all x (body e) (state_with e.in_ok-copied.field-0.items (temps e)))) (context_is e) in
    ap (λ r. r.prints) (body_ran e.args.declared.now e.args.arguments.now (body e) e.args.base.now.items _ _ c.run_all.new.prints.items _ (state_of c.run_all.new.state) c.in_ok-ended.ended (copied e) (no_temps e) (ap (λ l. l.items) e.new-prints.ensures) ran)

pub returns-clause-database : goal.returns-clause-database
unfolding definitions
returns-clause-database c =
    let e = (goal.at.returns-clause-database c).After-new-prints in
    let base = e.args.base.now.items in
    let ran = c.in_ok-ended.ensures.run ∙ ap (λ x. after_prints e.new-prints.result.items (does_all x (body e) (state_with e.in_ok-copied.field-0.items (temps e)))) (context_is e) in
    let whole = body_ran e.args.declared.now e.args.arguments.now (body e) base _ _ c.run_all.new.prints.items _ (state_of c.run_all.new.state) c.in_ok-ended.ended (copied e) (no_temps e) (ap (λ l. l.items) e.new-prints.ensures) ran in
    let meant = does_all (call_context e.args.declared.now e.args.arguments.now) (body e) (start base) in
    elim c.if-not-ended.branch [
      | then-not-ended w ↦ ap (λ l. l.items) (w.base-is ∙ w.from_vec.ensures)
          ∙ settles_on meant (state_of c.run_all.new.state) c.run_all.new.prints.items c.in_ok-ended.ended base c.run_all.new.state.database.items whole w.if-not-ended.true (c.in_ok-ended.ensures.places ∙ ap length (copied e)) refl
      | else-not-ended w ↦
          settles_back meant (state_of c.run_all.new.state) c.run_all.new.prints.items c.in_ok-ended.ended base c.if-not-ended.base.items whole w.if-not-ended.false (ap (λ l. l.items) w.base-is)
    ]

pub returns-clause-within : goal.returns-clause-within
returns-clause-within c =
    subst (IsWithin c.args.declared.now.schema) (sym (returns-clause-database c)) c.requires.after
