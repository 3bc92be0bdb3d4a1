-- The run begins at the sums, and each delta is what it left less the base.
use Rattle.std.proofs.Common.{◌≡◌, ◌==◌, ◌⊎◌, ◌+ℤ◌, ◌++◌, FitsSigned, w64, sym, ap, subst, ◌∙◌}
use Rattle.std.specs.Int.{int_wrap}
use Rattle.std.specs.List.{list_any}
use Rattle.std.specs.List.Sorted.{IsStrictlySortedBy}
use Rattle.std.specs.Ordering.{nat_cmp}
use Rattle.std.proofs.lemmas.List.Filters.{dedup_is}
use Rattle.std.proofs.lemmas.List.Sorted.{list_any-IsPermutation}
use Rattle.std.proofs.lemmas.Map.Keys.{IsStrictlyIncreasing-dedup, sorted_from_strictly_increasing}
use Rattle.homeo_syntax.specs.LowView.{plain_lcommand}
use Rattle.homeo_meaning.specs.LowMeaning.{BaseAt, exec}
use Rattle.homeo_meaning.specs.Serial.{values_of}
use Rattle.homeo_split.specs.CanExec.{run_limit, can_exec}
use Rattle.homeo_split.proofs.CommandSteps.{left_state, left_prints}
use Rattle.homeo_local.specs.inner.Key.{definitions}
use Rattle.homeo_local.proofs.Owns.{begins, left_delta, kept}
use Rattle.homeo_local.proofs.step.local_step_in.Goals as goal

pub run-requires-clause-runs : goal.run-requires-clause-runs
unfolding definitions
run-requires-clause-runs c =
    let begun = begins c.args.base.now c.args.deltas.items _ c.temporaries.ensures c.requires.sums _ c.into_vec.ensures in
    ap (can_exec run_limit (plain_lcommand c.args.c.now)) begun ∙ c.requires.small

pub returns-clause-prints : goal.returns-clause-prints
unfolding definitions
returns-clause-prints c =
    let begun = begins c.args.base.now c.args.deltas.items _ c.temporaries.ensures c.requires.sums _ c.into_vec.ensures in
    left_prints _ _ _ _ c.in_ok-run.ensures.run
    ∙ (λ i. (c.new-prints.ensures i).items ++ (exec (plain_lcommand c.args.c.now) (begun i)).prints)

pub returns-clause-deltas : goal.returns-clause-deltas
unfolding definitions
returns-clause-deltas c n fits =
    let begun = begins c.args.base.now c.args.deltas.items _ c.temporaries.ensures c.requires.sums _ c.into_vec.ensures in
    let state = c.run.new.state in
    let ran = left_state _ _ _ _ c.in_ok-run.ensures.run in
    let is = ap (λ s. s (BaseAt n)) ran ∙ ap (λ s. (exec (plain_lcommand c.args.c.now) s).state (BaseAt n)) begun in
    let old = ap (λ l. values_of l n) c.into_vec.ensures in
    let stays = subst (λ e. (values_of state.deltas.items n ≡ e) ⊎ FitsSigned w64 (values_of state.deltas.items n)) old (c.in_ok-run.ensures.leads.fits n) in
    let base = ap (λ b. int_wrap w64 (values_of b.now n +ℤ values_of state.deltas.items n)) c.in_ok-run.ensures.leads.base in
    ap (λ l. values_of l.items n) c.from_vec.ensures
    ∙ left_delta (values_of c.args.base.now n) (values_of state.deltas.items n) _ (sym base ∙ is) (values_of c.args.deltas.items n) (c.requires.sums n) stays fits

pub returns-clause-written : goal.returns-clause-written
unfolding definitions
returns-clause-written c n none =
    let state = c.run.new.state in
    let of_dedup = ap (λ l. list_any (λ m. n == m) l) (sym (dedup_is _ _ _ c.dedup.ensures.filtered) ∙ sym (ap (λ l. l.items) c.from_vec-2.ensures)) ∙ none in
    let absent = list_any-IsPermutation (λ m. n == m) state.written.items c.sort_unstable.new.self.items c.sort_unstable.ensures.permutation ∙ kept n c.sort_unstable.new.self.items of_dedup in
    let stays = c.in_ok-run.ensures.leads.keeps n absent in
    ap (λ l. values_of l.items n) c.from_vec.ensures ∙ stays.1 ∙ ap (λ l. values_of l n) c.into_vec.ensures

pub returns-clause-rising : goal.returns-clause-rising
returns-clause-rising c =
    subst (IsStrictlySortedBy nat_cmp) (sym (ap (λ l. l.items) c.from_vec-2.ensures ∙ dedup_is _ _ _ c.dedup.ensures.filtered))
    (sorted_from_strictly_increasing _ (IsStrictlyIncreasing-dedup _ c.sort_unstable.ensures.sorted))
