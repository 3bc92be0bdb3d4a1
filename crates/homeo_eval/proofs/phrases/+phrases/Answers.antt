use Rattle.std.proofs.Common.{rules, ◌≡◌, ◌+◌, ◌+ℤ◌, ◌*ℤ◌, ℤ, pos, true, false, cond, ◌&&◌, map, w64, to_z, refl, sym, ap, ◌∙◌, subst}
use Rattle.homeo_syntax.specs.Source as source
use Rattle.homeo_syntax.specs.SourceView.{tests, plain_expr, plain_test, plain_cond}
use Rattle.homeo_syntax.specs.declared.phrase.Expr.{the_lemmas}
use Rattle.homeo_syntax.proofs.SourceViews.{plain_Total, plain_conjunction}
use Rattle.homeo_meaning.specs.Key.{definitions}
use Rattle.homeo_meaning.specs.Acceptance.{weight_limit}
use Rattle.homeo_meaning.specs.Context.{bind}
use Rattle.homeo_meaning.specs.Meaning.{is_used, added, value, holds}
use Rattle.homeo_meaning.specs.Small.{is_small}
use Rattle.homeo_eval.specs.inner.CanRun.{adding_fits, expr_fits, cond_fits}
use Rattle.homeo_context.specs.Contexts.{plain_context}
use Rattle.homeo_eval.specs.inner.States.{state_of}
use Rattle.homeo_eval.specs.inner.Terms.{term_of, counts, row_fits}
use Rattle.homeo_eval.proofs.InForce.{context_bound}
use Rattle.homeo_meaning.proofs.Numbers.{kept_is}
use Rattle.homeo_context.proofs.SlotLists.{slot_of, left, slot_is, left_all}
use Rattle.homeo_eval.proofs.SlotSteps.{add_step, add_stop, total_is, total_fits}
use Rattle.homeo_eval.proofs.PhraseSteps.{sums, products, step, step_next, stop, test_step}
use Rattle.homeo_eval.proofs.phrases.+phrases.Goals as goal
use Rattle.homeo_eval.proofs.phrases.+phrases.Goals.{total-then-is_used+then-all_pass, total-then-is_used+else-all_pass, total-else-is_used}

pub sum-value-requires : goal.sum-value-requires
sum-value-requires t c =
    (search (rules, the_lemmas), (step sums c.args.es.now c.loop-e.e-index c.e-item.result c.loop-e-test.true c.e-item.is c.loop-e.invariant.fits).first)

pub sum-plus-total-requires : goal.sum-plus-total-requires
sum-plus-total-requires t c =
    let k = step sums c.args.es.now c.loop-e.e-index c.e-item.result c.loop-e-test.true c.e-item.is c.loop-e.invariant.fits in
    let e = kept_is c.value.result _ (search rules) c.value.ensures in
    subst (λ v. is_small weight_limit (to_z w64 c.loop-e.total-bits +ℤ v) ≡ true) (sym e) k.small

pub sum-loop-e-preserved : goal.sum-loop-e-preserved
sum-loop-e-preserved t c =
    let k = step sums c.args.es.now c.loop-e.e-index c.e-item.result c.loop-e-test.true c.e-item.is c.loop-e.invariant.fits in
    let e = kept_is c.value.result _ (search rules) c.value.ensures in
    let n = kept_is c.plus-total.result _ (search rules) (c.plus-total.ensures ∙ ap (λ v. to_z w64 c.loop-e.total-bits +ℤ v) e) in
    let q = step_next sums k n in
    record { fits = q.0; left = q.1 ∙ c.loop-e.invariant.left }

pub sum-returns : goal.sum-returns
sum-returns t c = stop sums _ _ _ c.args.es.now c.loop-e.e-index c.loop-e-test.false ∙ c.loop-e.invariant.left

pub product-value-requires : goal.product-value-requires
product-value-requires t c =
    (search (rules, the_lemmas), (step products c.args.es.now c.loop-e.e-index c.e-item.result c.loop-e-test.true c.e-item.is c.loop-e.invariant.fits).first)

pub product-times-total-requires : goal.product-times-total-requires
product-times-total-requires t c =
    let k = step products c.args.es.now c.loop-e.e-index c.e-item.result c.loop-e-test.true c.e-item.is c.loop-e.invariant.fits in
    let e = kept_is c.value.result _ (search rules) c.value.ensures in
    subst (λ v. is_small weight_limit (to_z w64 c.loop-e.total-bits *ℤ v) ≡ true) (sym e) k.small

pub product-loop-e-preserved : goal.product-loop-e-preserved
product-loop-e-preserved t c =
    let k = step products c.args.es.now c.loop-e.e-index c.e-item.result c.loop-e-test.true c.e-item.is c.loop-e.invariant.fits in
    let e = kept_is c.value.result _ (search rules) c.value.ensures in
    let n = kept_is c.times-total.result _ (search rules) (c.times-total.ensures ∙ ap (λ v. to_z w64 c.loop-e.total-bits *ℤ v) e) in
    let q = step_next products k n in
    record { fits = q.0; left = q.1 ∙ c.loop-e.invariant.left }

pub product-returns : goal.product-returns
product-returns t c = stop products _ _ _ c.args.es.now c.loop-e.e-index c.loop-e-test.false ∙ c.loop-e.invariant.left

pub all_pass-passes-requires : goal.all_pass-passes-requires
all_pass-passes-requires t c =
    (search (rules, the_lemmas), (test_step c.args.ts.now c.loop-t.t-index c.t-item.result c.loop-t-test.true c.t-item.is c.loop-t.invariant.fits).first)

pub total-loop-number-init : goal.total-loop-number-init
total-loop-number-init t c =
    let x = plain_context c.args.context.now in
    let s = state_of c.args.state.now in
    let d = plain_cond c.args.test.now in
    record { fits = subst (λ l. adding_fits weight_limit (row_fits weight_limit x c.args.row d s) (counts x c.args.row d s) (term_of c.args.term s) l (pos 0) ≡ true) (sym (left_all c.args.slots.now)) c.requires.fits; left = refl }

pub total-all_pass-requires : goal.total-all_pass-requires
total-all_pass-requires t c =
    let x = plain_context c.args.context.now in
    let s = state_of c.args.state.now in
    let d = plain_cond c.args.test.now in
    let i = c.loop-number.number in
    let step = add_step weight_limit (row_fits weight_limit x c.args.row d s) (counts x c.args.row d s) (term_of c.args.term s) c.args.slots.now i _ c.loop-number-test.true c.loop-number.invariant.fits in
    let slot = slot_is c.args.slots.now i c.slot-slot.result c.slot-slot.ensures.number c.slot-slot.ensures.used c.slot-slot.ensures.fields in
    let inner = context_bound c.args.context.now c.with.result c.args.row c.slot-slot.result c.with.ensures.declared c.with.ensures.arguments c.with.ensures.rows ∙ ap (bind x c.args.row) slot in
    let test = ap (λ l. tests (map plain_test l)) c.as_slice.ensures ∙ sym (plain_conjunction c.args.test.now) in
    (search (rules, the_lemmas), (λ j. cond_fits weight_limit (inner j) (test j) s) ∙ step.tested)

pub total-plus-total-requires : goal.total-plus-total-requires
total-plus-total-requires t c =
    let x = plain_context c.args.context.now in
    let s = state_of c.args.state.now in
    let d = plain_cond c.args.test.now in
    let i = c.loop-number.number in
    let step = add_step weight_limit (row_fits weight_limit x c.args.row d s) (counts x c.args.row d s) (term_of c.args.term s) c.args.slots.now i _ c.loop-number-test.true c.loop-number.invariant.fits in
    let slot = slot_is c.args.slots.now i c.slot-slot.result c.slot-slot.ensures.number c.slot-slot.ensures.used c.slot-slot.ensures.fields in
    let term = kept_is c.term_at.result _ (search rules) (c.term_at.ensures ∙ ap (term_of c.args.term s) slot) in
    subst (λ v. is_small weight_limit (to_z w64 c.loop-number.total-bits +ℤ v) ≡ true) (sym term) step.small

pub total-loop-number-preserved : goal.total-loop-number-preserved
total-loop-number-preserved t c =
    let x = plain_context c.args.context.now in
    let s = state_of c.args.state.now in
    let d = plain_cond c.args.test.now in
    let i = c.loop-number.number in
    let n = to_z w64 c.loop-number.total-bits in
    let term : ℤ = term_of c.args.term s (slot_of c.args.slots.now i) in
    let step = add_step weight_limit (row_fits weight_limit x c.args.row d s) (counts x c.args.row d s) (term_of c.args.term s) c.args.slots.now i n c.loop-number-test.true c.loop-number.invariant.fits in
    let slot = slot_is c.args.slots.now i c.slot-slot.result c.slot-slot.ensures.number c.slot-slot.ensures.used c.slot-slot.ensures.fields in
    let used = c.is_used.ensures ∙ ap (is_used s) slot in
    let here = slot_of c.args.slots.now i in
    let total : to_z w64 c.if-is_used.total-bits ≡ cond (counts x c.args.row d s here) (n +ℤ term) n = elim c.if-is_used.branch [
      | total-then-is_used+then-all_pass w ↦ (
          let inner = context_bound c.args.context.now w.with.result c.args.row c.slot-slot.result w.with.ensures.declared w.with.ensures.arguments w.with.ensures.rows ∙ ap (bind x c.args.row) slot in
          let test = ap (λ l. tests (map plain_test l)) w.as_slice.ensures ∙ sym (plain_conjunction c.args.test.now) in
          let passed : holds (bind x c.args.row here) d s ≡ true = sym (w.all_pass.ensures ∙ (λ j. holds (inner j) (test j) s)) ∙ w.if-all_pass.true in
          let counted : counts x c.args.row d s here ≡ true = λ j. (sym used ∙ w.if-is_used.true) j && passed j in
          let added_term = kept_is w.term_at.result _ (search rules) (w.term_at.ensures ∙ ap (term_of c.args.term s) slot) in
          w.total-is ∙ kept_is w.plus-total.result _ (search rules) (w.plus-total.ensures ∙ ap (λ v. n +ℤ v) added_term) ∙ sym (ap (λ b. cond b (n +ℤ term) n) counted)
          )
      | total-then-is_used+else-all_pass w ↦ (
          let inner = context_bound c.args.context.now w.with.result c.args.row c.slot-slot.result w.with.ensures.declared w.with.ensures.arguments w.with.ensures.rows ∙ ap (bind x c.args.row) slot in
          let test = ap (λ l. tests (map plain_test l)) w.as_slice.ensures ∙ sym (plain_conjunction c.args.test.now) in
          let passed : holds (bind x c.args.row here) d s ≡ false = sym (w.all_pass.ensures ∙ (λ j. holds (inner j) (test j) s)) ∙ w.if-all_pass.false in
          let counted : counts x c.args.row d s here ≡ false = λ j. (sym used ∙ w.if-is_used.true) j && passed j in
          w.total-is ∙ sym (ap (λ b. cond b (n +ℤ term) n) counted)
          )
      | total-else-is_used w ↦ (
          let counted : counts x c.args.row d s here ≡ false = λ j. (sym used ∙ w.if-is_used.false) j && holds (bind x c.args.row here) d s in
          w.total-is ∙ sym (ap (λ b. cond b (n +ℤ term) n) counted)
          )
    ] in
    record {
      fits = subst (λ v. adding_fits weight_limit (row_fits weight_limit x c.args.row d s) (counts x c.args.row d s) (term_of c.args.term s) (left c.args.slots.now (i + 1)) v ≡ true) (sym total) step.rest;
      left = ap (added (counts x c.args.row d s) (term_of c.args.term s) (left c.args.slots.now (i + 1))) total ∙ step.same ∙ c.loop-number.invariant.left;
    }

pub total-returns : goal.total-returns
total-returns t c =
    let x = plain_context c.args.context.now in
    let s = state_of c.args.state.now in
    let d = plain_cond c.args.test.now in
    sym (add_stop (counts x c.args.row d s) (term_of c.args.term s) c.args.slots.now c.loop-number.number (to_z w64 c.loop-number.total-bits) c.loop-number-test.false) ∙ c.loop-number.invariant.left
    ∙ ap (λ l. added (counts x c.args.row d s) (term_of c.args.term s) l (pos 0)) (left_all c.args.slots.now)

pub value-total-requires-in-Total : goal.value-total-requires-in-Total
unfolding definitions
value-total-requires-in-Total t c =
    let seen = ap plain_expr c.in-Total.is ∙ plain_Total c.in-Total.row c.in-Total.field c.in-Total.relation c.in-Total.test ∙ sym (ap (λ t. source.Total c.in-Total.row c.in-Total.field c.in-Total.relation (plain_cond t)) c.deref-in-Total.ensures) in
    let fits = sym (ap (λ e. expr_fits weight_limit (plain_context c.args.context.now) e (state_of c.args.state.now)) seen) ∙ c.requires in
    (search (rules, the_lemmas), (c.relation-slots-in-Total.ensures.counted, total_fits weight_limit _ _ (state_of c.args.state.now) c.in-Total.field.name c.field-in-Total.result.place c.relation-slots-in-Total.result _ (pos 0) c.relation-slots-in-Total.ensures.slots (ap (λ f. f.place) c.field-in-Total.ensures) fits))

pub value-returns-in-Total : goal.value-returns-in-Total
unfolding definitions
value-returns-in-Total t c =
    let seen = ap plain_expr c.in-Total.is ∙ plain_Total c.in-Total.row c.in-Total.field c.in-Total.relation c.in-Total.test ∙ sym (ap (λ t. source.Total c.in-Total.row c.in-Total.field c.in-Total.relation (plain_cond t)) c.deref-in-Total.ensures) in
    let whole = ap (λ e. value (plain_context c.args.context.now) e (state_of c.args.state.now)) seen in
    kept_is c.total-in-Total.result _ (search rules) (c.total-in-Total.ensures ∙ total_is _ (state_of c.args.state.now) c.in-Total.field.name c.field-in-Total.result.place c.relation-slots-in-Total.result _ (pos 0) c.relation-slots-in-Total.ensures.slots (ap (λ f. f.place) c.field-in-Total.ensures) ∙ sym whole)
