-- Each phrase is lifted as the definition says, part by part.
use Rattle.std.proofs.Common.{◌∷◌, [], ◌++◌, map, w64, pos, None, Some, rules, refl, sym, ap, ◌∙◌, subst, arith}
use Rattle.std.proofs.lemmas.Int.{to_z-of_z}
use Rattle.std.proofs.lemmas.Result.{IfOk-weaker}
use Rattle.homeo_syntax.specs.Key.{definitions as syntax_definitions}
use Rattle.homeo_syntax.specs.Source as s
use Rattle.homeo_syntax.specs.Low as L
use Rattle.homeo_syntax.specs.SourceView.{exprs, tests, plain_expr, plain_test, plain_cond}
use Rattle.homeo_syntax.specs.LowView.{low_exprs, low_tests, plain_lexpr, plain_ltest, plain_lcond, plain_lcommand}
use Rattle.homeo_syntax.specs.declared.low.Temp.TheVariants as temp
use Rattle.homeo_syntax.specs.declared.phrase.Expr.{the_lemmas}
use Rattle.homeo_syntax.proofs.SourceViews.{plain_Literal, plain_Name, plain_Read, plain_Sum, plain_Product, plain_Neg, plain_Field, plain_Row, plain_Count, plain_Total, plain_True, plain_Not, plain_Compare, plain_conjunction}
use Rattle.homeo_syntax.proofs.LowViews.{low_Literal, low_Sum, low_Product, low_Neg, low_True, low_Not, low_Compare, low_conjunction_of, low_Assign, low_Skip}
use Rattle.homeo_meaning.specs.Key.{definitions as meaning_definitions}
use Rattle.homeo_meaning.specs.Schema.{declared_range}
use Rattle.homeo_meaning.specs.Context.{Spot, spot, field_cell, bind, slots, fields}
use Rattle.homeo_meaning.specs.LForm.{read, equal, plain, lift, lift_all, lift_cond}
use Rattle.homeo_desugar.specs.inner.Key.{definitions}
use Rattle.homeo_desugar.specs.inner.Made.{both_tests}
use Rattle.homeo_context.specs.Slots.{plain_slot, slots_of}
use Rattle.homeo_context.specs.Contexts.{plain_context}
use Rattle.homeo_desugar.specs.inner.Numbers.{IsLow}
use Rattle.homeo_desugar.specs.inner.Visits.{adding, added, term_of}
use Rattle.homeo_desugar.proofs.Makings.{Leaves, both_exprs, lifted_plain, lifted_mapped, lifted_combined, expr_lifted, test_lifted, cond_lifted, visit_lifted, exprs_step, exprs_past, exprs_end, tests_step, tests_past, conds_end, pushed_after, visits_begin, visit_step, visits_done, counted_lifted, counted_as, indexed_lifted, indexed_as}
use Rattle.homeo_context.proofs.SlotLists.{slot_is}
use Rattle.homeo_desugar.proofs.Places.{place_fits}
use Rattle.homeo_desugar.proofs.Rows.{context_bound, bound_fits}
use Rattle.homeo_desugar.proofs.SlotLists.{slot_is_low}
use Rattle.homeo_desugar.proofs.lifting.+phrases.Goals as goal

pub add_slots-loop-number-init : goal.add_slots-loop-number-init
add_slots-loop-number-init t c = visits_begin _ _ _ _ c.args.slots c.args.out.now

pub add_slots-lift_visit-requires : goal.add_slots-lift_visit-requires
add_slots-lift_visit-requires t c =
    (search (rules, the_lemmas), (c.requires.fits, slot_is_low c.args.slots c.loop-number.number c.slot-slot.result c.loop-number-test.true c.requires.slots c.slot-slot.ensures.number c.slot-slot.ensures.used c.slot-slot.ensures.fields))

pub add_slots-term-requires : goal.add_slots-term-requires
add_slots-term-requires t c = record { low = slot_is_low c.args.slots c.loop-number.number c.slot-slot.result c.loop-number-test.true c.requires.slots c.slot-slot.ensures.number c.slot-slot.ensures.used c.slot-slot.ensures.fields }

pub add_slots-loop-number-preserved : goal.add_slots-loop-number-preserved
unfolding definitions
add_slots-loop-number-preserved t c =
    let yes = c.in_ok-add.ensures ∙ ap (added c.args.total) c.term.ensures in
    let choice = c.in_ok-choice.ensures ∙ ap (L.If (plain_lcond c.in_ok-test.test) (plain_lcommand c.in_ok-add.add)) low_Skip in
    visit_step (plain_context c.args.context.now) c.args.row c.loop-number.number (plain_cond c.args.test.now) (adding c.args.total (term_of c.args.field)) c.args.slots c.slot-slot.result c.args.out.now c.loop-number.out c.lift_visit.new.out c.push.new.self (plain_lcond c.in_ok-test.test) (plain_lcommand c.in_ok-add.add) _ _ c.loop-number-test.true (slot_is c.args.slots c.loop-number.number c.slot-slot.result c.slot-slot.ensures.number c.slot-slot.ensures.used c.slot-slot.ensures.fields) c.in_ok-test.ensures yes c.in_ok-push.ensures.next choice c.in_ok-push.ensures.pushed c.loop-number.invariant

pub add_slots-returns : goal.add_slots-returns
add_slots-returns t c = visits_done _ _ _ _ c.args.slots c.loop-number.number c.args.out.now c.loop-number.out _ c.loop-number-test.false c.loop-number.invariant

pub counted-returns : goal.counted-returns
unfolding definitions
counted-returns t c =
    let first = low_Assign _ _ ∙ ap (L.Assign (temp.Fresh c.in_ok-total.total)) (low_Literal (pos 0)) in
    let pushed = pushed_after c.args.out.now c.fresh.new.self c.push.new.self _ c.in_ok-total.ensures.commands c.in_ok-push.ensures.pushed in
    counted_lifted _ (term_of c.args.field) (slots_of c.args.slots) c.in_ok-total.total c.args.out.now c.push.new.self c.add_slots.new.out _ (plain_lexpr c.fresh-2.result) c.in_ok-total.ensures.taken (c.in_ok-push.ensures.next ∙ c.in_ok-total.ensures.next) pushed first c.in_ok-add_slots.ensures c.fresh-2.ensures

pub lift-field_cell-requires : goal.lift-field_cell-requires
lift-field_cell-requires t c = record { low = subst IsLow (sym c.row.ensures) (c.requires.fits.rows c.in-Row.row.name) }

pub lift-overflow_cast-object : goal.lift-overflow_cast-object
unfolding meaning_definitions
lift-overflow_cast-object t c =
    let few = place_fits c.args.context.now.declared.now.schema c.in-Read.x.name c.object.result.place c.requires.fits.schema (ap (λ (b : Spot). b.place) c.object.ensures) in
    omega (arith, few)

pub lift-returns-in-Literal : goal.lift-returns-in-Literal
unfolding meaning_definitions
lift-returns-in-Literal t c =
    let kept = to_z-of_z w64 c.in-Literal.n (search rules) in
    expr_lifted (plain_context c.args.context.now) c.args.out.now c.args.out.now c.args.e.now (s.Literal c.in-Literal.n) _ (ap plain_expr c.in-Literal.is ∙ plain_Literal c.in-Literal.n) (lifted_plain c.args.out.now (L.Literal c.in-Literal.n) _ (low_Literal _ ∙ ap L.Literal kept))

pub lift-returns-in-Name : goal.lift-returns-in-Name
unfolding meaning_definitions
lift-returns-in-Name t c =
    expr_lifted (plain_context c.args.context.now) c.args.out.now c.args.out.now c.args.e.now (s.Name c.in-Name.x) _ (ap plain_expr c.in-Name.is ∙ plain_Name c.in-Name.x) (lifted_plain c.args.out.now _ _ c.named.ensures)

pub lift-returns-in-Read : goal.lift-returns-in-Read
unfolding definitions meaning_definitions
lift-returns-in-Read t c =
    expr_lifted (plain_context c.args.context.now) c.args.out.now c.args.out.now c.args.e.now (s.Read c.in-Read.x) _ (ap plain_expr c.in-Read.is ∙ plain_Read c.in-Read.x) (lifted_plain c.args.out.now _ _ (c.read.ensures ∙ ap (λ b. read b.place) c.object.ensures))

pub lift-returns-in_ok-terms-in-Sum : goal.lift-returns-in_ok-terms-in-Sum
unfolding meaning_definitions
lift-returns-in_ok-terms-in-Sum t c =
    let seen = ap plain_expr c.in-Sum.is ∙ plain_Sum c.in-Sum.es ∙ sym (ap (λ l. s.Sum (exprs (map plain_expr l))) c.as_slice.ensures) in
    expr_lifted (plain_context c.args.context.now) c.args.out.now c.lift_all.new.out c.args.e.now _ _ seen (lifted_mapped L.Sum c.args.out.now c.lift_all.new.out _ _ _ (low_Sum c.in_ok-terms-in-Sum.terms) c.in_ok-terms-in-Sum.ensures)

pub lift-returns-in_ok-factors-in-Product : goal.lift-returns-in_ok-factors-in-Product
unfolding meaning_definitions
lift-returns-in_ok-factors-in-Product t c =
    let seen = ap plain_expr c.in-Product.is ∙ plain_Product c.in-Product.es ∙ sym (ap (λ l. s.Product (exprs (map plain_expr l))) c.as_slice-in-Product.ensures) in
    expr_lifted (plain_context c.args.context.now) c.args.out.now c.lift_all-in-Product.new.out c.args.e.now _ _ seen (lifted_mapped L.Product c.args.out.now c.lift_all-in-Product.new.out _ _ _ (low_Product c.in_ok-factors-in-Product.factors) c.in_ok-factors-in-Product.ensures)

pub lift-returns-in_ok-new-in-Neg : goal.lift-returns-in_ok-new-in-Neg
unfolding meaning_definitions
lift-returns-in_ok-new-in-Neg t c =
    let seen = ap plain_expr c.in-Neg.is ∙ plain_Neg c.in-Neg.inner ∙ sym (ap (λ e. s.Neg (plain_expr e)) c.deref.ensures) in
    let made = low_Neg c.in_ok-new-in-Neg.field-0 ∙ ap (λ e. L.Neg (plain_lexpr e)) c.in_ok-new-in-Neg.ensures.ok in
    expr_lifted (plain_context c.args.context.now) c.args.out.now c.lift.new.out c.args.e.now _ _ seen (lifted_mapped L.Neg c.args.out.now c.lift.new.out _ _ _ made c.in_ok-inner-in-Neg.ensures)

pub lift-returns-in_ok-index-in-Field : goal.lift-returns-in_ok-index-in-Field
unfolding meaning_definitions
lift-returns-in_ok-index-in-Field t c =
    let x = plain_context c.args.context.now in
    let q = c.in-Field.relation in
    let f = c.in-Field.field in
    let old = c.args.out.now in
    let mid = c.lift-in-Field.new.out in
    let new = c.indexed.new.out in
    let i = plain_lexpr c.in_ok-index-in-Field.index in
    let e = plain_expr c.deref-in-Field.result.now in
    let seen = ap plain_expr c.in-Field.is ∙ plain_Field q c.in-Field.index f ∙ sym (ap (λ e. s.Field q (plain_expr e) f) c.deref-in-Field.ensures) in
    IfOk-weaker c.indexed.result _ _
    (λ r h. expr_lifted x old new c.args.e.now (s.Field q e f) (plain_lexpr r) seen (indexed_lifted x e (slots x q.name) (spot (fields x q.name) f.name) old mid new i (plain_lexpr r) c.in_ok-index-in-Field.ensures (indexed_as (slots_of c.relation.result) (slots x q.name) (map declared_range c.relation.result.fields.now) (fields x q.name) f.name mid new (plain i mid.next) (plain_lexpr r) c.relation.ensures.slots c.relation.ensures.fields h)))
    c.indexed.ensures

pub lift-returns-in-Row : goal.lift-returns-in-Row
unfolding meaning_definitions
lift-returns-in-Row t c =
    expr_lifted (plain_context c.args.context.now) c.args.out.now c.args.out.now c.args.e.now (s.Row c.in-Row.row c.in-Row.field) _ (ap plain_expr c.in-Row.is ∙ plain_Row c.in-Row.row c.in-Row.field) (lifted_plain c.args.out.now _ _ (c.read-in-Row.ensures ∙ ap read (c.field_cell.ensures ∙ ap (λ r. field_cell r c.in-Row.field.name) c.row.ensures)))

pub lift-returns-in-Count : goal.lift-returns-in-Count
unfolding definitions meaning_definitions
lift-returns-in-Count t c =
    let x = plain_context c.args.context.now in
    let row = c.in-Count.row in
    let q = c.in-Count.relation in
    let b = plain_cond c.deref-in-Count.result.now in
    let seen = ap plain_expr c.in-Count.is ∙ plain_Count row q c.in-Count.test ∙ sym (ap (λ t. s.Count row q (plain_cond t)) c.deref-in-Count.ensures) in
    let old = c.args.out.now in
    let new = c.counted.new.out in
    IfOk-weaker c.counted.result _ _
    (λ r h. expr_lifted x old new c.args.e.now (s.Count row q b) (plain_lexpr r) seen (counted_as (λ slot. lift_cond (bind x row.name slot) b) (term_of None) (slots_of c.relation-slots.result) (slots x q.name) old new (plain_lexpr r) c.relation-slots.ensures.slots h))
    c.counted.ensures

pub lift-returns-in-Total : goal.lift-returns-in-Total
unfolding definitions meaning_definitions
lift-returns-in-Total t c =
    let x = plain_context c.args.context.now in
    let row = c.in-Total.row in
    let f = c.in-Total.field in
    let q = c.in-Total.relation in
    let b = plain_cond c.deref-in-Total.result.now in
    let seen = ap plain_expr c.in-Total.is ∙ plain_Total row f q c.in-Total.test ∙ sym (ap (λ t. s.Total row f q (plain_cond t)) c.deref-in-Total.ensures) in
    let old = c.args.out.now in
    let new = c.counted-in-Total.new.out in
    IfOk-weaker c.counted-in-Total.result _ _
    (λ r h. expr_lifted x old new c.args.e.now (s.Total row f q b) (plain_lexpr r) seen (counted_as (λ slot. lift_cond (bind x row.name slot) b) (term_of (Some f.name)) (slots_of c.relation-slots-in-Total.result) (slots x q.name) old new (plain_lexpr r) c.relation-slots-in-Total.ensures.slots h))
    c.counted-in-Total.ensures

pub lift_all-loop-e-init : goal.lift_all-loop-e-init
unfolding syntax_definitions
lift_all-loop-e-init t c =
    let whole = lift_all (plain_context c.args.context.now) (exprs (map plain_expr c.args.es.now)) c.args.out.now.next in
    record {
      phrase = ap (λ l. both_exprs (low_exprs (map plain_lexpr l.items)) whole.phrase) c.in_ok-lifted.ensures;
      commands = refl;
      next = refl;
    }

pub lift_all-loop-e-preserved : goal.lift_all-loop-e-preserved
lift_all-loop-e-preserved t c =
    exprs_step (plain_context c.args.context.now) c.args.es.now c.loop-e.e-index c.e-item.result c.args.out.now c.loop-e.out c.lift.new.out c.in_ok-one.one c.loop-e.lifted c.push.new.self _ _ c.loop-e-test.true c.e-item.is c.in_ok-one.ensures c.in_ok-push.ensures.ok c.loop-e.invariant

pub lift_all-returns : goal.lift_all-returns
lift_all-returns t c =
    let x = plain_context c.args.context.now in
    let here = low_exprs (map plain_lexpr c.loop-e.lifted.items) in
    let whole = lift_all x (exprs (map plain_expr c.args.es.now)) c.args.out.now.next in
    exprs_end c.args.out.now c.loop-e.out here whole (subst (λ rest. Leaves c.args.out.now c.loop-e.out L.NoExpr here both_exprs rest whole) (exprs_past x c.args.es.now c.loop-e.e-index c.loop-e.out.next c.loop-e-test.false) c.loop-e.invariant)

pub lift_cond-returns : goal.lift_cond-returns
unfolding syntax_definitions
lift_cond-returns t c =
    let seen = plain_conjunction c.args.c.now ∙ sym (ap (λ l. tests (map plain_test l)) c.as_slice-tests.ensures) in
    let none = ap (λ l. low_tests (map plain_ltest l.items)) c.in_ok-lifted.ensures in
    cond_lifted (plain_context c.args.context.now) c.args.out.now c.lift_tests.new.out (plain_cond c.args.c.now) _ _ _ _ seen none (low_conjunction_of c.lift_tests.new.lifted) c.in_ok-lift_tests.ensures

pub lift_test-returns-in-True : goal.lift_test-returns-in-True
unfolding meaning_definitions
lift_test-returns-in-True t c =
    test_lifted (plain_context c.args.context.now) c.args.out.now c.args.out.now c.args.t.now s.True _ (ap plain_test c.in-True.is ∙ plain_True) (lifted_plain c.args.out.now L.True _ low_True)

pub lift_test-returns-in_ok-inner-in-Not : goal.lift_test-returns-in_ok-inner-in-Not
unfolding meaning_definitions
lift_test-returns-in_ok-inner-in-Not t c =
    test_lifted (plain_context c.args.context.now) c.args.out.now c.lift_cond.new.out c.args.t.now (s.Not (plain_cond c.in-Not.c)) _ (ap plain_test c.in-Not.is ∙ plain_Not c.in-Not.c) (lifted_mapped L.Not c.args.out.now c.lift_cond.new.out _ _ _ (low_Not c.in_ok-inner-in-Not.inner) c.in_ok-inner-in-Not.ensures)

pub lift_test-returns-in_ok-right-in-Compare : goal.lift_test-returns-in_ok-right-in-Compare
unfolding meaning_definitions
lift_test-returns-in_ok-right-in-Compare t c =
    let x = plain_context c.args.context.now in
    let op = c.in-Compare.op in
    let a = plain_expr c.in-Compare.left in
    let b = plain_expr c.in-Compare.right in
    let old = c.args.out.now in
    test_lifted x old c.lift-in-Compare.new.out c.args.t.now (s.Comparison op a b) _ (ap plain_test c.in-Compare.is ∙ plain_Compare op c.in-Compare.left c.in-Compare.right) (lifted_combined (L.Comparison op) old c.lift.new.out c.lift-in-Compare.new.out (lift x a old.next) (lift x b) _ _ _ (low_Compare op c.in_ok-left-in-Compare.left c.in_ok-right-in-Compare.right) c.in_ok-left-in-Compare.ensures c.in_ok-right-in-Compare.ensures)

pub lift_tests-loop-t-preserved : goal.lift_tests-loop-t-preserved
lift_tests-loop-t-preserved t c =
    tests_step (plain_context c.args.context.now) c.args.ts.now c.loop-t.t-index c.t-item.result c.args.out.now c.loop-t.out c.lift_test.new.out _ c.in_ok-one.one c.loop-t.lifted c.push.new.self _ _ c.loop-t-test.true c.t-item.is c.in_ok-one.ensures c.in_ok-push.ensures.ok c.loop-t.invariant

pub lift_tests-returns : goal.lift_tests-returns
lift_tests-returns t c =
    let x = plain_context c.args.context.now in
    let before = low_tests (map plain_ltest c.args.lifted.now.items) in
    let here = low_tests (map plain_ltest c.loop-t.lifted.items) in
    let whole = lift_cond x (tests (map plain_test c.args.ts.now)) c.args.out.now.next in
    conds_end c.args.out.now c.loop-t.out before here whole (subst (λ rest. Leaves c.args.out.now c.loop-t.out before here both_tests rest whole) (tests_past x c.args.ts.now c.loop-t.t-index c.loop-t.out.next c.loop-t-test.false) c.loop-t.invariant)

pub lift_visit-lift_tests-requires : goal.lift_visit-lift_tests-requires
lift_visit-lift_tests-requires t c =
    (search (rules, the_lemmas), bound_fits c.args.context.now c.with.result c.args.row c.args.slot c.with.ensures.declared c.with.ensures.arguments c.with.ensures.rows c.requires.fits c.requires.low)

pub lift_visit-returns : goal.lift_visit-returns
unfolding syntax_definitions definitions
lift_visit-returns t c =
    let bound = context_bound c.args.context.now c.with.result c.args.row c.args.slot c.with.ensures.declared c.with.ensures.arguments c.with.ensures.rows in
    let slot = plain_slot c.args.slot in
    let seen = plain_conjunction c.args.c.now ∙ sym (ap (λ l. tests (map plain_test l)) c.as_slice.ensures) in
    let used = ap (λ l. low_tests (map plain_ltest l.items)) c.in_ok-push.ensures.ok ∙ ap (λ l. low_tests (map plain_ltest (l.items ++ c.equal.result ∷ []))) c.new-lifted.ensures ∙ ap (λ u. L.MoreTest u L.NoTest) (c.equal.ensures ∙ ap (λ e. equal e (pos 1)) (c.read.ensures ∙ ap read c.used.ensures)) in
    visit_lifted (bind (plain_context c.args.context.now) c.args.row slot) (plain_context c.with.result) c.args.out.now c.lift_tests.new.out slot (plain_cond c.args.c.now) _ _ _ _ bound seen used (low_conjunction_of c.lift_tests.new.lifted) c.in_ok-lift_tests.ensures
