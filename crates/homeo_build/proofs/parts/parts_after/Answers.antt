-- Of each form what it brings is put behind the others, be it kept or made; what is kept is rebased.
use Rattle.std.proofs.Common.{ℕ, rules, map, sym, subst, ap, true≢false, ◌∙◌}
use Rattle.homeo_syntax.specs.LowView.{plain_lcommand}
use Rattle.homeo_syntax.specs.SourceView.{plain_workload}
use Rattle.homeo_meaning.specs.Serial.{values_of}
use Rattle.homeo_meaning.specs.Small.{IsSmall}
use Rattle.homeo_plan.specs.Limit.{form_limit}
use Rattle.homeo_follow.specs.Brought.{brought}
use Rattle.homeo_build.specs.inner.Followed.{IsSmallAlong}
use Rattle.homeo_follow.specs.Rebased.{rebased, gains}
use Rattle.homeo_build.proofs.Following.{small_at, small_base, shared_part, shared_moved, lent_brought, forms_lent, parts_lent, names_lent, parts_all, all_moved, part_within, names_within, part_of, names_of, kept_here, names_agree}
use Rattle.homeo_build.proofs.FormsMade.{made_each}
use Rattle.homeo_build.proofs.Grown.{grown}
use Rattle.homeo_build.proofs.parts.parts_after.Goals.{then-are_rebased, else-are_rebased}
use Rattle.homeo_build.proofs.parts.parts_after.Goals as goal

pub bounds-names-i : goal.bounds-names-i
bounds-names-i c =
    let w = plain_workload c.args.c.now in
    let fs = c.as_slice-form-items.result.now in
    let made = c.forms-forms.result.now in
    let forms = forms_lent w made.forms.items fs made.places.items c.as_slice-form-items.ensures c.forms-forms.ensures.forms in
    let last = c.args.last.now in
    let kept = c.as_slice-kept.result.now in
    let parts = parts_lent w last.base.items fs made.places.items last.parts.items kept forms c.as_slice-kept.ensures c.requires.last.parts in
    let lent = c.as_slice-names.result.now in
    let names =
    names_lent made.forms.items fs made.names.items lent c.as_slice-form-items.ensures c.as_slice-names.ensures.value c.forms-forms.ensures.names in
    names_within (values_of last.base.items) fs kept lent c.loop-i.i parts names c.loop-i-test.true

pub bounds-kept-i : goal.bounds-kept-i
bounds-kept-i c =
    let w = plain_workload c.args.c.now in
    let fs = c.as_slice-form-items.result.now in
    let made = c.forms-forms.result.now in
    let forms = forms_lent w made.forms.items fs made.places.items c.as_slice-form-items.ensures c.forms-forms.ensures.forms in
    let last = c.args.last.now in
    let kept = c.as_slice-kept.result.now in
    let parts = parts_lent w last.base.items fs made.places.items last.parts.items kept forms c.as_slice-kept.ensures c.requires.last.parts in
    let lent = c.as_slice-names.result.now in
    let names =
    names_lent made.forms.items fs made.names.items lent c.as_slice-form-items.ensures c.as_slice-names.ensures.value c.forms-forms.ensures.names in
    part_within (values_of last.base.items) fs kept lent c.loop-i.i parts names c.loop-i-test.true

pub offset_bounds-names-i : goal.offset_bounds-names-i
offset_bounds-names-i c =
    let h = bounds-names-i c in
    let k = c.as_slice-names.type_inv in
    search rules

pub part_after-requires-clause-kept : goal.part_after-requires-clause-kept
part_after-requires-clause-kept c =
    let w = plain_workload c.args.c.now in
    let fs = c.as_slice-form-items.result.now in
    let made = c.forms-forms.result.now in
    let forms = forms_lent w made.forms.items fs made.places.items c.as_slice-form-items.ensures c.forms-forms.ensures.forms in
    let last = c.args.last.now in
    let kept = c.as_slice-kept.result.now in
    let parts = parts_lent w last.base.items fs made.places.items last.parts.items kept forms c.as_slice-kept.ensures c.requires.last.parts in
    let lent = c.as_slice-names.result.now in
    let names =
    names_lent made.forms.items fs made.names.items lent c.as_slice-form-items.ensures c.as_slice-names.ensures.value c.forms-forms.ensures.names in
    let old =
    part_of (values_of last.base.items) fs kept lent c.loop-i.i parts names c.loop-i-test.true c.form-item.result c.index-kept-i.result c.form-item.is c.index-kept-i.is in
    let named_is =
    c.as_slice.ensures.value
    ∙ names_of (values_of last.base.items) fs kept lent c.loop-i.i parts names c.loop-i-test.true
    c.form-item.result c.index-names-i.result c.form-item.is c.index-names-i.is in
    kept_here last.base.items c.as_slice-from.result.now c.as_slice-to.result.now c.as_slice-from.ensures (plain_lcommand c.form-item.result)
    c.as_slice.result.now (shared_part c.index-kept-i.result) named_is old

pub part_after-requires-clause-stays : goal.part_after-requires-clause-stays
part_after-requires-clause-stays c = λ yes.
    let w = plain_workload c.args.c.now in
    let fs = c.as_slice-form-items.result.now in
    let made = c.forms-forms.result.now in
    let forms = forms_lent w made.forms.items fs made.places.items c.as_slice-form-items.ensures c.forms-forms.ensures.forms in
    let last = c.args.last.now in
    let kept = c.as_slice-kept.result.now in
    let parts = parts_lent w last.base.items fs made.places.items last.parts.items kept forms c.as_slice-kept.ensures c.requires.last.parts in
    let lent = c.as_slice-names.result.now in
    let names =
    names_lent made.forms.items fs made.names.items lent c.as_slice-form-items.ensures c.as_slice-names.ensures.value c.forms-forms.ensures.names in
    let old =
    part_of (values_of last.base.items) fs kept lent c.loop-i.i parts names c.loop-i-test.true c.form-item.result c.index-kept-i.result c.form-item.is c.index-kept-i.is in
    let named_is =
    c.as_slice.ensures.value
    ∙ names_of (values_of last.base.items) fs kept lent c.loop-i.i parts names c.loop-i-test.true
    c.form-item.result c.index-names-i.result c.form-item.is c.index-names-i.is in
    names_agree last.base.items c.as_slice-from.result.now c.as_slice-to.result.now c.as_slice-from.ensures (plain_lcommand c.form-item.result)
    c.as_slice.result.now (shared_part c.index-kept-i.result) named_is old (sym c.have_same_values-stays.ensures ∙ yes)

pub part_after-requires-clause-follower : goal.part_after-requires-clause-follower
part_after-requires-clause-follower c = c.loop-i.invariant.follower ∙ sym c.as_slice-to.ensures

pub part_after-requires-clause-form : goal.part_after-requires-clause-form
part_after-requires-clause-form c =
    let w = plain_workload c.args.c.now in
    let fs = c.as_slice-form-items.result.now in
    let made = c.forms-forms.result.now in
    let forms = forms_lent w made.forms.items fs made.places.items c.as_slice-form-items.ensures c.forms-forms.ensures.forms in
    subst (λ b. IsSmallAlong (values_of b) (plain_lcommand c.form-item.result)) (sym c.loop-i.invariant.follower)
    (small_at w c.args.base.now.items c.requires.accepted c.requires.within fs c.loop-i.i c.form-item.result (made_each w (map plain_lcommand fs) made.places.items c.requires.accepted forms)
    c.loop-i-test.true c.form-item.is)

pub part_after-requires-clause-base : goal.part_after-requires-clause-base
part_after-requires-clause-base c =
    subst (λ b. (x : ℕ) → IsSmall form_limit (values_of b x)) (sym c.loop-i.invariant.follower)
    (small_base (plain_workload c.args.c.now) c.args.base.now.items c.requires.accepted c.requires.within)

pub loop-i-preserved : goal.loop-i-preserved
loop-i-preserved c =
    let w = plain_workload c.args.c.now in
    let fs = c.as_slice-form-items.result.now in
    let made = c.forms-forms.result.now in
    let forms = forms_lent w made.forms.items fs made.places.items c.as_slice-form-items.ensures c.forms-forms.ensures.forms in
    let last = c.args.last.now in
    let kept = c.as_slice-kept.result.now in
    let parts = parts_lent w last.base.items fs made.places.items last.parts.items kept forms c.as_slice-kept.ensures c.requires.last.parts in
    let lent = c.as_slice-names.result.now in
    let names =
    names_lent made.forms.items fs made.names.items lent c.as_slice-form-items.ensures c.as_slice-names.ensures.value c.forms-forms.ensures.names in
    let base = c.args.base.now.items in
    let within = part_within (values_of last.base.items) fs kept lent c.loop-i.i parts names c.loop-i-test.true in
    let pushed = ap (λ l. l.items) c.in_ok-push.ensures.ok in
    let brings = c.in_ok-made.ensures.part ∙ ap (λ b. brought (values_of b) (plain_lcommand c.form-item.result)) c.as_slice-to.ensures in
    record {
      follower = c.part_after.ensures.follower ∙ c.loop-i.invariant.follower;
      parts =
          grown shared_part (lent_brought (values_of base)) c.loop-i.parts.items _ _ fs c.loop-i.i c.form-item.result c.loop-i-test.true c.form-item.is
          pushed c.loop-i.invariant.parts brings;
      rebased = λ yes. elim c.if-are_rebased.branch [
        | then-are_rebased w ↦ (
            let from = c.as_slice-from.ensures in
            let to = c.as_slice-to.ensures in
            let moved =
            c.in_ok-made.ensures.rebased (sym w.are_rebased-is ∙ yes)
            ∙ (λ i. rebased (gains (values_of (from i)) (values_of (to i))) (shared_part c.index-kept-i.result)) in
            grown shared_part (shared_moved last.base.items base) c.loop-i.parts.items _ _ kept c.loop-i.i c.index-kept-i.result within c.index-kept-i.is
            pushed (c.loop-i.invariant.rebased w.if-are_rebased.true) moved
            )
        | else-are_rebased w ↦ absurd (true≢false (sym yes ∙ w.are_rebased-is ∙ w.if-are_rebased.false))
      ];
    }

pub returns-clause-parts : goal.returns-clause-parts
returns-clause-parts c =
    let w = plain_workload c.args.c.now in
    let fs = c.as_slice-form-items.result.now in
    let made = c.forms-forms.result.now in
    let forms = forms_lent w made.forms.items fs made.places.items c.as_slice-form-items.ensures c.forms-forms.ensures.forms in
    parts_all w c.args.base.now.items fs made.places.items c.loop-i.parts.items c.loop-i.i forms
    c.loop-i-test.false c.loop-i.invariant.parts

pub returns-clause-rebased : goal.returns-clause-rebased
returns-clause-rebased c = λ yes.
    let w = plain_workload c.args.c.now in
    let fs = c.as_slice-form-items.result.now in
    let made = c.forms-forms.result.now in
    let forms = forms_lent w made.forms.items fs made.places.items c.as_slice-form-items.ensures c.forms-forms.ensures.forms in
    let last = c.args.last.now in
    let kept = c.as_slice-kept.result.now in
    let parts = parts_lent w last.base.items fs made.places.items last.parts.items kept forms c.as_slice-kept.ensures c.requires.last.parts in
    all_moved last.base.items c.args.base.now.items fs last.parts.items kept c.loop-i.parts.items c.loop-i.i c.as_slice-kept.ensures parts
    c.loop-i-test.false (c.loop-i.invariant.rebased yes)
