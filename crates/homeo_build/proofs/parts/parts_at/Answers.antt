-- Of each form what it brings is put behind the others.
use Rattle.std.proofs.Common.{ℕ, map, sym, ap, ◌∙◌, subst}
use Rattle.homeo_syntax.specs.SourceView.{plain_workload}
use Rattle.homeo_syntax.specs.LowView.{plain_lcommand}
use Rattle.homeo_meaning.specs.Serial.{values_of}
use Rattle.homeo_meaning.specs.Small.{IsSmall}
use Rattle.homeo_plan.specs.Limit.{form_limit}
use Rattle.homeo_follow.specs.Brought.{brought}
use Rattle.homeo_build.specs.inner.Followed.{IsSmallAlong}
use Rattle.homeo_build.proofs.Following.{small_at, small_base, shared_part, lent_brought, forms_lent, parts_all}
use Rattle.homeo_build.proofs.FormsMade.{made_each}
use Rattle.homeo_build.proofs.Grown.{grown}
use Rattle.homeo_build.proofs.parts.parts_at.Goals as goal

pub part_at-requires-clause-form : goal.part_at-requires-clause-form
part_at-requires-clause-form c =
    let w = plain_workload c.args.c.now in
    let fs = c.as_slice-form-items.result.now in
    let made = c.forms.result.now in
    let forms = forms_lent w made.forms.items fs made.places.items c.as_slice-form-items.ensures c.forms.ensures.forms in
    subst (λ b. IsSmallAlong (values_of b) (plain_lcommand c.form-item.result)) (sym c.loop-form.invariant.follower)
    (small_at w c.args.base.now.items c.requires.accepted c.requires.within fs c.loop-form.form-index c.form-item.result (made_each w (map plain_lcommand fs) made.places.items c.requires.accepted forms)
    c.loop-form-test.true c.form-item.is)

pub part_at-requires-clause-base : goal.part_at-requires-clause-base
part_at-requires-clause-base c =
    subst (λ b. (x : ℕ) → IsSmall form_limit (values_of b x)) (sym c.loop-form.invariant.follower)
    (small_base (plain_workload c.args.c.now) c.args.base.now.items c.requires.accepted c.requires.within)

pub loop-form-preserved : goal.loop-form-preserved
loop-form-preserved c = record {
  follower = c.part_at.ensures.follower ∙ c.loop-form.invariant.follower;
  parts =
      grown shared_part (lent_brought (values_of c.args.base.now.items)) c.loop-form.parts.items _ _ c.as_slice-form-items.result.now
      c.loop-form.form-index c.form-item.result c.loop-form-test.true c.form-item.is (ap (λ l. l.items) c.in_ok-push.ensures.ok)
      c.loop-form.invariant.parts
      (c.in_ok-part_at.ensures.part ∙ ap (λ b. brought (values_of b) (plain_lcommand c.form-item.result)) c.loop-form.invariant.follower);
}

pub returns : goal.returns
returns c =
    let w = plain_workload c.args.c.now in
    let fs = c.as_slice-form-items.result.now in
    let made = c.forms.result.now in
    let forms = forms_lent w made.forms.items fs made.places.items c.as_slice-form-items.ensures c.forms.ensures.forms in
    parts_all w c.args.base.now.items fs made.places.items c.loop-form.parts.items c.loop-form.form-index forms
    c.loop-form-test.false c.loop-form.invariant.parts
