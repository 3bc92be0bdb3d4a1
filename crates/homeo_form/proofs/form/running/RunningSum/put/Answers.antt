-- The numbers stay small where the constant and the factors of the form's deltas do.
use Rattle.std.proofs.Common.{rules, IsTrue, false, take, subst, sym, ap, refl}
use Rattle.homeo_meaning.specs.Small.{IsSmall}
use Rattle.homeo_plan.specs.FormSizes.{Numbers}
use Rattle.homeo_plan.specs.Limit.{form_limit}
use Rattle.homeo_form.specs.inner.Terms.{sum_limit}
use Rattle.homeo_form.proofs.Adding.{limit_wider}
use Rattle.homeo_form.proofs.FormParts.{small_terms, sum_is}
use Rattle.homeo_form.proofs.RunningSums.{factors_from, running_more, running_small, constant_from}
use Rattle.homeo_form.proofs.Widths.{kept_is, sum_kept}
use Rattle.homeo_form.proofs.form.running.RunningSum.put.Goals as goal

pub added-constant-requires-clause-right : goal.added-constant-requires-clause-right
added-constant-requires-clause-right c =
    subst (IsSmall sum_limit) (sym (kept_is c.self.inside.constant _ (search rules) refl)) (limit_wider c.self.inside.constant c.self.invariant.constant)

pub returns-then-not-is_small_number : goal.returns-then-not-is_small_number
returns-then-not-is_small_number c = λ h.
    let sum = sum_kept c.added-constant.result c.form.inside.constant c.self.inside.constant (search rules) (search rules) (search rules) c.added-constant.ensures in
    let constant = constant_from c.args.self c.args.form.now c.self.inside.constant c.form.inside.constant _ _ _ _ c.self.view_is c.form.view_is h in
    let small : IsTrue false = c.if-not-is_small_number.ensures.1 (subst (IsSmall form_limit) (sym sum) constant) in
    absurd cc

pub add_factors-requires-clause-terms_small : goal.add_factors-requires-clause-terms_small
add_factors-requires-clause-terms_small c =
    small_terms c.args.form.now _ c.form.inside.terms.items _ c.form.inside.mixed.items c.form.view_is c.as_slice-more.ensures.value c.requires

pub returns-then-not-branch : goal.returns-then-not-branch
returns-then-not-branch c = λ h.
    let sums =
    factors_from c.args.self c.args.form.now c.self.inside.constant c.form.inside.constant c.self.inside.terms.items c.form.inside.terms.items _ _
    c.self.inside.mixed.items c.form.inside.mixed.items c.self.inside.settled c.self.inside.changed c.self.view_is c.form.view_is
    c.as_slice-more.ensures.value (ap (take c.self.inside.settled) c.as_slice.ensures.value) c.self.invariant h in
    let small : IsTrue false = subst IsTrue c.if-not-branch.true (c.in_ok-add_factors.ensures.small.1 sums) in
    absurd cc

pub invariant_of-result : goal.invariant_of-result
invariant_of-result c =
    let small = c.if-not-is_small_number.ensures.0 refl in
    running_more c.args.self c.args.form.now c.self.inside.constant c.form.inside.constant c.self.inside.terms.items c.form.inside.terms.items _ _
    c.self.inside.mixed.items c.form.inside.mixed.items c.self.inside.settled c.self.inside.changed c.self.view_is c.form.view_is
    c.as_slice-more.ensures.value (ap (take c.self.inside.settled) c.as_slice.ensures.value) c.self.invariant
    c.add_factors.new.changed _ _ c.extend_from_slice.new.self.items c.in_ok-extend_from_slice.ensures.items
    (small_terms c.args.form.now _ c.form.inside.terms.items _ c.form.inside.mixed.items c.form.view_is c.as_slice-more.ensures.value c.requires)
    refl small (c.in_ok-add_factors.ensures.sums c.if-not-branch.false) (c.in_ok-add_factors.ensures.small.0 c.if-not-branch.false)

pub returns : goal.returns
returns c =
    let whole =
    sum_is c.args.self c.args.form.now c.self.inside.constant c.form.inside.constant _ c.self.inside.terms.items c.form.inside.terms.items
    c.extend_from_slice.new.self.items _ c.self.inside.mixed.items c.form.inside.mixed.items c.extend_from_slice-2.new.self.items _ c.self.view_is c.form.view_is
    (sum_kept c.added-constant.result c.form.inside.constant c.self.inside.constant (search rules) (search rules) (search rules) c.added-constant.ensures)
    c.in_ok-extend_from_slice.ensures.items c.as_slice-more.ensures.value c.in_ok-extend_from_slice-2.ensures.items c.as_slice-2.ensures.value in (
      subst (Numbers (IsSmall form_limit)) whole
          (running_small _ _ c.extend_from_slice.new.self.items c.extend_from_slice-2.new.self.items c.self.inside.settled c.add_factors.new.changed refl
          (invariant_of-result c)),
      whole,
    )
