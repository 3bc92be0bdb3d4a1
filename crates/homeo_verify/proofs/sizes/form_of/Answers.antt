-- There is a form where all numbers that are met are small.
use Rattle.std.proofs.Common.{sym, subst}
use Rattle.homeo_syntax.specs.LowView.{plain_lexpr}
use Rattle.homeo_meaning.specs.Small.{IsSmall}
use Rattle.homeo_plan.specs.FormSizes.{Numbers}
use Rattle.homeo_plan.specs.Limit.{form_limit}
use Rattle.homeo_form.specs.Checked.{Checked}
use Rattle.homeo_form.specs.Standing.{forms_of}
use Rattle.homeo_verify.proofs.LargeNumbers.{form_is_large}
use Rattle.homeo_plan.proofs.FormNumbers.{small_form}
use Rattle.homeo_certificate.proofs.SmallMet.{expr_not_large}
use Rattle.homeo_verify.proofs.sizes.form_of.Goals as goal

pub returns-in-Some-clause-faults : goal.returns-in-Some-clause-faults
returns-in-Some-clause-faults c =
    let f = forms_of c.args.standing.now in
    let e = plain_lexpr c.args.e.now in
    let made = subst (Checked f e) c.in-Some.is c.in_ok-form.ensures in
    expr_not_large f e made.0

pub returns-in-Some-clause-small : goal.returns-in-Some-clause-small
returns-in-Some-clause-small c =
    let f = forms_of c.args.standing.now in
    let e = plain_lexpr c.args.e.now in
    let made = subst (Checked f e) c.in-Some.is c.in_ok-form.ensures in
    subst (Numbers (IsSmall form_limit)) (sym made.1) (small_form (IsSmall form_limit) f e made.0)

pub returns-in-None-clause-faults : goal.returns-in-None-clause-faults
returns-in-None-clause-faults c =
    let f = forms_of c.args.standing.now in
    let e = plain_lexpr c.args.e.now in
    form_is_large f e (subst (Checked f e) c.in-None.is c.in_ok-form.ensures)
