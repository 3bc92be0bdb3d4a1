-- The form's numbers, then its mixed deltas, then its clause.
use Rattle.std.proofs.Common.{rules, ◌++◌, refl, sym, ap, ◌∙◌, subst}
use Rattle.homeo_meaning.proofs.Numbers.{kept_is}
use Rattle.homeo_plan.specs.Linear.{Linear}
use Rattle.homeo_certificate.specs.Key.{definitions}
use Rattle.homeo_certificate.specs.Met.{numbers}
use Rattle.homeo_certificate.specs.Kept.{atom, gap, form_of}
use Rattle.homeo_certificate.specs.Followed.{too_large, not_frozen, no_clause}
use Rattle.homeo_verify.specs.inner.RulesView.{plain_rules}
use Rattle.homeo_verify.specs.inner.Stops.{Finds}
use Rattle.homeo_verify.proofs.Stopping.{stop_with, stops_as, stop_sooner, stop_later, finds_later}
use Rattle.homeo_verify.proofs.rules.Rules.keep.Goals as goal

pub returns-in_err-form : goal.returns-in_err-form
unfolding definitions
returns-in_err-form c =
    let r = plain_rules c.args.self.now in
    let a = atom c.args.left.now c.args.right.now c.args.more in
    let kept = kept_is c.args.more c.args.more (search rules) refl in
    let sizes = ap (λ z. too_large (numbers (gap (atom c.args.left.now c.args.right.now z)) ++ numbers (form_of (atom c.args.left.now c.args.right.now z)))) kept in
    stop_with _ c.from_residual.result _ c.from_residual.ensures.1
    (stop_sooner (too_large (numbers (gap a) ++ numbers (form_of a))) (not_frozen r (form_of a).mixed ++ no_clause r (form_of a)) _ (stops_as _ _ _ sizes c.in_err-form.ensures.faults))

pub returns-in_err-freeze : goal.returns-in_err-freeze
unfolding definitions
returns-in_err-freeze c =
    let r = plain_rules c.args.self.now in
    let a = atom c.args.left.now c.args.right.now c.args.more in
    let kept = kept_is c.args.more c.args.more (search rules) refl in
    let sizes = ap (λ z. too_large (numbers (gap (atom c.args.left.now c.args.right.now z)) ++ numbers (form_of (atom c.args.left.now c.args.right.now z)))) kept in
    let form = c.in_ok-form.ensures.form ∙ ap (λ z. form_of (atom c.args.left.now c.args.right.now z)) kept in
    let mixed = c.as_slice.ensures ∙ ap (λ (f : Linear). f.mixed) form in
    stop_with _ c.from_residual-in_err-freeze.result _ c.from_residual-in_err-freeze.ensures.1
    (stop_later (too_large (numbers (gap a) ++ numbers (form_of a))) (not_frozen r (form_of a).mixed ++ no_clause r (form_of a)) _ (sym sizes ∙ c.in_ok-form.ensures.faults)
    (stop_sooner (not_frozen r (form_of a).mixed) (no_clause r (form_of a)) _ (stops_as _ _ _ (ap (not_frozen r) mixed) c.in_err-freeze.ensures)))

pub returns : goal.returns
unfolding definitions
returns c =
    let r = plain_rules c.args.self.now in
    let a = atom c.args.left.now c.args.right.now c.args.more in
    let kept = kept_is c.args.more c.args.more (search rules) refl in
    let sizes = ap (λ z. too_large (numbers (gap (atom c.args.left.now c.args.right.now z)) ++ numbers (form_of (atom c.args.left.now c.args.right.now z)))) kept in
    let form = c.in_ok-form.ensures.form ∙ ap (λ z. form_of (atom c.args.left.now c.args.right.now z)) kept in
    let mixed = c.as_slice.ensures ∙ ap (λ (f : Linear). f.mixed) form in
    finds_later (too_large (numbers (gap a) ++ numbers (form_of a))) (not_frozen r (form_of a).mixed ++ no_clause r (form_of a)) c.keep_form.result (sym sizes ∙ c.in_ok-form.ensures.faults)
    (finds_later (not_frozen r (form_of a).mixed) (no_clause r (form_of a)) c.keep_form.result (ap (not_frozen r) (sym mixed) ∙ c.in_ok-freeze.ensures)
    (subst (λ (f : Linear). Finds (no_clause r f) c.keep_form.result) form c.keep_form.ensures))
