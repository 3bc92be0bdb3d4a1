-- The forms of both sides, one after the other.
use Rattle.std.proofs.Common.{◌++◌, [], ◌∷◌, sym, ap, ◌∙◌, refl}
use Rattle.homeo_syntax.specs.LowView.{plain_lexpr}
use Rattle.homeo_form.specs.Standing.{forms_of}
use Rattle.homeo_certificate.specs.Key.{definitions}
use Rattle.homeo_verify.specs.declared.conditions.Compared.{Compared}
use Rattle.homeo_certificate.specs.Met.{met}
use Rattle.homeo_verify.proofs.LargeNumbers.{large_behind, large_in_front, none_large}
use Rattle.homeo_verify.proofs.Stopping.{stop_with, stops_as}
use Rattle.homeo_verify.proofs.TestSteps.{comparison_passes, comparison_gives}
use Rattle.homeo_verify.proofs.conditions.comparison.Goals as goal

pub returns-in_err-left-clause-faults : goal.returns-in_err-left-clause-faults
unfolding definitions
returns-in_err-left-clause-faults c =
    let f = forms_of c.args.standing.now in
    stop_with _ c.from_residual.result _ c.from_residual.ensures.1
    (large_in_front (met f (plain_lexpr c.args.left.now)) (met f (plain_lexpr c.args.right.now)) _ c.in_err-left.ensures.faults)

pub returns-in_err-right-clause-faults : goal.returns-in_err-right-clause-faults
unfolding definitions
returns-in_err-right-clause-faults c =
    let f = forms_of c.args.standing.now in
    stop_with _ c.from_residual-in_err-right.result _ c.from_residual-in_err-right.ensures.1
    (stops_as _ _ _ (sym (large_behind (met f (plain_lexpr c.args.left.now)) (met f (plain_lexpr c.args.right.now)) c.in_ok-left.ensures.faults))
    c.in_err-right.ensures.faults)

pub returns-clause-faults : goal.returns-clause-faults
unfolding definitions
returns-clause-faults c =
    let f = forms_of c.args.standing.now in
    none_large (met f (plain_lexpr c.args.left.now)) (met f (plain_lexpr c.args.right.now)) c.in_ok-left.ensures.faults c.in_ok-right.ensures.faults

pub returns-clause-holds : goal.returns-clause-holds
returns-clause-holds c =
    let f = forms_of c.args.standing.now in
    c.is_true-holds.ensures
    ∙ comparison_passes f c.args.op (plain_lexpr c.args.left.now) (plain_lexpr c.args.right.now) c.in_ok-left.left c.in_ok-right.right
    c.in_ok-left.ensures.form c.in_ok-right.ensures.form

pub returns-clause-kept : goal.returns-clause-kept
returns-clause-kept c =
    let one : Compared = record { op = c.args.op; left = c.in_ok-left.left; right = c.in_ok-right.right; holds = c.is_true-holds.result } in
    comparison_gives (forms_of c.args.standing.now) c.args.op (plain_lexpr c.args.left.now) (plain_lexpr c.args.right.now) one c.push.new.self.items
    (c.in_ok-push.ensures.items ∙ ap (λ l. l ++ one ∷ []) c.new-compared.ensures.items) refl c.in_ok-left.ensures.form c.in_ok-right.ensures.form (returns-clause-holds c)
    (record { left = c.in_ok-left.ensures.small; right = c.in_ok-right.ensures.small })
