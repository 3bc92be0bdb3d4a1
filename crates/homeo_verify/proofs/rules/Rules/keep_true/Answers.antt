-- What keeps each kind of comparison.
use Rattle.std.proofs.Common.{◌++◌, [], pos, ap, sym, subst}
use Rattle.std.specs.List.{flat_map}
use Rattle.homeo_certificate.specs.Key.{definitions}
use Rattle.homeo_certificate.specs.Kept.{atom, kept_true}
use Rattle.homeo_certificate.specs.Followed.{atom_faults}
use Rattle.homeo_verify.specs.inner.RulesView.{plain_rules}
use Rattle.homeo_verify.specs.inner.Stops.{Finds}
use Rattle.homeo_form.proofs.RunningSums.{zero_small}
use Rattle.homeo_verify.proofs.RuleSteps.{one_is_small}
use Rattle.homeo_verify.proofs.Stopping.{stop_with, stops_as, stop_sooner, finds_one, finds_later}
use Rattle.homeo_verify.proofs.rules.Rules.keep_true.Goals as goal

pub keep-requires-clause-more : goal.keep-requires-clause-more
keep-requires-clause-more c = one_is_small

pub keep-requires-in-LessEqual-clause-more : goal.keep-requires-in-LessEqual-clause-more
keep-requires-in-LessEqual-clause-more c = zero_small

pub keep-requires-in-Equal-clause-more : goal.keep-requires-in-Equal-clause-more
keep-requires-in-Equal-clause-more c = zero_small

pub keep-requires-in-Equal-2-clause-more : goal.keep-requires-in-Equal-2-clause-more
keep-requires-in-Equal-2-clause-more c = zero_small

pub returns-in-Less : goal.returns-in-Less
unfolding definitions
returns-in-Less c =
    subst (λ o. Finds (flat_map (atom_faults (plain_rules c.args.self.now)) (kept_true o c.args.left.now c.args.right.now)) c.keep.result) (sym c.in-Less.is)
    (finds_one _ c.keep.result c.keep.ensures)

pub returns-in-LessEqual : goal.returns-in-LessEqual
unfolding definitions
returns-in-LessEqual c =
    subst (λ o. Finds (flat_map (atom_faults (plain_rules c.args.self.now)) (kept_true o c.args.left.now c.args.right.now)) c.keep-in-LessEqual.result) (sym c.in-LessEqual.is)
    (finds_one _ c.keep-in-LessEqual.result c.keep-in-LessEqual.ensures)

pub returns-in_err-keep-in-Equal : goal.returns-in_err-keep-in-Equal
unfolding definitions
returns-in_err-keep-in-Equal c =
    let f = atom_faults (plain_rules c.args.self.now) in
    let a = c.args.left.now in
    let b = c.args.right.now in
    stop_with _ c.from_residual.result _ c.from_residual.ensures.1
    (stops_as _ _ _ (ap (λ o. flat_map f (kept_true o a b)) (sym c.in-Equal.is))
    (stop_sooner (f (atom a b (pos 0))) (f (atom b a (pos 0)) ++ []) _ c.in_err-keep-in-Equal.ensures))

pub returns-in_ok-keep-in-Equal : goal.returns-in_ok-keep-in-Equal
unfolding definitions
returns-in_ok-keep-in-Equal c =
    let f = atom_faults (plain_rules c.args.self.now) in
    let a = c.args.left.now in
    let b = c.args.right.now in
    subst (λ o. Finds (flat_map f (kept_true o a b)) c.keep-in-Equal-2.result) (sym c.in-Equal.is)
    (finds_later (f (atom a b (pos 0))) (f (atom b a (pos 0)) ++ []) c.keep-in-Equal-2.result c.in_ok-keep-in-Equal.ensures
    (finds_one (f (atom b a (pos 0))) c.keep-in-Equal-2.result c.keep-in-Equal-2.ensures))
