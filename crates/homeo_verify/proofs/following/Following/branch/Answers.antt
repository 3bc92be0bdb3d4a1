-- The forms of all tests, and then the comparisons that keep them.
use Rattle.std.proofs.Common.{◌≡◌, List, ap, sym, ◌∙◌, subst}
use Rattle.std.specs.List.{flat_map}
use Rattle.homeo_syntax.specs.LowView.{plain_lcond}
use Rattle.homeo_plan.specs.Each.{Each}
use Rattle.homeo_verify.specs.declared.conditions.Compared.{Compared}
use Rattle.homeo_certificate.specs.declared.fault.Fault.{Fault}
use Rattle.homeo_certificate.specs.Met.{met_in_cond}
use Rattle.homeo_certificate.specs.Kept.{Atom, kept}
use Rattle.homeo_certificate.specs.Followed.{Rules, too_large, atom_faults}
use Rattle.homeo_verify.specs.inner.Compares.{atoms_of, AreSmall}
use Rattle.homeo_verify.specs.inner.Follows.{rules_in, forms_in}
use Rattle.homeo_verify.proofs.FlatSteps.{flat_stops, flat_goes_on, flat_ends, flat_twice, each_here}
use Rattle.homeo_verify.proofs.Stopping.{stop_with, stops_as, stop_sooner, stop_later, none_in_both}
use Rattle.homeo_verify.proofs.following.Following.branch.Goals as goal

-- the faults of what keeps a comparison
abbrev compared_faults : Rules → Compared → List Fault
compared_faults r x = flat_map (atom_faults r) (atoms_of x)

all_faults :
    (r : Rules) (cs xs : List Compared) (atoms : List Atom) → cs ≡ xs → flat_map atoms_of xs ≡ atoms →
    flat_map (compared_faults r) cs ≡ flat_map (atom_faults r) atoms
all_faults r cs xs atoms is all = flat_twice (atom_faults r) atoms_of cs ∙ ap (flat_map (atom_faults r)) (ap (flat_map atoms_of) is ∙ all)

pub returns-in_err-tested-clause-faults : goal.returns-in_err-tested-clause-faults
returns-in_err-tested-clause-faults c =
    let s = c.args.self.now in
    let b = plain_lcond c.args.test.now in
    stop_with _ c.from_residual.result _ c.from_residual.ensures.1
    (stop_sooner (too_large (met_in_cond (forms_in s) b)) (flat_map (atom_faults (rules_in s)) (kept (forms_in s) b)) _ c.in_err-tested.ensures.faults)

pub keep_compared-requires : goal.keep_compared-requires
keep_compared-requires c =
    each_here AreSmall c.deref-compared-items.result.now c.loop-compared.compared-index c.compared-item.result c.loop-compared-test.true c.compared-item.is
    (subst (Each AreSmall) (sym c.deref-compared-items.ensures.value) c.in_ok-tested.ensures.kept.small)

pub returns-in_err-keep_compared-clause-faults : goal.returns-in_err-keep_compared-clause-faults
returns-in_err-keep_compared-clause-faults c =
    let s = c.args.self.now in
    let b = plain_lcond c.args.test.now in
    let cs = c.deref-compared-items.result.now in
    let all = all_faults (rules_in s) cs _ _ c.deref-compared-items.ensures.value c.in_ok-tested.ensures.kept.atoms in
    stop_with _ c.from_residual-in_err-keep_compared.result _ c.from_residual-in_err-keep_compared.ensures.1
    (stop_later (too_large (met_in_cond (forms_in s) b)) (flat_map (atom_faults (rules_in s)) (kept (forms_in s) b)) _ c.in_ok-tested.ensures.faults
    (stops_as _ _ _ all
    (flat_stops (compared_faults (rules_in s)) cs c.loop-compared.compared-index c.compared-item.result c.compared-item.result c.loop-compared-test.true c.compared-item.is c.loop-compared.invariant _ c.in_err-keep_compared.ensures)))

pub loop-compared-preserved : goal.loop-compared-preserved
loop-compared-preserved c =
    flat_goes_on (λ x. flat_map (atom_faults (rules_in c.args.self.now)) (atoms_of x)) c.deref-compared-items.result.now c.loop-compared.compared-index c.compared-item.result c.compared-item.result
    c.loop-compared-test.true c.compared-item.is c.loop-compared.invariant c.in_ok-keep_compared.ensures

pub returns-clause-faults : goal.returns-clause-faults
returns-clause-faults c =
    let s = c.args.self.now in
    let b = plain_lcond c.args.test.now in
    let cs = c.deref-compared-items.result.now in
    let all = all_faults (rules_in s) cs _ _ c.deref-compared-items.ensures.value c.in_ok-tested.ensures.kept.atoms in
    none_in_both (too_large (met_in_cond (forms_in s) b)) (flat_map (atom_faults (rules_in s)) (kept (forms_in s) b)) c.in_ok-tested.ensures.faults
    (sym all ∙ flat_ends (compared_faults (rules_in s)) cs c.loop-compared.compared-index c.loop-compared-test.false c.loop-compared.invariant)
