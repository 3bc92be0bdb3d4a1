use Rattle.std.proofs.Common.{◌≡◌, ℤ, refl, subst, ◌∙◌}
use Rattle.std.specs.Prelude.{IsTrue, IsSome}
use Rattle.homeo_lemmas.proofs.Options.{if_some}
use Rattle.homeo_syntax.specs.Listed.{Listed}
use Rattle.homeo_syntax.specs.SourceView.{plain_workload}
use Rattle.homeo_round.specs.PlusDeltas.{plus_deltas}
use Rattle.homeo_live.proofs.Fitting.{all_in, fitting, as_many, sum_fits, sum_in}
use Rattle.homeo_live.proofs.fits.values_fit.Goals as goal
use Rattle.homeo_live.proofs.fits.values_fit.Goals.{then-not-are_in-via-then-not-are_in, then-not-are_in-via-else-not-are_in+then-deltas-bounds}

pub returns-then-not-are_in-clause-no : goal.returns-then-not-are_in-clause-no
returns-then-not-are_in-clause-no c fit =
    let w = plain_workload c.args.w.now in
    elim c.then-not-are_in.branch [
      | then-not-are_in-via-then-not-are_in v ↦ subst IsTrue v.if-not-are_in.true (c.are_in.ensures.no (all_in w c.args.bounds.now c.requires.bounds c.args.base.now fit.within))
      | then-not-are_in-via-else-not-are_in+then-deltas-bounds v ↦ absurd (v.if-deltas-bounds.true (as_many w c.args.bounds.now c.requires.bounds c.args.base.now c.args.deltas.now fit))
    ]

pub returns-in-Some-clause-yes : goal.returns-in-Some-clause-yes
returns-in-Some-clause-yes c told =
    let sum : c.in-Some.sum.items ≡ plus_deltas c.args.base.now c.args.deltas.now = if_some (λ (d : Listed ℤ). d.items ≡ plus_deltas c.args.base.now c.args.deltas.now) c.in_ok-sum.field-0 c.in-Some.sum c.in_ok-sum.ensures.sum c.in-Some.is in
    fitting (plain_workload c.args.w.now) c.args.bounds.now c.requires.bounds c.args.base.now c.args.deltas.now c.as_slice.result.now (c.if-not-are_in.ensures.yes refl) c.if-deltas-bounds.false (c.as_slice.ensures ∙ sum) (c.are_in-in-Some.ensures.yes told)

pub returns-in-Some-clause-no : goal.returns-in-Some-clause-no
returns-in-Some-clause-no c fit =
    let sum : c.in-Some.sum.items ≡ plus_deltas c.args.base.now c.args.deltas.now = if_some (λ (d : Listed ℤ). d.items ≡ plus_deltas c.args.base.now c.args.deltas.now) c.in_ok-sum.field-0 c.in-Some.sum c.in_ok-sum.ensures.sum c.in-Some.is in
    c.are_in-in-Some.ensures.no (sum_in (plain_workload c.args.w.now) c.args.bounds.now c.requires.bounds c.args.base.now c.args.deltas.now fit c.as_slice.result.now (c.as_slice.ensures ∙ sum))

pub returns-in-None-clause-no : goal.returns-in-None-clause-no
returns-in-None-clause-no c fit =
    subst IsSome c.in-None.is (c.in_ok-sum.ensures.fits (sum_fits (plain_workload c.args.w.now) c.args.bounds.now c.requires.bounds c.args.base.now c.args.deltas.now fit c.client_count-clients.ensures.accepted))
