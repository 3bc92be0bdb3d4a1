-- The first clause fits its bounds, or not.
use Rattle.std.proofs.Common.{map, sym, ap, ◌∙◌}
use Rattle.homeo_plan.specs.PlanView.{plain_clause}
use Rattle.homeo_certificate.specs.Verdict.{fits_slack, first_of_all}
use Rattle.homeo_cert_reader.proofs.ReadLists.{row}
use Rattle.homeo_verify.proofs.Verdicts.{none_mapped, no_misfit_left, no_row_left, misfit_here, misfit_further}
use Rattle.homeo_verify.proofs.verifying.misfit.Goals as goal

pub returns-in_default-split_first : goal.returns-in_default-split_first
returns-in_default-split_first c =
    sym c.loop-clause.invariant ∙ no_row_left c.loop-clause.number (map plain_clause c.loop-clause.clauses.now) (map row c.loop-clause.bounds.now)
    (none_mapped row c.loop-clause.bounds.now c.in_default-split_first.ensures.cases)

pub returns-then-not-fits : goal.returns-then-not-fits
returns-then-not-fits c =
    let clause = plain_clause c.in-Some.clause.now in
    ap first_of_all (sym c.loop-clause.invariant)
    ∙ misfit_here c.loop-clause.number clause (map plain_clause c.in-Some.more_clauses.now) (map plain_clause c.loop-clause.clauses.now)
    (row c.in-Some-split_first.row.now) (map row c.in-Some-split_first.more_bounds.now) (map row c.loop-clause.bounds.now)
    (ap (map plain_clause) c.in-Some.ensures.cases.0) (ap (map row) c.in-Some-split_first.ensures.cases.0) c.fits.result
    (c.fits.ensures ∙ ap (fits_slack clause) c.as_slice.ensures.value) c.if-not-fits.true

pub loop-clause-preserved : goal.loop-clause-preserved
loop-clause-preserved c =
    let clause = plain_clause c.in-Some.clause.now in
    misfit_further c.loop-clause.number clause (map plain_clause c.in-Some.more_clauses.now) (map plain_clause c.loop-clause.clauses.now)
    (row c.in-Some-split_first.row.now) (map row c.in-Some-split_first.more_bounds.now) (map row c.loop-clause.bounds.now)
    (ap (map plain_clause) c.in-Some.ensures.cases.0) (ap (map row) c.in-Some-split_first.ensures.cases.0) c.fits.result
    (c.fits.ensures ∙ ap (fits_slack clause) c.as_slice.ensures.value) c.if-not-fits.false
    c.in_ok-number.number c.in_ok-number.ensures
    ∙ c.loop-clause.invariant

pub returns : goal.returns
returns c =
    sym c.loop-clause.invariant ∙ no_misfit_left c.loop-clause.number (map plain_clause c.loop-clause.clauses.now) (map row c.loop-clause.bounds.now)
    (none_mapped plain_clause c.loop-clause.clauses.now c.in_default.ensures.cases)
