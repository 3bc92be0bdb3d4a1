-- The lowest number that doesn't fit is a site, or past the last of them.
use Rattle.std.proofs.Common.{length, ap, ◌∙◌, sym, arith}
use Rattle.homeo_merge.proofs.Picking.{misfit_within, misfit_past, all_fit, lower_more}
use Rattle.homeo_merge.proofs.merge.find_misfit.Goals as goal

pub returns-then-chosen-length-clause-misfit : goal.returns-then-chosen-length-clause-misfit
returns-then-chosen-length-clause-misfit c =
    let site = c.loop-site in
    let s = c.index-segments-site in
    misfit_within c.args.segments.now c.args.choice.now site.site _ _ s.result c.loop-site-test.true s.is c.times_in-chosen.ensures
    (ap length c.as_slice.ensures) c.if-chosen-length.true site.invariant

pub loop-site-preserved : goal.loop-site-preserved
loop-site-preserved c =
    let site = c.loop-site in
    let s = c.index-segments-site in
    lower_more c.args.segments.now c.args.choice.now site.site s.result c.loop-site-test.true s.is
    (sym c.times_in-chosen.ensures ∙ c.if-chosen-length.false ∙ ap length c.as_slice.ensures) site.invariant

pub returns-in-Some-clause-misfit : goal.returns-in-Some-clause-misfit
returns-in-Some-clause-misfit c =
    misfit_past c.args.segments.now c.args.choice.now c.in-Some.site _ c.in-Some.ensures c.times_in.ensures
    (λ i lt. c.loop-site.invariant i (omega (arith, lt, c.loop-site-test.false)))

pub returns-in-None-clause-fits : goal.returns-in-None-clause-fits
returns-in-None-clause-fits c = λ e.
    all_fit c.args.segments.now c.args.choice.now c.in-None.ensures
    (λ i lt. c.loop-site.invariant i (omega (arith, lt, c.loop-site-test.false)))
