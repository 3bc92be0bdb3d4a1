use Rattle.homeo_carry.specs.declared.said.Said.{Said}
use Rattle.homeo_carry.proofs.SumLists.{fold_next, fits_next}
use Rattle.homeo_carry.proofs.sums.add_said.Goals as goal

pub loop-said-preserved : goal.loop-said-preserved
loop-said-preserved c =
    fold_next (λ (s : Said). s.deltas.items) c.args.values.now c.args.states.now c.loop-said.said-index c.said-item.result c.loop-said-test.true c.said-item.is c.loop-said.values c.loop-said.invariant c.add_fits.new.values c.as_slice.result.now c.as_slice.ensures (c.add_fits.ensures.sum c.if-not-add_fits.false)

pub returns-then-not-add_fits-clause-fits : goal.returns-then-not-add_fits-clause-fits
returns-then-not-add_fits-clause-fits c fit =
    c.if-not-add_fits.ensures.fits (fits_next (λ (s : Said). s.deltas.items) c.args.values.now c.args.states.now c.loop-said.said-index c.said-item.result c.loop-said-test.true c.said-item.is c.loop-said.values c.loop-said.invariant c.as_slice.result.now c.as_slice.ensures fit)
