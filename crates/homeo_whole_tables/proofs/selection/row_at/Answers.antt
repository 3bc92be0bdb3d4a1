-- The first row that holds is the one, and a row that doesn't hold isn't.
use Rattle.homeo_split.specs.States.{state_of}
use Rattle.homeo_whole_tables.proofs.Held.{held-row, passed-row}
use Rattle.homeo_whole_tables.proofs.selection.row_at.Goals as goal

pub returns-then-holds-clause-holds : goal.returns-then-holds-clause-holds
returns-then-holds-clause-holds c =
    held-row (state_of c.args.base.now) c.args.rows.now c.loop-place.place c.index-rows-place.result _ c.loop-place-test.true
    c.index-rows-place.is c.loop-place.invariant c.if-holds.ensures

pub loop-place-preserved : goal.loop-place-preserved
loop-place-preserved c =
    passed-row (state_of c.args.base.now) c.args.rows.now c.loop-place.place c.index-rows-place.result _ c.loop-place-test.true
    c.index-rows-place.is c.loop-place.invariant c.if-holds.ensures
