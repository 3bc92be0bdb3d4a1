-- The prints are counted in a layout alone.
use Rattle.homeo_size.proofs.Called.{transaction_prints}
use Rattle.homeo_size.proofs.prints.count_prints.Goals as goal

pub returns : goal.returns
returns c =
    transaction_prints c.args.layout.now c.args.t.now c.as_slice.result.now _ _ _ c.all_prints.result c.as_slice.ensures c.of_call-frame.ensures c.all_prints.ensures
