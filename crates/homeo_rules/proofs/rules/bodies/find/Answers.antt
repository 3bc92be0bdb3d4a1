-- The transaction of the number is there.
use Rattle.std.proofs.Common.{rules}
use Rattle.homeo_meaning.proofs.TransactionPlaces.{transaction_here}
use Rattle.homeo_desugar.proofs.Looking.{number_within}
use Rattle.homeo_rules.proofs.rules.bodies.find.Goals as goal

pub bounds-as_slice-number : goal.bounds-as_slice-number
bounds-as_slice-number c = number_within c.args.workload.now c.as_slice.result.now c.args.number c.as_slice.ensures c.requires

pub offset_bounds-as_slice-number : goal.offset_bounds-as_slice-number
offset_bounds-as_slice-number c =
    let h = bounds-as_slice-number c in
    let k = c.as_slice.type_inv in
    search rules

pub returns : goal.returns
returns c =
    transaction_here c.args.workload.now c.as_slice.result.now c.args.number c.index-as_slice-number.result c.as_slice.ensures (number_within c.args.workload.now c.as_slice.result.now c.args.number c.as_slice.ensures c.requires) c.index-as_slice-number.is
