use Rattle.std.proofs.Common.{rules}
use Rattle.homeo_eval.proofs.Lookups.{client_exists, call_here}
use Rattle.homeo_eval.proofs.runs.find_call.Goals as goal

pub bounds-as_slice-id : goal.bounds-as_slice-id
bounds-as_slice-id c = client_exists c.args.workload.now c.args.id c.as_slice.result.now c.as_slice.ensures c.requires

pub overflow_sub-result : goal.overflow_sub-result
overflow_sub-result c =
    (call_here c.args.workload.now c.args.id c.as_slice.result.now c.index-as_slice-id.result c.as_slice-2.result.now c.as_slice.ensures (client_exists c.args.workload.now c.args.id c.as_slice.result.now c.as_slice.ensures c.requires) c.index-as_slice-id.is c.as_slice-2.ensures c.requires).counted

pub bounds-as_slice-id-2 : goal.bounds-as_slice-id-2
bounds-as_slice-id-2 c =
    (call_here c.args.workload.now c.args.id c.as_slice.result.now c.index-as_slice-id.result c.as_slice-2.result.now c.as_slice.ensures (client_exists c.args.workload.now c.args.id c.as_slice.result.now c.as_slice.ensures c.requires) c.index-as_slice-id.is c.as_slice-2.ensures c.requires).within

pub offset_bounds-as_slice-id-2 : goal.offset_bounds-as_slice-id-2
offset_bounds-as_slice-id-2 c =
    let h = (call_here c.args.workload.now c.args.id c.as_slice.result.now c.index-as_slice-id.result c.as_slice-2.result.now c.as_slice.ensures (client_exists c.args.workload.now c.args.id c.as_slice.result.now c.as_slice.ensures c.requires) c.index-as_slice-id.is c.as_slice-2.ensures c.requires).within in
    let k = c.as_slice-2.type_inv in
    search rules

pub returns : goal.returns
returns c =
    (call_here c.args.workload.now c.args.id c.as_slice.result.now c.index-as_slice-id.result c.as_slice-2.result.now c.as_slice.ensures (client_exists c.args.workload.now c.args.id c.as_slice.result.now c.as_slice.ensures c.requires) c.index-as_slice-id.is c.as_slice-2.ensures c.requires).found c.index-as_slice-id-2.result c.index-as_slice-id-2.is
