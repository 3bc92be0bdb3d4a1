use Rattle.std.proofs.Common.{◌≤◌, min, length, arith, rules}
use Rattle.homeo_context.proofs.Given.{bound_all}
use Rattle.homeo_context.proofs.arguments.bind.Goals as goal

pub returns : goal.returns
returns c =
    let enough : min (length c.args.params.now) (length c.args.values.now) ≤ c.loop-index.index = search (rules, arith) in
    bound_all c.args.params.now c.args.values.now c.loop-index.bound.items c.loop-index.index enough c.loop-index.invariant.names c.loop-index.invariant.values
