-- The count is of the call's context.
use Rattle.std.proofs.Common.{◌<◌, arith}
use Rattle.std.proofs.lemmas.Bool.Decides.{nat_tests}
use Rattle.homeo_size.specs.inner.Tables.{context_of}
use Rattle.homeo_size.proofs.Called.{call_is, transaction_large}
use Rattle.homeo_size.proofs.nodes.is_too_large.Goals as goal

pub returns : goal.returns
returns c many =
    let called = context_of c.of_call-frame.result in
    let is = call_is c.args.layout.now c.args.t.now c.args.args.now c.as_slice.result.now c.in_ok-values.values.items c.as_slice-2.result.now c.in_ok-arguments.arguments.items c.as_slice-3.result.now called c.as_slice.ensures c.in_ok-values.ensures c.as_slice-2.ensures.value c.as_slice-3.ensures.value c.in_ok-arguments.ensures c.of_call-frame.ensures in
    let large : 200000 < c.commands_nodes.result = grind (arith, nat_tests) in
    transaction_large c.args.layout.now c.args.t.now c.args.args.now c.as_slice-4.result.now called c.args.sites c.commands_nodes.result c.as_slice-4.ensures is c.commands_nodes.ensures large
