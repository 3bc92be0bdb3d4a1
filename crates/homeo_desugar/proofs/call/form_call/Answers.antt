-- The body's L form is that of the transaction.
use Rattle.std.proofs.lemmas.Result.{IfOk-weaker}
use Rattle.homeo_syntax.specs.LowView.{plain_lcommand}
use Rattle.homeo_desugar.proofs.Looking.{transaction_formed}
use Rattle.homeo_desugar.proofs.call.form_call.Goals as goal

pub returns : goal.returns
returns c =
    IfOk-weaker c.form_body.result _ _
    (λ r h. transaction_formed c.args.t.now c.args.declared.now c.in_ok-arguments.arguments.items c.as_slice-2.result.now c.as_slice.result.now c.args.args.now c.as_slice-3.result.now (plain_lcommand r) c.as_slice.ensures c.as_slice-3.ensures c.as_slice-2.ensures.value c.in_ok-arguments.ensures h)
    c.form_body.ensures
