-- An accepted workload's schema fits, and the call's form is that of its transaction.
use Rattle.std.proofs.Common.{sym, subst, ap}
use Rattle.std.specs.Prelude.{IsSome, slice_get}
use Rattle.std.proofs.lemmas.Result.{IfOk-weaker}
use Rattle.homeo_syntax.specs.SourceView.{plain_workload}
use Rattle.homeo_syntax.specs.LowView.{plain_lcommand}
use Rattle.homeo_meaning.specs.Ground.{plain_ground}
use Rattle.homeo_meaning.specs.Key.{definitions as meaning_definitions}
use Rattle.homeo_lform.proofs.Means.{means}
use Rattle.homeo_desugar.proofs.Looking.{schema_fits, call_formed}
use Rattle.homeo_desugar.proofs.call.desugar.Goals as goal

pub find-transaction-requires : goal.find-transaction-requires
find-transaction-requires c =
    subst (λ w. IsSome (slice_get (plain_workload w).transactions c.args.call.now.transaction)) (sym c.workload-workload.ensures.value) c.requires.exists

pub form_call-requires : goal.form_call-requires
unfolding meaning_definitions
form_call-requires c =
    schema_fits c.args.w.now c.args.declared.now.schema (ap (λ d. d.schema) c.requires.declared) c.workload-workload.ensures.accepted

pub returns-clause-form : goal.returns-clause-form
unfolding meaning_definitions
returns-clause-form c =
    IfOk-weaker c.form_call.result _ _
    (λ r e. call_formed c.args.w.now c.workload-workload.result.now (plain_ground c.args.call.now) c.find-transaction.result.now c.args.declared.now.schema c.as_slice.result.now (plain_lcommand r) c.workload-workload.ensures.value c.find-transaction.ensures (ap (λ d. d.schema) c.requires.declared) c.as_slice.ensures e)
    c.form_call.ensures

pub returns-clause-means : goal.returns-clause-means
returns-clause-means c =
    IfOk-weaker c.form_call.result _ _
    (λ r e. means (plain_workload c.args.w.now) (plain_ground c.args.call.now) (plain_lcommand r) e)
    (returns-clause-form c)
