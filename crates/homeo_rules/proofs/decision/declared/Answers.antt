use Rattle.std.proofs.Common.{◌∙◌, ap, length}
use Rattle.homeo_meaning.specs.NumberRules.{site_weight_faults}
use Rattle.homeo_rules.specs.inner.Callers.{client_faults_of, transaction_faults_of}
use Rattle.homeo_rules.specs.inner.Deciding.{keep_all}
use Rattle.homeo_rules.specs.inner.Listwise.{along_all}
use Rattle.homeo_rules.specs.inner.Relations.{relation_faults_of}
use Rattle.homeo_rules.specs.inner.Scopes.{scope_in}
use Rattle.homeo_rules.proofs.Joining.{transactions-named, declared-along}
use Rattle.homeo_rules.proofs.decision.declared.Goals as goal

pub check_transactions-requires : goal.check_transactions-requires
check_transactions-requires c = transactions-named c.args.w.now (length c.as_slice-names.result.now) c.as_slice-3.result.now c.requires.formed (ap length c.as_slice-names.ensures) c.as_slice-3.ensures

pub returns : goal.returns
returns c =
    let clients = c.check_clients-best.ensures
    ∙ ap (λ b. along_all (client_faults_of c.args.w.now.sites (scope_in c.args.scope.now) c.as_slice-5.result.now) b c.as_slice-4.result.now) (c.in_ok-best-2.ensures ∙ ap (λ b. along_all (transaction_faults_of (scope_in c.args.scope.now)) b c.as_slice-3.result.now) (c.in_ok-best.ensures ∙ ap (λ b. along_all relation_faults_of b c.as_slice-2.result.now) c.check_objects-best.ensures)) in
    c.check_site_weights.ensures ∙ ap (λ b. keep_all b (site_weight_faults c.args.w.now.sites c.as_slice-6.result.now)) clients
    ∙ declared-along c.args.w.now (scope_in c.args.scope.now) c.args.best c.as_slice.result.now c.as_slice-2.result.now c.as_slice-3.result.now c.as_slice-5.result.now c.as_slice-4.result.now c.as_slice-6.result.now c.requires.names c.as_slice.ensures c.as_slice-2.ensures c.as_slice-3.ensures c.as_slice-5.ensures c.as_slice-4.ensures c.as_slice-6.ensures
