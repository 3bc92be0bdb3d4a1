-- The workload is that of the definition.
use Rattle.std.proofs.Common.{[], ◌∷◌, None, pos, map, ap, ◌∙◌}
use Rattle.std.proofs.lemmas.Result.{IfOk-at_ok}
use Rattle.homeo_syntax.specs.Key.{definitions as syntax_definitions}
use Rattle.homeo_syntax.specs.SourceView.{plain_relation, plain_transaction, plain_client}
use Rattle.homeo_plan_tests.specs.inner.Example.{number}
use Rattle.homeo_plan_tests.proofs.Example.{pushed}
use Rattle.homeo_plan_tests.proofs.evaluation.workload.Goals as goal

pub returns : goal.returns
unfolding syntax_definitions
returns g c =
    let one = pushed c.new-names.result c.push.new.self [] c.expect-stock.result (ap (λ l. l.items) c.new-names.ensures) (IfOk-at_ok _ c.expect.ensures c.push.ensures.ok) in
    let two = pushed c.push.new.self c.push-2.new.self _ c.expect-sell.result one (IfOk-at_ok _ c.expect-2.ensures c.push-2.ensures.ok) in
    let three = pushed c.push-2.new.self c.push-3.new.self _ c.expect-amount.result two (IfOk-at_ok _ c.expect-3.ensures c.push-3.ensures.ok) in
    let four = pushed c.push-3.new.self c.push-4.new.self _ c.expect-cashier.result three (IfOk-at_ok _ c.expect-4.ensures c.push-4.ensures.ok) in
    let stock = IfOk-at_ok _ c.expect-stock.ensures c.of.ensures in
    let sell = IfOk-at_ok _ c.expect-sell.ensures c.of-2.ensures in
    let amount = IfOk-at_ok _ c.expect-amount.ensures c.of-3.ensures in
    let cashier = IfOk-at_ok _ c.expect-cashier.ensures c.of-4.ensures in
    let names = four ∙ (λ i. stock i ∷ sell i ∷ amount i ∷ cashier i ∷ []) in
    let objects = pushed c.new-objects.result c.push-5.new.self [] _ (ap (λ l. l.items) c.new-objects.ensures) (IfOk-at_ok _ c.expect-5.ensures c.push-5.ensures.ok) in
    let transactions = pushed c.new-transactions.result c.push-6.new.self [] c.sale_of_1_to_3-transaction.result (ap (λ l. l.items) c.new-transactions.ensures) (IfOk-at_ok _ c.expect-6.ensures c.push-6.ensures.ok) in
    let clients = pushed c.new-clients.result c.push-7.new.self [] c.two_sales-client.result (ap (λ l. l.items) c.new-clients.ensures) (IfOk-at_ok _ c.expect-7.ensures c.push-7.ensures.ok) in
    let plain_transactions = ap (map plain_transaction) transactions ∙ (λ i. c.sale_of_1_to_3-transaction.ensures i ∷ []) in
    let plain_clients = ap (map plain_client) clients ∙ (λ i. c.two_sales-client.ensures i ∷ []) in
    λ i. record {
      version = 1;
      names = names i;
      sites = number (pos 1);
      objects = objects i;
      relations = map plain_relation (c.new.ensures i).items;
      transactions = plain_transactions i;
      clients = plain_clients i;
      schedule = None;
      end = 0;
      weights = (c.new-2.ensures i).items;
    }
