use Rattle.std.proofs.Common.{ap, length}
use Rattle.homeo_rules.proofs.Joining.{entered-all}
use Rattle.homeo_rules.proofs.decision.global_names.Goals as goal

pub returns : goal.returns
returns c =
    entered-all c.args.w.now (length c.as_slice.result.now) c.in_ok-items.items c.enter_objects.new.t c.enter_relations.new.t c.enter_transactions.new.t c.enter_clients.new.t c.as_slice-2.result.now c.as_slice-3.result.now c.as_slice-4.result.now c.as_slice-5.result.now c.requires (ap length c.as_slice.ensures) c.in_ok-items.ensures c.as_slice-2.ensures c.as_slice-3.ensures c.as_slice-4.ensures c.as_slice-5.ensures c.enter_objects.ensures c.enter_relations.ensures c.enter_transactions.ensures c.enter_clients.ensures
