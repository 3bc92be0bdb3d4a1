use Rattle.homeo_wire.specs.Key.{definitions}
use Rattle.std.proofs.Common.{◌≡◌, sym, subst}
use Rattle.std.specs.Prelude.{IfOk, OnOk}
use Rattle.homeo_syntax.specs.SourceView.{plain_workload}
use Rattle.homeo_wire.specs.Nodes.{happens}
use Rattle.homeo_wire.specs.WireView.{CanHappen, plain_step}
use Rattle.homeo_wire.proofs.wire.Wire.event.Goals as goal

pub call-requires : goal.call-requires
unfolding definitions
call-requires c = subst (CanHappen (plain_workload c.args.self.now.work) c.args.self.now.world) c.in-Call.is c.requires

pub deliver-requires-clause-site : goal.deliver-requires-clause-site
unfolding definitions
deliver-requires-clause-site c = (subst (CanHappen (plain_workload c.args.self.now.work) c.args.self.now.world) c.in-Deliver.is c.requires).0

pub deliver-requires-clause-packet : goal.deliver-requires-clause-packet
unfolding definitions
deliver-requires-clause-packet c = (subst (CanHappen (plain_workload c.args.self.now.work) c.args.self.now.world) c.in-Deliver.is c.requires).1

pub returns-in-Call-clause-step : goal.returns-in-Call-clause-step
returns-in-Call-clause-step c =
    subst (λ e. IfOk c.call.result (λ s. plain_step s ≡ (happens (plain_workload c.args.self.now.work) c.args.self.now.world e).step)) (sym c.in-Call.is) c.call.ensures.step

pub returns-in-Call-clause-world : goal.returns-in-Call-clause-world
returns-in-Call-clause-world c =
    subst (λ e. OnOk c.call.result (c.call.new.self.world ≡ (happens (plain_workload c.args.self.now.work) c.args.self.now.world e).world)) (sym c.in-Call.is) c.call.ensures.world

pub returns-in-Deliver-clause-step : goal.returns-in-Deliver-clause-step
returns-in-Deliver-clause-step c =
    subst (λ e. IfOk c.deliver.result (λ s. plain_step s ≡ (happens (plain_workload c.args.self.now.work) c.args.self.now.world e).step)) (sym c.in-Deliver.is) c.deliver.ensures.step

pub returns-in-Deliver-clause-world : goal.returns-in-Deliver-clause-world
returns-in-Deliver-clause-world c =
    subst (λ e. OnOk c.deliver.result (c.deliver.new.self.world ≡ (happens (plain_workload c.args.self.now.work) c.args.self.now.world e).world)) (sym c.in-Deliver.is) c.deliver.ensures.world
