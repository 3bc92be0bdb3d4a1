use Rattle.homeo_wire.specs.Key.{definitions}
use Rattle.std.proofs.Common.{◌≡◌, ◌<◌, length, refl, sym, ap, subst, ◌∙◌, arith}
use Rattle.homeo_syntax.specs.SourceView.{plain_workload}
use Rattle.homeo_wire.specs.declared.events.Event.TheVariants.{Call}
use Rattle.homeo_wire.specs.Drive.{sweeps}
use Rattle.homeo_wire.specs.Nodes.{after, happens}
use Rattle.homeo_wire.proofs.Driving.{one_more, on_ok_map, each_then}
use Rattle.homeo_wire.proofs.driver.call_of_each.Goals as goal

pub event-requires : goal.event-requires
unfolding definitions
event-requires c =
    let count : c.client_count-client-end.result ≡ length (plain_workload c.args.wire.now.work).clients = c.client_count-client-end.ensures.count ∙ ap (λ v. length (plain_workload v).clients) c.workload.ensures.work in
    subst (λ v. c.loop-client.client < length (plain_workload v).clients) (sym c.loop-client.invariant.work) (omega (arith, c.loop-client-test.true, count))

pub loop-client-init : goal.loop-client-init
unfolding definitions
loop-client-init c = record { work = refl; world = refl }

pub loop-client-preserved : goal.loop-client-preserved
loop-client-preserved c =
    let w = plain_workload c.args.wire.now.work in
    let y = c.loop-client.wire.world in
    let z = c.event.new.self.world in
    let same : plain_workload c.loop-client.wire.work ≡ w = ap plain_workload c.loop-client.invariant.work in
    let is : z ≡ (happens w y (Call c.loop-client.client)).world = c.in_ok-event.ensures.world ∙ ap (λ v. (happens v y (Call c.loop-client.client)).world) same in record {
      work = c.in_ok-event.ensures.work ∙ c.loop-client.invariant.work;
      world = one_more w (λ client. Call client) c.args.wire.now.world y z c.loop-client.client c.loop-client.invariant.world is;
    }

pub returns-clause-world : goal.returns-clause-world
returns-clause-world c =
    let w = plain_workload c.args.wire.now.work in
    let count : c.client_count-client-end.result ≡ length w.clients = c.client_count-client-end.ensures.count ∙ ap (λ v. length (plain_workload v).clients) c.workload.ensures.work in
    let all : c.loop-client.client ≡ length w.clients = omega (arith, c.loop-client-test.false, c.loop-client.auto.client-end, count) in
    let same : plain_workload c.loop-client.wire.work ≡ w = ap plain_workload c.loop-client.invariant.work in
    on_ok_map c.sweeps.result _ _ (λ e. each_then w c.args.wire.now.world c.loop-client.wire.world c.sweeps.new.wire.world c.loop-client.client all c.loop-client.invariant.world (e ∙ ap (λ v. after v (sweeps v c.loop-client.wire.world 3) c.loop-client.wire.world) same)) c.sweeps.ensures.world
