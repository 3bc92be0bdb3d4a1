use Rattle.homeo_wire.specs.Key.{definitions}
use Rattle.std.proofs.Common.{◌≡◌, ◌<◌, length, map, refl, sym, ap, subst, ◌∙◌, arith}
use Rattle.std.specs.List.{range_with_len}
use Rattle.homeo_syntax.specs.SourceView.{plain_workload}
use Rattle.homeo_plan.specs.Planned.{sites_of}
use Rattle.homeo_wire.specs.declared.events.Event.TheVariants.{Deliver}
use Rattle.homeo_wire.specs.Nodes.{after, happens}
use Rattle.homeo_wire.proofs.Driving.{one_more, packets_more}
use Rattle.homeo_wire.proofs.StalePackets.{stale_change_nothing}
use Rattle.homeo_wire.proofs.driver.deliver_all.Goals as goal

pub event-requires : goal.event-requires
unfolding definitions
event-requires c =
    let many = c.loop-packet.invariant.many in
    let sent = c.sent-packet-end.ensures in
    (subst (λ v. c.args.site < sites_of (plain_workload v)) (sym c.loop-packet.invariant.work) c.requires.site, omega (arith, c.loop-packet-test.true, many, sent))

pub loop-packet-init : goal.loop-packet-init
unfolding definitions
loop-packet-init c = record {
  work = refl;
  world = stale_change_nothing (plain_workload c.args.wire.now.work) c.args.wire.now.world c.args.stale c.args.site c.requires.stale c.args.stale (omega arith);
  many = omega arith;
}

pub loop-packet-preserved : goal.loop-packet-preserved
loop-packet-preserved c =
    let w = plain_workload c.args.wire.now.work in
    let y = c.loop-packet.wire.world in
    let z = c.event.new.self.world in
    let same : plain_workload c.loop-packet.wire.work ≡ w = ap plain_workload c.loop-packet.invariant.work in
    let is : z ≡ (happens w y (Deliver c.args.site c.loop-packet.packet)).world = c.in_ok-event.ensures.world ∙ ap (λ v. (happens v y (Deliver c.args.site c.loop-packet.packet)).world) same in
    let more = packets_more w y (Deliver c.args.site c.loop-packet.packet) in record {
      work = c.in_ok-event.ensures.work ∙ c.loop-packet.invariant.work;
      world = one_more w (λ packet. Deliver c.args.site packet) c.args.wire.now.world y z c.loop-packet.packet c.loop-packet.invariant.world is;
      many = let had = c.loop-packet.invariant.many in let now : length z.packets ≡ length (happens w y (Deliver c.args.site c.loop-packet.packet)).world.packets = ap (λ v. length v.packets) is in omega (arith, had, more, now);
    }

pub returns-clause-world : goal.returns-clause-world
unfolding definitions
returns-clause-world c =
    let w = plain_workload c.args.wire.now.work in
    let sent = c.sent-packet-end.ensures in
    let stale = c.requires.stale.sent in
    let last = c.loop-packet.auto.packet-end (omega (arith, sent, stale)) in
    let all : c.loop-packet.packet ≡ length c.args.wire.now.world.packets = omega (arith, c.loop-packet-test.false, last, sent) in
    c.loop-packet.invariant.world ∙ ap (λ k. after w (map (λ packet. Deliver c.args.site packet) (range_with_len 0 k)) c.args.wire.now.world) all
