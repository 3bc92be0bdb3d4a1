use Rattle.std.proofs.Common.{◌∷◌, [], map, subst, sym}
use Rattle.std.specs.Prelude.{Contains, IfSome}
use Rattle.std.proofs.lemmas.List.{map-append}
use Rattle.homeo_nodes.specs.Nodes as n
use Rattle.homeo_live.specs.LiveView.{plain_packet}
use Rattle.homeo_desk.specs.Outputs.{Gives}
use Rattle.homeo_desk.proofs.Giving.{gives_nothing, gives_then}
use Rattle.homeo_desk.proofs.Resending.{stop_more}
use Rattle.homeo_desk.proofs.sending.let_out_all.Goals as goal

pub loop-packet-init : goal.loop-packet-init
loop-packet-init c = record { gives = gives_nothing _ _; chosen = tt }

pub loop-packet-preserved : goal.loop-packet-preserved
loop-packet-preserved c =
    let all = map-append plain_packet c.loop-packet.yielded (c.in-Some.packet ∷ []) in
    record {
      gives = subst (λ ps. Gives ps [] c.args.outputs.now.items c.let_out.new.outputs.items) (sym all)
          (gives_then (map plain_packet c.loop-packet.yielded) (plain_packet c.in-Some.packet ∷ []) [] [] _ _ _ c.loop-packet.invariant.gives c.in_ok-let_out.ensures);
      chosen = subst (λ ps. IfSome c.stop_in-chosen.result (λ b. Contains ps (n.Stop b))) (sym all)
          (stop_more (map plain_packet c.loop-packet.yielded) (plain_packet c.in-Some.packet) c.loop-packet.chosen c.stop_in-chosen.result c.loop-packet.invariant.chosen c.stop_in-chosen.ensures);
    }
