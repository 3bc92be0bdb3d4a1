use Rattle.std.proofs.Common.{refl}
use Rattle.std.proofs.lemmas.Result.{on_ok_weaker}
use Rattle.homeo_syntax.specs.SourceView.{plain_workload}
use Rattle.homeo_lines.proofs.Sent.{then_field, both_sent, object_sent, field_as, each_seen}
use Rattle.std.specs.Prelude.{codes}
use Rattle.homeo_live.specs.LiveView.{plain_node}
use Rattle.homeo_lines.specs.LineView.{plain_answer, plain_state}
use Rattle.homeo_lines.specs.Written.{site_fields, closing_fields, given_data, state_fields}
use Rattle.homeo_lines.proofs.state_writing.DeskStateWritten.write.Goals as goal

pub returns : goal.returns
returns g c =
    let w = plain_workload c.args.catalogue.now in
    on_ok_weaker c.end_map.result (λ h. object_sent (state_fields w (plain_state c.args.self.now)) 13 (g.S.Serializer.written c.args.out.now) (g.S.Serializer.written c.end_map.new.self) refl c.in_ok-begin_map.ensures (then_field c.in_ok-write_member.ensures (both_sent (site_fields (plain_node c.args.self.now.node)) c.in_ok-write_site.ensures (then_field c.in_ok-write_member-2.ensures (both_sent (closing_fields w (plain_node c.args.self.now.node)) c.in_ok-write_closing.ensures (then_field c.in_ok-write_member-3.ensures (field_as (codes "answered") (each_seen (given_data w) plain_answer c.args.self.now.answered.items) c.in_ok-write_member-4.ensures)))))) h) c.end_map.ensures
