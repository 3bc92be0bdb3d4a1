use Rattle.std.proofs.lemmas.Result.{on_ok_weaker}
use Rattle.homeo_lines.proofs.Sent.{sent_of, field_sent, then_field}
use Rattle.homeo_live.specs.LiveView.{plain_node}
use Rattle.homeo_lines.specs.Written.{site_fields}
use Rattle.homeo_lines.proofs.state_writing.write_site.Goals as goal

pub returns : goal.returns
returns g c =
    on_ok_weaker c.write_member-4.result (λ h. sent_of (site_fields (plain_node c.args.node.now)) (then_field c.in_ok-write_member.ensures (then_field c.in_ok-write_member-2.ensures (then_field c.in_ok-write_member-3.ensures (field_sent h))))) c.write_member-4.ensures
