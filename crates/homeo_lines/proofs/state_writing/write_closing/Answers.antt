use Rattle.std.proofs.lemmas.Result.{on_ok_weaker}
use Rattle.homeo_syntax.specs.SourceView.{plain_workload}
use Rattle.homeo_lines.proofs.Sent.{sent_of, then_field, then_as, field_as, maybe_seen, each_maybe_seen}
use Rattle.std.proofs.Common.{ap}
use Rattle.std.specs.Prelude.{codes}
use Rattle.serde_json.specs.Data.{string}
use Rattle.homeo_live.specs.LiveView.{plain_node}
use Rattle.homeo_carry.specs.CarryView.{plain_said}
use Rattle.homeo_live.specs.LiveView.{plain_past}
use Rattle.homeo_lines.specs.Written.{maybe_data, breach_data, said_data, past_data, closing_fields}
use Rattle.homeo_lines.proofs.state_writing.write_closing.Goals as goal

pub returns : goal.returns
returns g c =
    let w = plain_workload c.args.catalogue.now in
    on_ok_weaker c.write_member-5.result (λ h. sent_of (closing_fields w (plain_node c.args.node.now)) (then_as (codes "mode") (ap string c.mode_name.ensures) c.in_ok-write_member.ensures (then_as (codes "breach") (ap (maybe_data (breach_data w)) c.breach_of.ensures) c.in_ok-write_member-2.ensures (then_field c.in_ok-write_member-3.ensures (then_as (codes "states") (each_maybe_seen (said_data w) plain_said c.args.node.now.states.items) c.in_ok-write_member-4.ensures (field_as (codes "left") (maybe_seen (past_data w) plain_past c.args.node.now.past) h)))))) c.write_member-5.ensures
