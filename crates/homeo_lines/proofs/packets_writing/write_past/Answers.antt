use Rattle.std.proofs.lemmas.Result.{on_ok_weaker}
use Rattle.homeo_syntax.specs.SourceView.{plain_workload}
use Rattle.homeo_lines.proofs.Sent.{sent_of, both_sent, field_as, each_seen}
use Rattle.std.specs.Prelude.{codes}
use Rattle.homeo_carry.specs.CarryView.{plain_said}
use Rattle.homeo_live.specs.LiveView.{plain_past}
use Rattle.homeo_lines.specs.Written.{breach_fields, said_data, past_fields}
use Rattle.homeo_lines.proofs.packets_writing.write_past.Goals as goal

pub returns : goal.returns
returns g c =
    let w = plain_workload c.args.catalogue.now in
    on_ok_weaker c.write_member.result (λ h. sent_of (past_fields w (plain_past c.args.past.now)) (both_sent (breach_fields w c.args.past.now.breach) c.in_ok-write_breach.ensures (field_as (codes "states") (each_seen (said_data w) plain_said c.args.past.now.states.items) h))) c.write_member.ensures
