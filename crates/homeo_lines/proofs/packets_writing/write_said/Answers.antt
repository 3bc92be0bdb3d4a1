use Rattle.std.proofs.lemmas.Result.{on_ok_weaker}
use Rattle.homeo_syntax.specs.SourceView.{plain_workload}
use Rattle.homeo_lines.proofs.Sent.{sent_of, fields_sent, then_field}
use Rattle.homeo_carry.specs.CarryView.{plain_said}
use Rattle.homeo_lines.specs.Written.{said_fields}
use Rattle.homeo_lines.proofs.packets_writing.write_said.Goals as goal

pub returns : goal.returns
returns g c =
    let w = plain_workload c.args.catalogue.now in
    on_ok_weaker c.write_calls.result (λ h. sent_of (said_fields w (plain_said c.args.said.now)) (then_field c.in_ok-write_member.ensures (fields_sent h))) c.write_calls.ensures
